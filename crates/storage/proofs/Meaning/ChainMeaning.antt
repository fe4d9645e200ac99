-- The chain of records that refusal 5 follows, and what the chain means: as many records as there are arguments or branches, each of the right
-- kind, with the same tags.
use Prim.Native.Nat.{ℕ, suc}
use mathlib.Core.Path.{◌≡◌, refl, ap, sym, ◌∙◌}
use mathlib.Core.Bool.{true, false, and-eq-true_iff}
use mathlib.Core.Logic.{◌↔◌}
use lib.ListN.{length}
use borrow.Author.Tests.{ltb-true, lt-ltb, ne_eqb}
use Rattle.calculus.specs.Term.{term, terms, branches, Term, Terms, Branches, count}
use Rattle.calculus.specs.Words.{branch_kind, tag_of}
use Rattle.calculus.specs.Accepted.{StartsAbove, Rising}
use Rattle.storage.specs.Records.{Table}
use Rattle.storage.specs.Meaning.{Means, plain, case_of, no_term, a_term, no_branch, a_branch}
use Rattle.storage.specs.Children.{chain_from, is_branch, starts_above, chain_fits, subject_first}
use Rattle.storage.proofs.LinkRules.{Linked}
use Rattle.storage.proofs.Hanging.{chain-end, chain_next}
use Rattle.storage.proofs.Meaning.Nodes.{node-plain}
use Rattle.storage.proofs.Meaning.MeaningLaws.{term-inside}

pub term-not-branch : {T : Table} {i : ℕ} {t : Term} → Means T term i t → is_branch (T.at i) ≡ false
term-not-branch {T} {i} (plain k n m) = ne_eqb (T.at i).kind branch_kind (λ e. (node-plain n).no_branch (sym k.2 ∙ e))
term-not-branch (case_of k z m ms) = rw k.2

module _ (T : Table) (L : Linked T) where
  pub terms-chain : {l : ℕ} {xs : Terms} → Means T terms l xs → (length (chain_from T l) ≡ count xs) × (chain_fits false (chain_from T l) ≡ true)
  terms-chain no_term = rw (chain-end T 0 refl) (refl, refl)
  terms-chain {l} (a_term m ms) =
      let r = term-inside m in
      let later = terms-chain ms in
      rw (chain_next T L l r.0 r.1, term-not-branch m) (ap suc later.0, later.1)

  tags-chain : {l : ℕ} {bs : Branches} → Means T branches l bs → (t : ℕ) → (starts_above t (chain_from T l) ≡ true) ↔ StartsAbove t bs
  tags-chain no_branch t = rw (chain-end T 0 refl) (λ e. tt, λ e. refl)
  tags-chain {l} (a_branch k m ms) t = rw (chain_next T L l k.0 k.1) (ltb-true t _, lt-ltb t _)

  branches-chain : {l : ℕ} {bs : Branches} → Means T branches l bs
      → (length (chain_from T l) ≡ count bs) × ((chain_fits true (chain_from T l) ≡ true) ↔ Rising bs)
  branches-chain no_branch = rw (chain-end T 0 refl) (refl, (λ e. tt, λ e. refl))
  branches-chain {l} (a_branch k m ms) =
      let later = branches-chain ms in
      let tags = tags-chain ms (tag_of (T.at l).value) in
      let split = and-eq-true_iff (starts_above (tag_of (T.at l).value) (chain_from T (T.at l).next)) (chain_fits true (chain_from T (T.at l).next)) in
      rw (chain_next T L l k.0 k.1, k.2) (
        ap suc later.0,
        (
          λ e. (tags.0 (split.0 e).0, later.1.0 (split.0 e).1),
          λ e. split.1 (tags.1 e.0, later.1.1 e.1),
        ),
      )

  -- The children of a case, whose subject is the first of them.
  pub case-chain : {l : ℕ} {e : Term} {bs : Branches} → Means T term l e → Means T branches (T.at l).next bs
      → (length (chain_from T l) ≡ suc (count bs)) × ((subject_first (chain_from T l) ≡ true) ↔ Rising bs)
  case-chain {l} m ms =
      let r = term-inside m in
      let later = branches-chain ms in
      rw (chain_next T L l r.0 r.1, term-not-branch m) (ap suc later.0, later.1)
