-- What a table means is accepted where the table meets none of refusals 3 to 6: tags by 3, counts and rising tags by 5, free numbers by 6.
use Prim.Native.Nat.{ℕ, suc, ◌+◌, ◌≤◌}
use mathlib.Core.Path.{◌≡◌}
use mathlib.Core.Bool.{true, and-eq-true_iff}
use native.Mathlib.Omega.{arith}
use lib.Dec.{leb}
use lib.ListN.{length}
use borrow.Author.Tests.{leb-true}
use Rattle.calculus.specs.Term.{Sort, term, terms, branches, Exp, Term, Terms, Branches, count}
use Rattle.calculus.specs.Words.{case_kind, branch_kind, tag_of, count_of}
use Rattle.calculus.specs.Accepted.{branch_limit, index_limit, Rising, Pattern, Scoped, Accepted}
use Rattle.calculus.specs.Theorems.{Packable}
use Rattle.calculus.proofs.WordLaws.{accepted_packable}
use Rattle.calculus.proofs.PatternLaws.{pattern_fits}
use Rattle.storage.specs.Records.{Table, OfKind}
use Rattle.storage.specs.Meaning.{Means, plain, case_of, no_term, a_term, no_branch, a_branch}
use Rattle.calculus.specs.Payload.{payload_fits}
use Rattle.storage.specs.Values.{value_fits, numberFits}
use Rattle.storage.specs.Children.{children, subject_first, sorts_fit, children_fit}
use Rattle.storage.proofs.Meaning.Nodes.{node-accepted, node-scoped}
use Rattle.storage.proofs.LinkRules.{Linked}
use Rattle.storage.proofs.Meaning.ChainMeaning.{terms-chain, case-chain}
use Rattle.storage.proofs.Fits.{Valued, Fitted}

module _ (T : Table) (L : Linked T) (values : Valued T) (fits : Fitted T) where
  number_fits : {i kind : ℕ} {xs : Terms} → OfKind T kind i → Means T terms (T.at i).first xs → numberFits kind (count xs) ≡ true
  unfolding children_fit
  number_fits {i} {kind} k m =
      let tested = ((and-eq-true_iff (numberFits kind (length (children T i))) (sorts_fit kind (children T i))).0 (rw k.2 at (fits.children-fit i k.0 k.1))).0 in
      rw (terms-chain T L m).0 at tested

  value_of : {i kind : ℕ} → OfKind T kind i → value_fits kind (T.at i).value ≡ true
  value_of {i} k = rw k.2 at (values.value-fits i k.0 k.1)

  case-fits : {i : ℕ} {e : Term} {bs : Branches} → OfKind T case_kind i → Means T term (T.at i).first e
      → Means T branches (T.at (T.at i).first).next bs → (count bs ≤ branch_limit) × Rising bs
  unfolding children_fit
  case-fits {i} {bs = bs} k m ms =
      let rs = children T i in
      let both = (and-eq-true_iff (numberFits case_kind (length rs)) (subject_first rs)).0 (rw k.2 at (fits.children-fit i k.0 k.1)) in
      let most = leb-true (length rs) (suc branch_limit) ((and-eq-true_iff (leb 1 (length rs)) (leb (length rs) (suc branch_limit))).0 both.0).1 in
      let counted = case-chain T L m ms in
      (omega (arith, counted.0), counted.1.0 both.1)

  branch_fits : {i : ℕ} → OfKind T branch_kind i → Pattern (tag_of (T.at i).value) (count_of (T.at i).value)
  unfolding value_fits payload_fits
  branch_fits k = pattern_fits _ _ (value_of k)

  pub means-accepted : {s : Sort} {i : ℕ} {e : Exp s} → Means T s i e → (d : ℕ) → Scoped d e → Accepted d e
  means-accepted (plain k n m) d f = node-accepted n d (value_of k) (number_fits k m) (λ d' g. means-accepted m d' g) f
  means-accepted (case_of k z m ms) d f = (case-fits k m ms, means-accepted m d f.1, means-accepted ms d f.2)
  means-accepted no_term d f = tt
  means-accepted (a_term m ms) d f = (means-accepted m d f.0, means-accepted ms d f.1)
  means-accepted no_branch d f = tt
  means-accepted (a_branch k m ms) d f = (branch_fits k, (means-accepted m _ (f.1, tt)).0, means-accepted ms d f.2)

  -- No index of it passes what a record can hold, so that its counts are those of its words whatever its free numbers.
  free-large : {s : Sort} {i : ℕ} {e : Exp s} → Means T s i e → (d : ℕ) → index_limit ≤ d → Scoped d e
  free-large (plain k n m) d h = node-scoped n d (value_of k) (λ d' l. free-large m d' l) h
  free-large (case_of k z m ms) d h = (tt, free-large m d h, free-large ms d h)
  free-large no_term d h = tt
  free-large (a_term m ms) d h = (free-large m d h, free-large ms d h)
  free-large no_branch d h = tt
  free-large {i = i} (a_branch k m ms) d h =
      (tt, (free-large m (d + count_of (T.at i).value) (omega arith)).0, free-large ms d h)

  pub means-packable : {s : Sort} {i : ℕ} {e : Exp s} → Means T s i e → Packable e
  means-packable {e = e} m = accepted_packable index_limit e (means-accepted m index_limit (free-large m index_limit (omega arith)))
