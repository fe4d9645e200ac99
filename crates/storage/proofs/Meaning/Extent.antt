-- The number of records that hang at a link: the record that it names, all that belongs to it, and its later siblings with theirs. Where links name
-- later records and every record is named once, all records hang at the root.
use Prim.Native.Nat.{ℕ, suc, ◌+◌, ◌*◌, ◌≤◌}
use mathlib.Core.Path.{◌≡◌, ap, ap₂, sym, ◌∙◌}
use mathlib.Core.List.{[]}
use mathlib.Core.Logic.{◌⊎◌, inl, inr}
use native.Mathlib.Nat.{one-mul, add-mul}
use native.Mathlib.Omega.{arith}
use lib.ListN.{length-append}
use Rattle.calculus.specs.Term.{Sort, term, terms, branches, Exp}
use Rattle.calculus.specs.Words.{words, size}
use Rattle.storage.specs.Records.{Table, sum_of, hanging}
use Rattle.storage.specs.Meaning.{Means, plain, case_of, no_term, a_term, no_branch, a_branch}
use Rattle.storage.specs.Links.{naming, namings}
use Rattle.storage.proofs.Sums.{sum_eq, sum_ones, sum_add, sum_times, sum_swap, sum_unnamed, sum_named}
use Rattle.storage.proofs.LinkRules.{Ahead, Linked}
use Rattle.storage.proofs.Meaning.Nodes.{node-size}
use Rattle.storage.proofs.Hanging.{hanging_zero, hanging_record}

pub extent : Table → (link : ℕ) → ℕ
extent T l = hanging T 0 (λ i below after. suc (below + after)) T.n l

pub extent-zero : (T : Table) → extent T 0 ≡ 0
unfolding extent
extent-zero T = hanging_zero T 0 _ T.n

module _ (T : Table) (L : Linked T) where
  pub extent-record : (i : ℕ) → 1 ≤ i → i ≤ T.n → extent T i ≡ suc (extent T (T.at i).first + extent T (T.at i).next)
  unfolding extent
  extent-record i l u = hanging_record T 0 _ L i l u

  -- What hangs at a link, as a sum over the records that it names.
  over-named : (l : ℕ) → (l ≡ 0) ⊎ ((1 ≤ l) × (l ≤ T.n)) → sum_of T.n (λ i. naming l i * extent T i) ≡ extent T l
  over-named l (inl e) = rw e (sum_unnamed T.n 0 (extent T) (λ i v u z. omega arith) ∙ sym (extent-zero T))
  over-named l (inr h) = sum_named T.n l (extent T) h.0 h.1

  named : (i l : ℕ) → Ahead T i l → (l ≡ 0) ⊎ ((1 ≤ l) × (l ≤ T.n))
  named i l (inl e) = inl e
  named i l (inr a) = inr (omega arith, a.1)

  -- What hangs at both links of a record.
  below : ℕ → ℕ
  below j = extent T (T.at j).first + extent T (T.at j).next

  over-links : (j : ℕ) → 1 ≤ j → j ≤ T.n
      → sum_of T.n (λ i. (naming (T.at j).first i + naming (T.at j).next i) * extent T i) ≡ below j
  unfolding below
  over-links j l u =
      sum_eq T.n _ _ (λ i v w. add-mul (naming (T.at j).first i) (naming (T.at j).next i) (extent T i))
      ∙ sum_add T.n _ _
      ∙ ap₂ ◌+◌ (over-named _ (named j _ (L.first_ahead j l u))) (over-named _ (named j _ (L.next_ahead j l u)))

  -- Each record counted as often as links name it.
  over-namings : 1 ≤ T.root → T.root ≤ T.n → sum_of T.n (λ i. namings T i * extent T i) ≡ extent T T.root + sum_of T.n below
  unfolding namings
  over-namings l u =
      sum_eq T.n _ _
      (λ i v w.
      add-mul (naming T.root i) _ (extent T i)
      ∙ ap (λ x. naming T.root i * extent T i + x) (sum_times T.n _ (extent T i)))
      ∙ sum_add T.n _ _
      ∙ ap₂ ◌+◌ (over-named T.root (inr (l, u))) (sum_swap T.n T.n _ ∙ sum_eq T.n _ _ over-links)

  -- Counted once each, the records are as many as what hangs at the root.
  pub root-extent : 1 ≤ T.root → T.root ≤ T.n → extent T T.root ≡ T.n
  unfolding below
  root-extent l u = omega (arith, over-namings l u, once, each, sum_add T.n (λ i. 1) below, sum_ones T.n)
    where
      once : sum_of T.n (λ i. namings T i * extent T i) ≡ sum_of T.n (extent T)
      once = sum_eq T.n _ _ (λ i v w. rw (L.named_once i v w) (one-mul (extent T i)))

      each : sum_of T.n (extent T) ≡ sum_of T.n (λ i. 1 + below i)
      each = sum_eq T.n _ _ (λ i v w. omega (arith, extent-record i v w))

  -- The words of a meaning are the records that it is read from.
  abbrev Sized : {s : Sort} → ℕ → Exp s → Type 0
  Sized {s = term} i e = extent T i ≡ size e + extent T (T.at i).next
  Sized {s = terms} l e = extent T l ≡ size e
  Sized {s = branches} l e = extent T l ≡ size e

  pub means-sized : {s : Sort} {i : ℕ} {e : Exp s} → Means T s i e → Sized i e
  means-sized {i = i} (plain k n m) = omega (arith, extent-record i k.0 k.1, means-sized m, node-size n)
  means-sized {i = i} (case_of {e = e} {bs = bs} k z m ms) =
      omega (arith, extent-record i k.0 k.1, means-sized m, means-sized ms, length-append (words e) (words bs))
  means-sized no_term = extent-zero T
  means-sized (a_term {a = a} {xs = xs} m ms) = omega (arith, means-sized m, means-sized ms, length-append (words a) (words xs))
  means-sized no_branch = extent-zero T
  means-sized {i = i} (a_branch {b = b} {bs = bs} k m ms) =
      omega (arith, extent-record i k.0 k.1, means-sized m, means-sized ms, length-append (words b) [], length-append (words b) (words bs))
