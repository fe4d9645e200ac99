-- Where the records of a table are in prefix order, those that a meaning is read from are the records of what is meant, where they stand.
use Prim.Native.Nat.{ℕ, suc, ◌+◌, ◌≤◌}
use mathlib.Core.Path.{◌≡◌, refl, sym, ◌∙◌}
use mathlib.Core.List.{[], append-nil}
use mathlib.Core.Logic.{◌⊎◌, inl, inr}
use native.Mathlib.Omega.{arith}
use lib.ListN.{length-append}
use Rattle.calculus.specs.Term.{Sort, term, terms, branches, Exp, nil, Term}
use Rattle.calculus.specs.Words.{words, size, branch_kind, pack, tag_of, count_of}
use Rattle.calculus.proofs.WordLaws.{pack_of_parts}
use Rattle.storage.specs.Records.{Table}
use Rattle.storage.specs.Meaning.{Means, plain, case_of, no_term, a_term, no_branch, a_branch}
use Rattle.storage.specs.PrefixOrder.{Fills, nothing, chained}
use Rattle.storage.specs.Write.{link_to, records}
use Rattle.storage.proofs.Meaning.Nodes.{node-size, node-records}
use Rattle.storage.proofs.Meaning.MeaningLaws.{term-inside}
use Rattle.storage.proofs.Written.Standing.{Stand, stand-with, link-cons, link_branch}

-- A link is 0 and fills nothing, or it names the first record that it fills; that record's children fill what is right after it.
fills-cases : {T : Table} {l i k : ℕ} → Fills T l i k
    → ((l ≡ 0) × (i ≡ k)) ⊎ ((l ≡ i) × ((j : ℕ) × Fills T (T.at i).first (suc i) j × Fills T (T.at i).next j k))
fills-cases nothing = inl (refl, refl)
fills-cases (chained {j = j} f g) = inr (refl, (j, f, g))

empty-fills : {T : Table} {i k : ℕ} → 1 ≤ i → Fills T 0 i k → k ≡ i
empty-fills {T} {i} {k} h f = elim (fills-cases f) [ inl e ↦ sym e.1 | inr e ↦ absurd (omega arith) ]

pub record-fills : {T : Table} {l i k : ℕ} → 1 ≤ l → Fills T l i k
    → (l ≡ i) × ((j : ℕ) × Fills T (T.at i).first (suc i) j × Fills T (T.at i).next j k)
record-fills h f = elim (fills-cases f) [ inl e ↦ absurd (omega arith) | inr e ↦ e ]

pub fills_first : {T : Table} {l i k : ℕ} → 1 ≤ l → Fills T l i k → l ≡ i
fills_first h f = (record-fills h f).0

fills-from : {T : Table} {l i j k : ℕ} → i ≡ j → Fills T l i k → Fills T l j k
fills-from {k = k} e f = rw (← e) f

abbrev Stands : Table → {s : Sort} → ℕ → Exp s → Type 0
Stands T {s = term} i e = (k : ℕ) → Fills T i i k → Stand T i (records i (T.at i).next e) × Fills T (T.at i).next (i + size e) k
Stands T {s = terms} l e = (i k : ℕ) → 1 ≤ i → Fills T l i k → Stand T i (records i 0 e) × (l ≡ link_to i e) × (k ≡ i + size e)
Stands T {s = branches} l e = (i k : ℕ) → 1 ≤ i → Fills T l i k → Stand T i (records i 0 e) × (l ≡ link_to i e) × (k ≡ i + size e)

module _ (T : Table) where
  in-order-stands : {s : Sort} {i : ℕ} {e : Exp s} → Means T s i e → Stands T i e
  in-order-stands {i = i} (plain k n m) = λ to f.
      let parts = (record-fills k.0 f).1 in
      let below = in-order-stands m (suc i) parts.0 (omega arith) parts.1 in
      (rw (node-records n i _) (record { kind = k.2; value = refl; first = below.1; next = refl }, below.0), fills-from (omega (arith, node-size n)) parts.2)
  in-order-stands {i = i} (case_of {e = e} {bs = bs} k z m ms) = λ n f.
      let parts = (record-fills k.0 f).1 in
      let here : (T.at i).first ≡ suc i = fills_first (term-inside m).0 parts.1 in
      let subject = rw here at (in-order-stands m) in
      let rest = rw here at (in-order-stands ms) in
      let first = subject parts.0 (rw here at parts.1) in
      let later = rest (suc i + size e) parts.0 (omega arith) first.1 in (
        (
          record { kind = k.2; value = z; first = here; next = refl },
          stand-with T e bs (suc i) (link_to (suc i + size e) bs) 0 (rw later.1 at first.0) later.0,
        ),
        fills-from (omega (arith, length-append (words e) (words bs))) parts.2,
      )
  in-order-stands no_term = λ i k h f. (tt, refl, omega (arith, empty-fills h f))
  in-order-stands {i = l} (a_term {a = a} {xs = xs} m ms) = λ i k h f.
      let here = fills_first (term-inside m).0 f in
      let first = (rw here at (in-order-stands m)) k (rw here at f) in
      let later = (rw here at (in-order-stands ms)) (i + size a) k (omega arith) first.1 in (
        stand-with T a xs i (link_to (i + size a) xs) 0 (rw later.1 at first.0) later.0,
        here ∙ sym (link-cons i a xs),
        omega (arith, later.2, length-append (words a) (words xs)),
      )
  in-order-stands no_branch = λ i k h f. (tt, refl, omega (arith, empty-fills h f))
  in-order-stands {i = l} (a_branch {b = b} {bs = bs} k m ms) = λ i n h f.
      let here = fills_first k.0 f in
      let parts = (record-fills k.0 f).1 in
      let below = (rw here at (in-order-stands m)) (suc i) parts.0 (omega arith) parts.1 in
      let after : parts.0 ≡ suc i + size b = omega (arith, length-append (words b) []) in
      let later = (rw here at (in-order-stands ms)) (suc i + size b) n (omega arith) (fills-from after parts.2) in
      let kind : (T.at i).kind ≡ branch_kind = rw here at k.2 in
      let value : (T.at i).value ≡ pack (tag_of (T.at l).value) (count_of (T.at l).value) = rw here (sym (pack_of_parts (T.at i).value)) in (
        (
          record { kind = kind; value = value; first = below.1 ∙ link-cons (suc i) b nil; next = later.1 },
          stand-with T b bs (suc i) 0 0 (rw append-nil at below.0) later.0,
        ),
        here ∙ sym (link_branch i (tag_of (T.at l).value) (count_of (T.at l).value) b bs),
        omega (arith, later.2, length-append (words b) (words bs)),
      )

-- A term that fills the records from 1 on is the first of them.
pub root_stands : (T : Table) (t : Term) (root k : ℕ) → (T.at root).next ≡ 0 → Means T term root t → Fills T root 1 k
    → (root ≡ 1) × Stand T 1 (records 1 0 t)
root_stands T t root k last m f =
    let here : root ≡ 1 = fills_first (term-inside m).0 f in
    let stands = (in-order-stands T m k (rw here (rw here at f))).0 in
    (here, rw (last, here) at stands)
