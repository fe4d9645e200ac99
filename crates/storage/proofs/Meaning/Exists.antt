-- A table that meets none of refusals 3 to 5 means a term: the records from the last to the first, each from those that its links name.
use Prim.Native.Nat.{ℕ, zero, suc, ◌+◌, ◌≤◌, ◌<◌}
use mathlib.Core.Path.{◌≡◌, refl, ap}
use mathlib.Core.Bool.{true, false, not, and-eq-true_iff}
use mathlib.Core.Logic.{inl, inr}
use native.Mathlib.Decide.{ℕ_discrete}
use native.Mathlib.Omega.{arith}
use lib.Dec.{leb}
use lib.ListN.{length}
use borrow.Author.Tests.{leb-true, eqb-true, eqb-false, ne_eqb, not-true}
use Rattle.calculus.specs.Term.{term, terms, branches, Term, Terms, Branches, case, nil, cons, end, branch, count}
use Rattle.calculus.specs.Words.{case_kind, branch_kind, tag_of}
use Rattle.calculus.specs.Accepted.{branch_limit}
use Rattle.storage.specs.Records.{Table}
use Rattle.storage.specs.Meaning.{Means, plain, case_of, no_term, a_term, no_branch, a_branch}
use Rattle.storage.specs.Children.{children, chain_from, is_branch, starts_above, may_stand, chain_fits, subject_first, sorts_fit, children_fit}
use Rattle.storage.specs.Values.{value_fits, numberFits}
use Rattle.storage.proofs.LinkRules.{Ahead, ahead_from, Linked, Enough, nothing_left, next_enough, children_enough}
use Rattle.storage.proofs.Meaning.Nodes.{Plain, one-child, some-node}
use Rattle.storage.proofs.Meaning.ChainMeaning.{terms-chain}
use Rattle.storage.proofs.Hanging.{chain-end, chain_next}
use Rattle.storage.proofs.Fits.{Valued, known_kind, Fitted}

module _ (T : Table) (L : Linked T) (F : Fitted T) where
  -- Every later record that is no branch means a term.
  abbrev LaterMean : ℕ → Type 0
  LaterMean i = (j : ℕ) → i < j → j ≤ T.n → is_branch (T.at j) ≡ false → (t : Term) × Means T term j t

  -- The next sibling of a later record is later too.
  next-after : (i l : ℕ) → (i < l) × (l ≤ T.n) → Ahead T i (T.at l).next
  next-after i l a = ahead_from T i l _ (omega arith) (L.next_ahead l (omega arith) a.1)

  chain-terms : (i : ℕ) → LaterMean i → (b l : ℕ) → Enough T l b → Ahead T i l → chain_fits false (chain_from T l) ≡ true
      → (xs : Terms) × Means T terms l xs
  chain-terms i later zero l h a f = (nil, rw (nothing_left T l h) no_term)
  chain-terms i later (suc b) l h (inl e) f = (nil, rw e no_term)
  chain-terms i later (suc b) l h (inr a) f =
      let r : 1 ≤ l = omega arith in
      let both = (and-eq-true_iff (not (is_branch (T.at l))) (chain_fits false (chain_from T (T.at l).next))).0 (rw (chain_next T L l r a.1) at f) in
      let t = later l a.0 a.1 (not-true _ both.0) in
      let xs = chain-terms i later b (T.at l).next (next_enough T L l b r h) (next-after i l a) both.1 in
      (cons t.0 xs.0, a_term t.1 xs.1)

  later-after : (i j : ℕ) → i ≤ j → LaterMean i → LaterMean j
  later-after i j h later k v = later k (omega arith)

  -- The children of a record of another kind than a case.
  child-terms : (i : ℕ) → LaterMean i → 1 ≤ i → i ≤ T.n → (kind : ℕ) → (T.at i).kind ≡ kind → (kind ≡ case_kind → ⊥)
      → (xs : Terms) × Means T terms (T.at i).first xs × (numberFits kind (count xs) ≡ true)
  unfolding children_fit
  child-terms i later l u kind k other =
      let rs = children T i in
      let both = (and-eq-true_iff (numberFits kind (length rs)) (sorts_fit kind rs)).0 (rw k at (F.children-fit i l u)) in
      let fit : chain_fits false rs ≡ true = rw (ne_eqb kind case_kind other) at both.1 in
      let xs = chain-terms i later T.n (T.at i).first (children_enough T L i l u) (L.first_ahead i l u) fit in
      let counted = (terms-chain T L xs.1).0 in
      (xs.0, xs.1, rw counted at both.0)

  chain-branches : (i : ℕ) → LaterMean i → (b l : ℕ) → Enough T l b → Ahead T i l → chain_fits true (chain_from T l) ≡ true
      → (bs : Branches) × Means T branches l bs
  chain-branches i later zero l h a f = (end, rw (nothing_left T l h) no_branch)
  chain-branches i later (suc b) l h (inl e) f = (end, rw e no_branch)
  chain-branches i later (suc b) l h (inr a) f =
      let r : 1 ≤ l = omega arith in
      let rs = chain_from T (T.at l).next in
      let both = (and-eq-true_iff (may_stand true (T.at l) rs) (chain_fits true rs)).0 (rw (chain_next T L l r a.1) at f) in
      let own = ((and-eq-true_iff (is_branch (T.at l)) (starts_above (tag_of (T.at l).value) rs)).0 both.0).0 in
      let k : (T.at l).kind ≡ branch_kind = eqb-true _ branch_kind own in
      let body = child-terms l (later-after i l (omega arith) later) r a.1 branch_kind k (λ e. omega arith) in
      let bs = chain-branches i later b (T.at l).next (next_enough T L l b r h) (next-after i l a) both.1 in
      let child = one-child body.0 (eqb-true _ 1 body.2) in
      (branch _ _ child.0 bs.0, a_branch (r, a.1, k) (rw child.1 at body.1) bs.1)

  subject-and-branches : (i : ℕ) → LaterMean i → (b l : ℕ) → Enough T l b → Ahead T i l → 1 ≤ length (chain_from T l) → subject_first (chain_from T l) ≡ true
      → (e : Term) × (bs : Branches) × Means T term l e × Means T branches (T.at l).next bs
  subject-and-branches i later zero l h a some f = absurd (omega (arith, ap length (chain-end T l (nothing_left T l h))))
  subject-and-branches i later (suc b) l h (inl e) some f = absurd (omega (arith, ap length (chain-end T l e)))
  subject-and-branches i later (suc b) l h (inr a) some f =
      let r : 1 ≤ l = omega arith in
      let both = (and-eq-true_iff (not (is_branch (T.at l))) (chain_fits true (chain_from T (T.at l).next))).0 (rw (chain_next T L l r a.1) at f) in
      let e = later l a.0 a.1 (not-true _ both.0) in
      let bs = chain-branches i later b (T.at l).next (next_enough T L l b r h) (next-after i l a) both.1 in
      (e.0, bs.0, e.1, bs.1)

  module _ (values : Valued T) where
    case-means : (i : ℕ) → LaterMean i → 1 ≤ i → i ≤ T.n → (T.at i).kind ≡ case_kind → (t : Term) × Means T term i t
    unfolding children_fit value_fits
    case-means i later l u k =
        let rs = children T i in
        let both = (and-eq-true_iff (numberFits case_kind (length rs)) (subject_first rs)).0 (rw k at (F.children-fit i l u)) in
        let some = leb-true 1 (length rs) ((and-eq-true_iff (leb 1 (length rs)) (leb (length rs) (suc branch_limit))).0 both.0).0 in
        let parts = subject-and-branches i later T.n (T.at i).first (children_enough T L i l u) (L.first_ahead i l u) some both.1 in
        let none : (T.at i).value ≡ 0 = eqb-true _ 0 (rw k at (values.value-fits i l u)) in
        (case parts.0 parts.1, case_of (l, u, k) none parts.2 parts.3)

    plain-means : (i : ℕ) → LaterMean i → 1 ≤ i → i ≤ T.n → Plain (T.at i).kind → (t : Term) × Means T term i t
    plain-means i later l u h =
        let xs = child-terms i later l u (T.at i).kind refl h.no-case in
        let t = some-node (T.at i).kind (T.at i).value xs.0 h (values.value-fits i l u) xs.2 in
        (t.0, plain (l, u, refl) t.1 xs.1)

    pub record-means : (k i : ℕ) → 1 ≤ i → i ≤ T.n → T.n < i + k → is_branch (T.at i) ≡ false → (t : Term) × Means T term i t
    record-means zero i l u h f = absurd (omega arith)
    record-means (suc k) i l u h f =
        let later : LaterMean i = λ j v w. record-means k j (omega arith) w (omega arith) in
        elim (ℕ_discrete (T.at i).kind case_kind) [
          | yes e ↦ case-means i later l u e
          | no n ↦ plain-means i later l u
              (record { no-case = n; no_branch = eqb-false (T.at i).kind branch_kind f; known = known_kind values i l u })
        ]
