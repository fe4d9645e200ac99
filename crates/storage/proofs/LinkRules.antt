-- The two link rules as statements about every record, and what refusal 4 tests.
use Prim.Native.Nat.{ℕ, zero, suc, ◌+◌, ◌≤◌, ◌<◌}
use mathlib.Core.Path.{◌≡◌, refl, ap, ◌∙◌}
use mathlib.Core.Bool.{Bool, true, false, not, ◌&&◌, ◌||◌, and-eq-true_iff, or-true}
use mathlib.Core.Logic.{◌⊎◌, inl, inr}
use native.Mathlib.Decide.{ℕ_discrete}
use native.Mathlib.Omega.{arith}
use lib.Dec.{leb, ltb, eqb}
use borrow.Author.Tests.{leb-true, le-leb, ltb-true, lt-ltb, eqb-true, eq-eqb, not-false}
use Rattle.storage.specs.Records.{Table, everyOf, sum_of}
use Rattle.storage.specs.Links.{link_fits, links_fit, naming, namings, wrong_link}
use Rattle.storage.proofs.Sums.{every_at, every_of, sum_eq, sum_zeros, naming-other}

-- A link of record i that is not 0 names a later record.
abbrev pub Ahead : Table → (i link : ℕ) → Type 0
Ahead T i l = (l ≡ 0) ⊎ ((i < l) × (l ≤ T.n))

pub ahead_later : (T : Table) (i l : ℕ) → Ahead T i l → 1 ≤ l → i < l
ahead_later T i l (inl e) h = absurd (omega arith)
ahead_later T i l (inr a) h = a.0

pub ahead_from : (T : Table) (i j l : ℕ) → i ≤ j → Ahead T j l → Ahead T i l
ahead_from T i j l h (inl e) = inl e
ahead_from T i j l h (inr a) = inr (omega arith, a.1)

pub record Linked (T : Table) : Type 0 where
  pub first_ahead : (i : ℕ) → 1 ≤ i → i ≤ T.n → Ahead T i (T.at i).first
  pub next_ahead : (i : ℕ) → 1 ≤ i → i ≤ T.n → Ahead T i (T.at i).next
  pub named_once : (i : ℕ) → 1 ≤ i → i ≤ T.n → namings T i ≡ 1

fits_ahead : (T : Table) (i l : ℕ) → link_fits T.n i l ≡ true → Ahead T i l
fits_ahead T i l h = go (eqb l 0) refl h
  where
    go : (b : Bool) → eqb l 0 ≡ b → (b || (ltb i l && leb l T.n)) ≡ true → Ahead T i l
    go true e k = inl (eqb-true l 0 e)
    go false e k = let both = (and-eq-true_iff (ltb i l) (leb l T.n)).0 k in inr (ltb-true i l both.0, leb-true l T.n both.1)

ahead_fits : (T : Table) (i l : ℕ) → Ahead T i l → link_fits T.n i l ≡ true
ahead_fits T i l (inl e) = ap (λ b. b || (ltb i l && leb l T.n)) (eq-eqb l 0 e)
ahead_fits T i l (inr a) =
    ap (λ b. eqb l 0 || b) ((and-eq-true_iff (ltb i l) (leb l T.n)).1 (lt-ltb i l a.0, le-leb l T.n a.1)) ∙ or-true (eqb l 0)

pub linked : (T : Table) → wrong_link T ≡ false → Linked T
unfolding wrong_link
linked T h =
    record {
      first_ahead = λ i l u. fits_ahead T i (T.at i).first (links i l u).0;
      next_ahead = λ i l u. fits_ahead T i (T.at i).next (links i l u).1;
      named_once = λ i l u. eqb-true (namings T i) 1 (every_at T.n (λ j. eqb (namings T j) 1) rules.1 i l u);
    }
  where
    rules : (everyOf T.n (links_fit T) ≡ true) × (everyOf T.n (λ i. eqb (namings T i) 1) ≡ true)
    rules = (and-eq-true_iff _ _).0 (not-false _ h)

    links : (i : ℕ) → 1 ≤ i → i ≤ T.n → (link_fits T.n i (T.at i).first ≡ true) × (link_fits T.n i (T.at i).next ≡ true)
    links i l u = (and-eq-true_iff _ _).0 (every_at T.n (links_fit T) rules.0 i l u)

pub linked_passes : (T : Table) → Linked T → wrong_link T ≡ false
unfolding wrong_link
linked_passes T L =
    ap not
    ((and-eq-true_iff _ _).1 (
      every_of T.n (links_fit T) (λ i l u. (and-eq-true_iff _ _).1 (ahead_fits T i _ (L.first_ahead i l u), ahead_fits T i _ (L.next_ahead i l u))),
      every_of T.n (λ i. eqb (namings T i) 1) (λ i l u. eq-eqb _ 1 (L.named_once i l u)),
    ))

-- A bound on the steps from a link that is never reached.
abbrev pub Enough : Table → (link bound : ℕ) → Type 0
Enough T l k = (l ≡ 0) ⊎ ((1 ≤ l) × (l ≤ T.n) × (T.n < l + k))

enough_ahead : (T : Table) (i l k : ℕ) → T.n < i + suc k → Ahead T i l → Enough T l k
enough_ahead T i l k h (inl e) = inl e
enough_ahead T i l k h (inr a) = inr (omega arith, a.1, omega arith)

pub nothing_left : (T : Table) (l : ℕ) → Enough T l zero → l ≡ 0
nothing_left T l (inl e) = e
nothing_left T l (inr h) = absurd (omega arith)

pub first_enough : (T : Table) → Linked T → (l k : ℕ) → 1 ≤ l → Enough T l (suc k) → Enough T (T.at l).first k
first_enough T L l k v (inl e) = absurd (omega arith)
first_enough T L l k v (inr h) = enough_ahead T l (T.at l).first k h.2 (L.first_ahead l h.0 h.1)

pub next_enough : (T : Table) → Linked T → (l k : ℕ) → 1 ≤ l → Enough T l (suc k) → Enough T (T.at l).next k
next_enough T L l k v (inl e) = absurd (omega arith)
next_enough T L l k v (inr h) = enough_ahead T l (T.at l).next k h.2 (L.next_ahead l h.0 h.1)

pub children_enough : (T : Table) → Linked T → (i : ℕ) → 1 ≤ i → i ≤ T.n → Enough T (T.at i).first T.n
children_enough T L i l u = first_enough T L i T.n l (inr (l, u, omega arith))

-- No record can name record 1, so the root is it.
pub root_first : (T : Table) → Linked T → 1 ≤ T.n → T.root ≡ 1
unfolding namings
root_first T L h =
    elim (ℕ_discrete T.root 1) [
      | yes e ↦ e
      | no v ↦ absurd (omega (arith, L.named_once 1 (omega arith) h, naming-other T.root 1 v, others ∙ sum_zeros T.n))
    ]
  where
    above : (i l : ℕ) → 1 ≤ i → Ahead T i l → naming l 1 ≡ 0
    above i l v (inl e) = naming-other l 1 (λ z. omega arith)
    above i l v (inr a) = naming-other l 1 (λ z. omega arith)

    others : sum_of T.n (λ j. naming (T.at j).first 1 + naming (T.at j).next 1) ≡ sum_of T.n (λ j. 0)
    others = sum_eq T.n _ _ (λ j v u. omega (arith, above j _ v (L.first_ahead j v u), above j _ v (L.next_ahead j v u)))
