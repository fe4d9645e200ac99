-- Tests of every index from 1 to n, and sums over these indices.
use Prim.Native.Nat.{ℕ, zero, suc, ◌+◌, ◌*◌, ◌≤◌}
use mathlib.Core.Path.{◌≡◌, refl, ap, ap₂, sym, ◌∙◌}
use mathlib.Core.Bool.{Bool, true, and-eq-true_iff}
use mathlib.Core.Logic.{inl, inr}
use native.Mathlib.Nat.{zero-mul, one-mul, add-mul, mul-suc, eq-or-lt_of_le}
use native.Mathlib.Decide.{ℕ_discrete}
use native.Mathlib.Omega.{arith}
use borrow.Author.Tests.{eq-eqb, ne_eqb}
use Rattle.storage.specs.Records.{Table, everyOf, sum_of}
use Rattle.storage.specs.Links.{naming}

pub every_at : (n : ℕ) (p : ℕ → Bool) → everyOf n p ≡ true → (i : ℕ) → 1 ≤ i → i ≤ n → p i ≡ true
every_at zero p h i l u = absurd (omega arith)
every_at (suc n) p h i l u = elim (eq-or-lt_of_le u) [ inl e ↦ rw e both.1 | inr v ↦ every_at n p both.0 i l (omega arith) ]
  where
    both : (everyOf n p ≡ true) × (p (suc n) ≡ true)
    both = (and-eq-true_iff (everyOf n p) (p (suc n))).0 h

pub every_of : (n : ℕ) (p : ℕ → Bool) → ((i : ℕ) → 1 ≤ i → i ≤ n → p i ≡ true) → everyOf n p ≡ true
every_of zero p h = refl
every_of (suc n) p h =
    (and-eq-true_iff (everyOf n p) (p (suc n))).1 (every_of n p (λ i l u. h i l (omega arith)), h (suc n) (omega arith) (omega arith))

pub sum_eq : (n : ℕ) (f g : ℕ → ℕ) → ((i : ℕ) → 1 ≤ i → i ≤ n → f i ≡ g i) → sum_of n f ≡ sum_of n g
sum_eq zero f g h = refl
sum_eq (suc n) f g h = ap₂ ◌+◌ (sum_eq n f g (λ i l u. h i l (omega arith))) (h (suc n) (omega arith) (omega arith))

pub sum_ones : (n : ℕ) → sum_of n (λ i. 1) ≡ n
sum_ones zero = refl
sum_ones (suc n) = omega (arith, sum_ones n)

pub sum_zeros : (n : ℕ) → sum_of n (λ i. 0) ≡ 0
sum_zeros zero = refl
sum_zeros (suc n) = omega (arith, sum_zeros n)

pub sum_most : (n : ℕ) (f : ℕ → ℕ) (most : ℕ) → ((i : ℕ) → f i ≤ most) → sum_of n f ≤ most * n
sum_most zero f most h = omega arith
sum_most (suc n) f most h = omega (arith, sum_most n f most h, h (suc n), mul-suc most n)

pub sum_add : (n : ℕ) (f g : ℕ → ℕ) → sum_of n (λ i. f i + g i) ≡ sum_of n f + sum_of n g
sum_add zero f g = refl
sum_add (suc n) f g = omega (arith, sum_add n f g)

pub sum_times : (n : ℕ) (f : ℕ → ℕ) (c : ℕ) → sum_of n f * c ≡ sum_of n (λ i. f i * c)
sum_times zero f c = zero-mul c
sum_times (suc n) f c = add-mul (sum_of n f) (f (suc n)) c ∙ ap (λ x. x + f (suc n) * c) (sum_times n f c)

pub sum_swap : (n m : ℕ) (f : ℕ → ℕ → ℕ) → sum_of n (λ i. sum_of m (f i)) ≡ sum_of m (λ j. sum_of n (λ i. f i j))
sum_swap zero m f = sym (sum_zeros m)
sum_swap (suc n) m f =
    ap (λ x. x + sum_of m (f (suc n))) (sum_swap n m f) ∙ sym (sum_add m (λ j. sum_of n (λ i. f i j)) (f (suc n)))

-- A sum is no less than each term; if it is not 0, neither is one of its terms; and if it is at most 1, no two of them are.
pub sum_least : (n : ℕ) (f : ℕ → ℕ) (j : ℕ) → 1 ≤ j → j ≤ n → f j ≤ sum_of n f
sum_least zero f j l u = absurd (omega arith)
sum_least (suc n) f j l u =
    elim (eq-or-lt_of_le u) [ inl e ↦ omega (arith, ap f e) | inr v ↦ omega (arith, sum_least n f j l (omega arith)) ]

pub sum_some : (n : ℕ) (f : ℕ → ℕ) → 1 ≤ sum_of n f → (j : ℕ) × (1 ≤ j) × (j ≤ n) × (1 ≤ f j)
sum_some zero f h = absurd (omega arith)
sum_some (suc n) f h =
    elim (ℕ_discrete (f (suc n)) 0) [
      | yes e ↦ let (j, l, u, v) = sum_some n f (omega arith) in (j, l, omega arith, v)
      | no v ↦ (suc n, omega arith, omega arith, omega (arith, v))
    ]

pub sum_one : (n : ℕ) (f : ℕ → ℕ) (j k : ℕ) → sum_of n f ≤ 1 → 1 ≤ j → j ≤ n → 1 ≤ f j → 1 ≤ k → k ≤ n → 1 ≤ f k → j ≡ k
sum_one zero f j k h l u a m v b = absurd (omega arith)
sum_one (suc n) f j k h l u a m v b =
    elim (eq-or-lt_of_le u) [
      | inl e ↦ elim (eq-or-lt_of_le v)
          [ inl q ↦ e ∙ sym q | inr w ↦ absurd (omega (arith, ap f e, sum_least n f k m (omega arith))) ]
      | inr w ↦ elim (eq-or-lt_of_le v) [
        | inl q ↦ absurd (omega (arith, ap f q, sum_least n f j l (omega arith)))
        | inr x ↦ sum_one n f j k (omega arith) l (omega arith) a m (omega arith) b
      ]
    ]

-- Of the indices from 1 to n a link counts the one that it names, and no other.
pub naming_itself : (l i : ℕ) → l ≡ i → naming l i ≡ 1
naming_itself l i e = rw (eq-eqb l i e)

pub naming-other : (l i : ℕ) → (l ≡ i → ⊥) → naming l i ≡ 0
naming-other l i h = rw (ne_eqb l i h)

times_itself : (l i c : ℕ) → l ≡ i → naming l i * c ≡ c
times_itself l i c e = rw (naming_itself l i e) (one-mul c)

times_other : (l i c : ℕ) → (l ≡ i → ⊥) → naming l i * c ≡ 0
times_other l i c h = rw (naming-other l i h) (zero-mul c)

pub sum_unnamed : (n l : ℕ) (f : ℕ → ℕ) → ((i : ℕ) → 1 ≤ i → i ≤ n → l ≡ i → ⊥) → sum_of n (λ i. naming l i * f i) ≡ 0
sum_unnamed n l f h = sum_eq n _ (λ i. 0) (λ i v u. times_other l i (f i) (h i v u)) ∙ sum_zeros n

pub sum_named : (n l : ℕ) (f : ℕ → ℕ) → 1 ≤ l → l ≤ n → sum_of n (λ i. naming l i * f i) ≡ f l
sum_named zero l f h u = absurd (omega arith)
sum_named (suc n) l f h u =
    elim (eq-or-lt_of_le u) [
      | inl e ↦ omega (arith, sum_unnamed n l f (λ i v w q. omega arith), times_itself l (suc n) (f (suc n)) e, ap f e)
      | inr v ↦ omega (arith, sum_named n l f h (omega arith), times_other l (suc n) (f (suc n)) (λ q. omega arith))
    ]

-- How many links of record k name record j.
abbrev pub links_to : Table → (j k : ℕ) → ℕ
links_to T j k = naming (T.at k).first j + naming (T.at k).next j

-- A sum of terms that are 0 but for one is that one.
pub sum_only : (n : ℕ) (f : ℕ → ℕ) (j : ℕ) → 1 ≤ j → j ≤ n → ((k : ℕ) → 1 ≤ k → k ≤ n → (k ≡ j → ⊥) → f k ≡ 0) → sum_of n f ≡ f j
sum_only n f j l u h = sum_eq n f (λ k. naming j k * f k) (λ k v w. only k v w (ℕ_discrete j k)) ∙ sum_named n j f l u
  where
    only : (k : ℕ) → 1 ≤ k → k ≤ n → Dec (j ≡ k) → f k ≡ naming j k * f k
    only k v w (yes e) = sym (times_itself j k (f k) e)
    only k v w (no x) = h k v w (λ e. x (sym e)) ∙ sym (times_other j k (f k) x)
