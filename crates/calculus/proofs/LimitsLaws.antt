-- The limits of accepted terms in numbers and orders.
use Prim.Native.Nat.{ℕ, zero, suc, ◌-◌, ◌≤◌, ◌<◌}
use mathlib.Core.List.{List, ◌∷◌}
use mathlib.Core.Logic.{◌⊎◌, inl, inr, ⊎_elim}
use native.Mathlib.Omega.{arith}
use lib.ListN.{length, get_or}
use Rattle.calculus.specs.Term.{end, branch, Branches}
use Rattle.calculus.specs.Accepted.{free_limit, StartsAbove, Rising, InScope}
use Rattle.calculus.specs.Theorems.{tags, LimitsExact}

free_number : (d i : ℕ) → InScope d i → (i < d) ⊎ ((d ≤ i) × (i - d ≤ free_limit))
free_number d i h = ⊎_elim (λ b. inl b) (λ b. inr (b, omega arith)) (split d i)
  where
    split : (d i : ℕ) → (i < d) ⊎ (d ≤ i)
    split zero i = inr (omega arith)
    split (suc d) zero = inl (omega arith)
    split (suc d) (suc i) = ⊎_elim (λ h. inl (omega arith)) (λ h. inr (omega arith)) (split d i)

abbrev Ordered : List ℕ → Type 0
Ordered ts = (i j : ℕ) → i < j → j < length ts → get_or ts i 0 < get_or ts j 0

-- The first of rising branches has the lowest tag.
first_lowest : (t : ℕ) (bs : Branches) → StartsAbove t bs → Rising bs → (j : ℕ) → j < length (tags bs) → t < get_or (tags bs) j 0
first_lowest t end a r j h = absurd (omega arith)
first_lowest t (branch u n b bs) a r zero h = a
first_lowest t (branch u n b bs) a r (suc j) h = omega (arith, first_lowest u bs r.0 r.1 j (omega arith))

rising_ordered : (bs : Branches) → Rising bs → Ordered (tags bs)
rising_ordered end r i j h k = absurd (omega arith)
rising_ordered (branch t n b bs) r zero zero h k = absurd (omega arith)
rising_ordered (branch t n b bs) r zero (suc j) h k = first_lowest t bs r.0 r.1 j (omega arith)
rising_ordered (branch t n b bs) r (suc i) zero h k = absurd (omega arith)
rising_ordered (branch t n b bs) r (suc i) (suc j) h k = rising_ordered bs r.1 i j (omega arith) (omega arith)

ordered_above : (t : ℕ) (bs : Branches) → Ordered (t ∷ tags bs) → StartsAbove t bs
ordered_above t end o = tt
ordered_above t (branch u n b bs) o = o 0 1 (omega arith) (omega arith)

ordered_rising : (bs : Branches) → Ordered (tags bs) → Rising bs
ordered_rising end o = tt
ordered_rising (branch t n b bs) o =
    (ordered_above t bs o, ordered_rising bs (λ i j h k. o (suc i) (suc j) (omega arith) (omega arith)))

pub limits_exact : LimitsExact
limits_exact = (
  λ d i. (free_number d i, ⊎_elim (λ h. omega arith) (λ h. omega arith)),
  λ n. (λ h. h, λ h. h),
  λ bs. (λ h. (h.0, rising_ordered bs h.1), λ h. (h.0, ordered_rising bs h.1)),
)
