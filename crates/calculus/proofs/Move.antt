-- A move of an index is the sum of integers, at every index that the sum leaves at 0 or above.
use Prim.Native.Nat.{ℕ, zero, suc, ◌-◌}
use mathlib.Core.Path.{◌≡◌, refl}
use mathlib.Core.Bool.{Bool, true, false, cond}
use lib.Dec.{ltb}
use native.Mathlib.Omega.{arith}
use lib.IntN.{pos, negsuc, neg_ℤ}
use Rattle.calculus.specs.Shift.{move}
use Rattle.calculus.specs.Theorems.{MoveExact}

pub move_exact : MoveExact
move_exact (pos m) i n q = cc
move_exact (negsuc m) i n q = go (ltb i (suc m)) q
  where
    go : (b : Bool) → cond b (negsuc (suc m - suc i)) (pos (i - suc m)) ≡ pos n → i - suc m ≡ n
    go true r = cc
    go false r = cc

-- An index moves down by subtraction.
pub move_down : (n i : ℕ) → move (neg_ℤ (pos n)) i ≡ i - n
move_down zero i = omega arith
move_down (suc n) i = refl
