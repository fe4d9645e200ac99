-- A word has fewer binders than there are counts.
use Prim.Native.Nat.{ℕ, ◌<◌}
use mathlib.Core.Bool.{Bool, true, false, cond}
use native.Mathlib.Omega.{arith}
use lib.Dec.{eqb}
use Rattle.calculus.specs.Words.{abstraction_kind, branch_kind, count_base, count_of}
use Rattle.words.specs.Bound.{binding}

pub binding_few : (k p : ℕ) → binding k p < count_base
unfolding binding
binding_few k p = go (eqb k abstraction_kind) (eqb k branch_kind)
  where
    go : (x y : Bool) → cond x 1 (cond y (count_of p) 0) < count_base
    go true y = omega arith
    go false true = omega arith
    go false false = omega arith
