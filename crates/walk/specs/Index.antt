-- When an index may be moved ("Contraction"): index plus distance, as integers, is not negative and fits the payload of a word.
use Rattle.std.specs.Prelude.{ℕ, ◌^◌, ◌≤◌, ◌<◌, ◌≡◌, ℤ, pos, ◌+ℤ◌}
use Rattle.calculus.specs.Term.{Sort, Exp}
use Rattle.calculus.specs.Everywhere.{binders, variables, Everywhere}
use Rattle.calculus.specs.Shift.{move}
use Rattle.words.specs.Limits.{payload_bound}

-- Distances, plus or minus, are below this number.
abbrev pub distance_bound : ℕ
distance_bound = 2 ^ 31

pub record Moves (distance : ℤ) (i : ℕ) : Type 0 where
  pub exact : pos i +ℤ distance ≡ pos (move distance i)
  pub fits : move distance i < payload_bound

-- A free index may be moved; `cutoff` is the number of binders inside the moved part, as in `shift`.
abbrev pub MayMove : ℤ → (cutoff i : ℕ) → Type 0
MayMove z cutoff i = cutoff ≤ i → Moves z i

-- Every free index of the expression may be moved.
abbrev pub Movable : {s : Sort} → ℤ → ℕ → Exp s → Type 0
Movable z cutoff e = Everywhere (variables binders (MayMove z)) cutoff e
