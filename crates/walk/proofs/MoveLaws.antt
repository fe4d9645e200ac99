-- Moves up and down: by binders that an index leaves room for, and by binders that it is not below.
use Prim.Native.Nat.{ℕ, zero, suc, ◌+◌, ◌≤◌, ◌<◌}
use mathlib.Core.Path.{refl}
use native.Mathlib.Omega.{arith}
use borrow.Author.Tests.{le-ltb}
use lib.IntN.{pos, neg_ℤ}
use Rattle.calculus.specs.Term.{Sort, Exp}
use Rattle.calculus.specs.Theorems.{IndicesWithin}
use Rattle.calculus.proofs.EverywhereLaws.{everywhere_implies}
use mir.Syntax.{w32}
use mir.Val.{SFits}
use Rattle.words.specs.Limits.{payload_bound}
use Rattle.walk.specs.Index.{distance_bound, Moves, Movable}

pub moves_up : (n i : ℕ) → i + n < payload_bound → Moves (pos n) i
moves_up n i h = record { exact = refl; fits = h }

pub moves_down : (n i : ℕ) → n ≤ i → i < payload_bound → Moves (neg_ℤ (pos n)) i
moves_down zero i h g = record { exact = refl; fits = omega arith }
moves_down (suc n) i h g = record { exact = rw (le-ltb i (suc n) h); fits = omega arith }

-- A distance down fits the code's signed numbers.
pub negation_fits : (n : ℕ) → n < distance_bound → SFits w32 (neg_ℤ (pos n))
negation_fits zero h = record { sfits = h }
negation_fits (suc n) h = record { sfits = omega arith }

-- Indices of bounded size may be raised by a bounded number of binders.
pub movable_up : {s : Sort} (limit n cutoff : ℕ) (e : Exp s) → IndicesWithin limit e → limit + n < payload_bound → Movable (pos n) cutoff e
movable_up limit n cutoff e h g =
    everywhere_implies {R = λ p d c. Unit {0}}
    (record { constructors = λ t n h. tt; cases = λ bs cs same h. tt; branches = λ t n h. tt; numerals = λ n h. tt })
    (record { abstractions = λ p d c r. tt; bodies = λ p d c n r. tt })
    (λ p d c i r h f. moves_up n i (omega arith))
    tt cutoff tt e h
