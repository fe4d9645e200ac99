-- Calls one after the other, to the line's end.
use Prim.Native.Nat.{ℕ, zero, suc, ◌-◌, ◌≤◌, ◌<◌}
use native.Mathlib.Omega.{arith}
use mathlib.Core.Path.{◌≡◌, refl}
use mathlib.Core.Bool.{false}
use mathlib.Core.List.{List}
use lib.Dec.{eqb}
use lib.ListN.{length}
use borrow.Author.Tests.{le-leb, lt-leb}
use Rattle.vectors.specs.Pair.{Stepped, ended_of, stepped, steps_from}

module _ (line : List ℕ) (s t : Stepped) (is : t ≡ stepped line s) where
  pub steps_last : (turns : ℕ) → 0 < turns → length line ≤ t.stage.at → steps_from turns line s ≡ ended_of (eqb t.stage.at (length line)) t.left t.right
  unfolding steps_from
  steps_last zero h over = absurd (omega arith)
  steps_last (suc k) h over = rw (← is, le-leb (length line) t.stage.at over)

  pub steps_next : (turns : ℕ) → 0 < turns → t.stage.at < length line → steps_from turns line s ≡ steps_from (turns - 1) line t
  unfolding steps_from
  steps_next zero h more = absurd (omega arith)
  steps_next (suc k) h more =
      let down : suc k - 1 ≡ k = omega arith in
      rw (down, ← is, lt-leb (length line) t.stage.at more)

pub steps_end : (line : List ℕ) (s : Stepped) (turns : ℕ) → turns ≤ 0 → steps_from turns line s ≡ ended_of false s.left s.right
unfolding steps_from
steps_end line s zero h = refl
steps_end line s (suc k) h = absurd (omega arith)
