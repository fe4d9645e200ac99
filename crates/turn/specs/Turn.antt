-- What a round looks at, as the code keeps it: the two terms compared, and what each side would do, with the position of the redex, so that it is sought
-- once.
use Rattle.std.specs.Prelude.{ℕ, List}
use Rattle.std.proofs.Math.Option.{Option, some, none}
use Rattle.calculus.specs.Term.{Term}
use Rattle.calculus.specs.Words.{size}
use Rattle.calculus.specs.Position.{redex_at}
use Rattle.calculus.specs.Comparison.{Comparison, equal, differ, compare_words}
use Rattle.calculus.specs.Rounds.{Verdict, Same, next}

-- Point 1 by the words of the two terms: equal terms, Same.
abbrev pub at_once_by : Comparison → Option Verdict
at_once_by equal = some Same
at_once_by (differ position) = none

abbrev pub at_once_in : (left right : List ℕ) → Option Verdict
at_once_in ws vs = at_once_by (compare_words ws vs)

-- A side's plan: nothing where it is normal, or contract the redex at a position, to a term of so many words.
pub data Plan : Type 0 where
  normal : Plan
  contract : (position nextSize : ℕ) → Plan

-- The length of the next term, none where the side is normal.
abbrev pub length_in : Plan → Option ℕ
length_in normal = none
length_in (contract position nextSize) = some nextSize

abbrev pub plan_at : Term → Option ℕ → Plan
plan_at t none = normal
plan_at t (some position) = contract position (size (next t))

abbrev pub planned : Term → Plan
planned t = plan_at t (redex_at t)
