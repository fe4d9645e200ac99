-- What the code's types stand for: the enums of verdicts, answers, comparisons and rounds case by case, and what a side would do.
use Rattle.std.specs.Prelude.{ℕ, ◌≡◌, [], ◌∷◌, map, Some, None}
use Rattle.std.specs.Prelude as code_option
use Rattle.std.proofs.Math.Option.{Option, some, none}
use Rattle.calculus.specs.Comparison.{Comparison, equal, differ}
use Rattle.calculus.specs.Rounds.{Verdict, Same, Different, Budget, Full, Round, ends, goes}
use Rattle.redex.specs.declared.Redex as codeRedex
use Rattle.turn.specs.declared.Verdict as code
use Rattle.turn.specs.declared.Verdict.TheVariants as verdict
use Rattle.std.specs.declared.ops.ControlFlow as codeRound
use Rattle.std.specs.declared.ops.ControlFlow.TheVariants as round
use Rattle.turn.specs.Turn.{Plan, normal, contract}

-- The four verdicts.
abbrev pub verdict_of : code.Verdict → Verdict
verdict_of verdict.Same = Same
verdict_of verdict.Different = Different
verdict_of verdict.Budget = Budget
verdict_of verdict.Full = Full

-- What is answered at once.
abbrev pub early_of : code_option.Option code.Verdict → Option Verdict
early_of (Some verdict) = some (verdict_of verdict)
early_of None = none

-- Equal, or the position where two terms differ.
abbrev pub comparison_of : code_option.Option ℕ → Comparison
comparison_of None = equal
comparison_of (Some position) = differ position

abbrev pub plan_of : code_option.Option codeRedex.Redex → Plan
plan_of None = normal
plan_of (Some redex) = contract redex.at redex.length

abbrev pub round_of : codeRound.ControlFlow code.Verdict ℕ → Round
round_of (round.Break verdict) = ends (verdict_of verdict)
round_of (round.Continue count) = goes count

-- Every case of these enums, with whatever it holds.
pub record VerdictCases : Type 0 where
  pub verdicts : map verdict_of (verdict.Same ∷ verdict.Different ∷ verdict.Budget ∷ verdict.Full ∷ []) ≡ Same ∷ Different ∷ Budget ∷ Full ∷ []
  pub early : (v : code.Verdict) → map early_of (Some v ∷ None ∷ []) ≡ some (verdict_of v) ∷ none ∷ []
  pub comparisons : (p : ℕ) → map comparison_of (None ∷ Some p ∷ []) ≡ equal ∷ differ p ∷ []
  pub plans : (redex : codeRedex.Redex) → map plan_of (None ∷ Some redex ∷ []) ≡ normal ∷ contract redex.at redex.length ∷ []
  pub rounds : (v : code.Verdict) (n : ℕ) → map round_of (round.Break v ∷ round.Continue n ∷ []) ≡ ends (verdict_of v) ∷ goes n ∷ []
