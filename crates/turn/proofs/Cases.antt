-- What the code's enums stand for, by computation.
use mathlib.Core.Path.{refl}
use Rattle.turn.specs.Types.{VerdictCases}

pub verdict_cases : VerdictCases
verdict_cases = record { verdicts = refl; early = λ v. refl; comparisons = λ p. refl; plans = λ redex. refl; rounds = λ v n. refl }
