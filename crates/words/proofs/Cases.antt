-- What the code's enums stand for, by computation.
use mathlib.Core.Path.{refl}
use Rattle.words.specs.Types.{RefusalCases}

pub refusal_cases : RefusalCases
refusal_cases = record { refusals = refl; kinds = refl; a_refusal = λ why. refl; a_length = λ l. refl; brought = λ a workspace. refl }
