-- What bits start with, by the bits of terms: one word of a term in prefix order, or nothing where they end early.
use Rattle.std.specs.Prelude.{ℕ, Bool, true, false, cond, List, [], ◌∷◌, ltb, length, Option, Some, None}
use Rattle.bits.specs.Runs.{run}
use Rattle.bits.specs.declared.reading.Token as code
use Rattle.bits.specs.declared.reading.Token.TheVariants as variant

pub data Token : Type 0 where
  early abstraction application : Token
  variable : ℕ → Token

-- A run of ones without the zero behind it ends early.
unfoldable pub token : List Bool → Token
token [] = early
token (false ∷ []) = early
token (false ∷ false ∷ bs) = abstraction
token (false ∷ true ∷ bs) = application
token (true ∷ bs) = cond (ltb (run bs) (length bs)) (variable (run bs)) early

-- The same of what the code answers.
abbrev pub token_of : Option code.Token → Token
token_of None = early
token_of (Some variant.Abstraction) = abstraction
token_of (Some variant.Application) = application
token_of (Some (variant.Variable i)) = variable i
