-- The line that the verdict program prints ("The verdict program"). It shows verdict, spent, left length, right length and, with Different only, the
-- position; or `Refused` and the number; or `Input` where the bytes are no request.
use Rattle.std.specs.Prelude.{ℕ, ◌+◌, ◌*◌, List, [], ◌∷◌, ◌++◌, length}
use Rattle.calculus.specs.Rounds.{Verdict, Same, Different, Budget, Full, Shown}
use Rattle.text.specs.Decimal.{digits_most, field, newline}
use Rattle.text.specs.Names.{same_name, different_name, budget_name, full_name, refusal_name}

-- What is printed.
pub data Line : Type 0 where
  input : Line
  refuses : ℕ → Line
  shows : Shown → Line

-- The words that are printed, as ASCII.
abbrev pub name_of : Verdict → List ℕ
name_of Same = same_name
name_of Different = different_name
name_of Budget = budget_name
name_of Full = full_name

abbrev pub input_name : List ℕ
input_name = 73 ∷ 110 ∷ 112 ∷ 117 ∷ 116 ∷ []

-- The fifth field: the position, with Different only.
abbrev pub position_field : Verdict → (position : ℕ) → List ℕ
position_field Same p = []
position_field Different p = field p
position_field Budget p = []
position_field Full p = []

-- The bytes of a line, the newline included.
abbrev pub line_bytes : Line → List ℕ
line_bytes input = input_name ++ (newline ∷ [])
line_bytes (refuses n) = refusal_name ++ (field n ++ (newline ∷ []))
line_bytes (shows a) =
    name_of a.verdict
    ++ (field a.spent ++ (field a.left ++ (field a.right ++ (position_field a.verdict a.position ++ (newline ∷ [])))))

-- The most bytes of a line: the longest verdict, four numbers behind a space, and the newline.
abbrev pub printed_most : ℕ
printed_most = length (name_of Different) + 4 * (1 + digits_most) + 1
