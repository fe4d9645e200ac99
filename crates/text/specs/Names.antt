-- Words of the programs' formats and output that more than one of them has, as ASCII.
use Rattle.std.specs.Prelude.{ℕ, List, [], ◌∷◌}

-- The calls.
abbrev pub load_name : List ℕ
load_name = 108 ∷ 111 ∷ 97 ∷ 100 ∷ []

abbrev pub line_name : List ℕ
line_name = 108 ∷ 105 ∷ 110 ∷ 101 ∷ []

abbrev pub import_name : List ℕ
import_name = 105 ∷ 109 ∷ 112 ∷ 111 ∷ 114 ∷ 116 ∷ []

abbrev pub write_name : List ℕ
write_name = 119 ∷ 114 ∷ 105 ∷ 116 ∷ 101 ∷ []

abbrev pub export_name : List ℕ
export_name = 101 ∷ 120 ∷ 112 ∷ 111 ∷ 114 ∷ 116 ∷ []

abbrev pub show_name : List ℕ
show_name = 115 ∷ 104 ∷ 111 ∷ 119 ∷ []

-- What is lent to a press.
abbrev pub left_name : List ℕ
left_name = 108 ∷ 101 ∷ 102 ∷ 116 ∷ []

abbrev pub right_name : List ℕ
right_name = 114 ∷ 105 ∷ 103 ∷ 104 ∷ 116 ∷ []

abbrev pub scratch_name : List ℕ
scratch_name = 115 ∷ 99 ∷ 114 ∷ 97 ∷ 116 ∷ 99 ∷ 104 ∷ []

-- The verdicts, and a refusal in their place.
abbrev pub same_name : List ℕ
same_name = 83 ∷ 97 ∷ 109 ∷ 101 ∷ []

abbrev pub different_name : List ℕ
different_name = 68 ∷ 105 ∷ 102 ∷ 102 ∷ 101 ∷ 114 ∷ 101 ∷ 110 ∷ 116 ∷ []

abbrev pub budget_name : List ℕ
budget_name = 66 ∷ 117 ∷ 100 ∷ 103 ∷ 101 ∷ 116 ∷ []

abbrev pub full_name : List ℕ
full_name = 70 ∷ 117 ∷ 108 ∷ 108 ∷ []

abbrev pub refusal_name : List ℕ
refusal_name = 82 ∷ 101 ∷ 102 ∷ 117 ∷ 115 ∷ 101 ∷ 100 ∷ []
