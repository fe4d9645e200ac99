-- The keywords of a line that no other program has, as ASCII.
use Rattle.std.specs.Prelude.{ℕ, List, [], ◌∷◌}

abbrev pub pair_word : List ℕ
pair_word = 112 ∷ 97 ∷ 105 ∷ 114 ∷ []

abbrev pub total_word : List ℕ
total_word = 116 ∷ 111 ∷ 116 ∷ 97 ∷ 108 ∷ []

abbrev pub press_word : List ℕ
press_word = 112 ∷ 114 ∷ 101 ∷ 115 ∷ 115 ∷ []

abbrev pub at_word : List ℕ
at_word = 97 ∷ 116 ∷ []

abbrev pub chain_keyword : List ℕ
chain_keyword = 99 ∷ 104 ∷ 97 ∷ 105 ∷ 110 ∷ []

abbrev pub gives_word : List ℕ
gives_word = 103 ∷ 105 ∷ 118 ∷ 101 ∷ 115 ∷ []

abbrev pub writes_word : List ℕ
writes_word = 119 ∷ 114 ∷ 105 ∷ 116 ∷ 101 ∷ 115 ∷ []
