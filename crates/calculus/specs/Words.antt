-- The words of a term in prefix order ("Terms and words"): a word is payload × 8 + kind; the table there gives each kind's payload and what
-- follows the word. A payload of tag and count is tag × 16 + count.
use Rattle.std.specs.Prelude.{ℕ, ◌+◌, ◌*◌, ◌/◌, ◌%◌, List, [], ◌∷◌, ◌++◌, length}
use Rattle.calculus.specs.Term.{Sort, Exp, var, lam, app, con, case, num, nil, cons, end, branch, count}

-- The seven kinds.
abbrev pub variable_kind : ℕ
variable_kind = 0

abbrev pub abstraction_kind : ℕ
abstraction_kind = 1

abbrev pub application_kind : ℕ
application_kind = 2

abbrev pub constructor_kind : ℕ
constructor_kind = 3

abbrev pub case_kind : ℕ
case_kind = 4

abbrev pub branch_kind : ℕ
branch_kind = 5

abbrev pub numeral_kind : ℕ
numeral_kind = 6

-- A workspace has 16 to 2,048 words.
abbrev pub workspace_least : ℕ
workspace_least = 16

abbrev pub workspace_most : ℕ
workspace_most = 2048

-- The library of numerals has this many words.
abbrev pub library_words : ℕ
library_words = 1088

-- A payload stands above the kind.
abbrev pub kind_base : ℕ
kind_base = 8

-- The word of a kind and a payload, and both of a word.
abbrev pub word : ℕ → ℕ → ℕ
word kind payload = payload * kind_base + kind

abbrev pub kind_of : ℕ → ℕ
kind_of w = w % kind_base

abbrev pub payload_of : ℕ → ℕ
payload_of w = w / kind_base

-- A tag stands above a count, which is below 16.
abbrev pub count_base : ℕ
count_base = 16

-- The payload of a tag and a count, and both of a payload.
abbrev pub pack : ℕ → ℕ → ℕ
pack tag n = tag * count_base + n

abbrev pub tag_of : ℕ → ℕ
tag_of payload = payload / count_base

abbrev pub count_of : ℕ → ℕ
count_of payload = payload % count_base

abbrev pub words : {s : Sort} → Exp s → List ℕ
words (var i) = word variable_kind i ∷ []
words (lam b) = word abstraction_kind 0 ∷ words b
words (app f a) = word application_kind 0 ∷ (words f ++ words a)
words (con t xs) = word constructor_kind (pack t (count xs)) ∷ words xs
words (case e bs) = word case_kind (count bs) ∷ (words e ++ words bs)
words (num n) = word numeral_kind n ∷ []
words nil = []
words (cons a xs) = words a ++ words xs
words end = []
words (branch t n b bs) = word branch_kind (pack t n) ∷ (words b ++ words bs)

-- The length of a term is the number of its words.
abbrev pub size : {s : Sort} → Exp s → ℕ
size e = length (words e)
