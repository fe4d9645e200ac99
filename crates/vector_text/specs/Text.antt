-- What stands at a position of a line: a keyword, a number in base ten, a setting. Each comes behind at most one space. Where what is wanted does not come
-- next, reading goes on nowhere, and nothing is found there.
use Rattle.std.specs.Prelude.{ℕ, Option, Some, None, ◌+◌, ◌*◌, ◌-◌, Bool, true, false, cond, ◌&&◌, List, [], ◌∷◌, eqb, leb, ltb, length, get_or, drop}

-- Beyond every line.
abbrev pub nowhere : ℕ
nowhere = 18446744073709551615

-- Bytes with a meaning of their own, as ASCII.
abbrev pub space : ℕ
space = 32

abbrev pub first_digit : ℕ
first_digit = 48

abbrev pub last_digit : ℕ
last_digit = 57

unfoldable pub past_space : List ℕ → (at : ℕ) → ℕ
past_space text at = cond (leb (length text) at) at (cond (eqb (get_or text at 0) space) (at + 1) at)

unfoldable pub starts_with : (keyword text : List ℕ) → Bool
starts_with [] text = true
starts_with (k ∷ ks) [] = false
starts_with (k ∷ ks) (b ∷ bs) = eqb b k && starts_with ks bs

-- The position behind a keyword, if it comes next.
unfoldable pub after : List ℕ → (at : ℕ) → (keyword : List ℕ) → ℕ
after text at keyword =
    cond (ltb (length text) at) nowhere
    (cond (starts_with keyword (drop (past_space text at) text)) (past_space text at + length keyword) nowhere)

-- What a byte is worth as a digit; 10 where it is none.
abbrev pub no_digit : ℕ
no_digit = 10

abbrev pub digit_of : ℕ → ℕ
digit_of b = cond (ltb b first_digit) no_digit (cond (ltb last_digit b) no_digit (b - first_digit))

abbrev pub number_most : ℕ
number_most = 4294967295

-- A number, and where reading goes on.
pub record Number : Type 0 where
  pub value : ℕ
  pub next : ℕ

-- A size or a length.
pub record Setting : Type 0 where
  pub value : ℕ
  pub next : ℕ

-- A number that may be missing.
abbrev pub number_of : Option (ℕ × ℕ) → Number
number_of None = record { value = 0; next = nowhere }
number_of (Some n) = record { value = n.0; next = n.1 }

-- A number with at least one digit, of 32 bits.
abbrev pub number_read : (value from end : ℕ) → Number
number_read value from end =
    cond (eqb end from) (record { value = 0; next = nowhere })
    (cond (ltb number_most value) (record { value = 0; next = nowhere }) (record { value = value; next = end }))

-- The number that further bytes, from position i on, make of one whose digits start at `from`.
unfoldable pub digits : (from value i : ℕ) → List ℕ → Number
digits from value i [] = number_read value from i
digits from value i (b ∷ bs) =
    cond (leb no_digit (digit_of b)) (number_read value from i)
    (cond (ltb number_most value) (number_read value from i) (digits from (value * 10 + digit_of b) (i + 1) bs))

unfoldable pub number_at : List ℕ → (at : ℕ) → Number
number_at text at =
    cond (ltb (length text) at) (number_read 0 at at) (digits (past_space text at) 0 (past_space text at) (drop (past_space text at) text))

-- The number behind a keyword if it comes next, and else a number that needs no text.
unfoldable pub setting_at : List ℕ → (at : ℕ) → (keyword : List ℕ) → (default : ℕ) → Setting
setting_at text at keyword default =
    let from = after text at keyword in
    let n = number_at text from in
    cond (eqb from nowhere) (record { value = default; next = at }) (record { value = n.value; next = n.next })
