-- Numbers in base ten, as ASCII bytes, and what stands between them.
use Rattle.std.specs.Prelude.{ℕ, zero, suc, ◌+◌, ◌-◌, ◌*◌, ◌/◌, ◌%◌, ◌^◌, ◌≤◌, ◌<◌, ◌≡◌, true, false, ltb, length}
use mathlib.Core.List.{List, [], ◌∷◌, ◌++◌, Memᴰ}

-- The digit 0 is byte 48.
abbrev pub digit : ℕ → ℕ
digit d = d + 48

-- The digits of a number below ten to the power of `bound`, the highest first, with no leading zero.
unfoldable pub digits : (bound : ℕ) → ℕ → List ℕ
digits zero n = []
digits (suc k) n = elim (ltb n 10) [ true ↦ digit n ∷ [] | false ↦ digits k (n / 10) ++ (digit (n % 10) ∷ []) ]

-- A number of 64 bits has at most twenty digits.
abbrev pub digits_most : ℕ
digits_most = 20

unfoldable pub decimal : ℕ → List ℕ
decimal n = digits digits_most n

-- The number that digits are worth, behind those of `ahead`.
unfoldable pub worth : (ahead : ℕ) → List ℕ → ℕ
worth ahead [] = ahead
worth ahead (d ∷ ds) = worth (ahead * 10 + (d - 48)) ds

-- These bytes are the number in base ten: one or more, each from 48 to 57, worth the number, and the first is 48 only if it is alone.
pub record InDecimal (n : ℕ) (ds : List ℕ) : Type 0 where
  pub some_digit : 1 ≤ length ds
  pub each_digit : (d : ℕ) → Memᴰ d ds → (48 ≤ d) × (d ≤ 57)
  pub worth_is : worth 0 ds ≡ n
  pub no_leading_zero : (rest : List ℕ) → ds ≡ 48 ∷ rest → rest ≡ []

abbrev pub DecimalExact : Type 0
DecimalExact = (n : ℕ) → n < 2 ^ 64 → InDecimal n (decimal n)

-- A number behind a space.
abbrev pub field : ℕ → List ℕ
field n = 32 ∷ decimal n

abbrev pub newline : ℕ
newline = 10
