-- Bits in bytes ("Binary encodings"): "Bits come highest first in each byte ..".
use Rattle.std.specs.Prelude.{ℕ, zero, suc, ◌+◌, ◌*◌, ◌/◌, ◌%◌, ◌^◌, ◌<◌, Bool, true, false, List, [], ◌∷◌, ◌++◌, eqb, drop}

-- A byte has 8 bits.
abbrev pub byte_bits : ℕ
byte_bits = 8

-- The k lowest binary digits of a number, the highest first.
abbrev pub digits : (k n : ℕ) → List Bool
digits zero n = []
digits (suc k) n = eqb (n / 2 ^ k % 2) 1 ∷ digits k n

-- The bits of bytes, one byte after the other.
abbrev pub unpacked : List ℕ → List Bool
unpacked [] = []
unpacked (b ∷ bs) = digits byte_bits b ++ unpacked bs

abbrev pub digit : Bool → ℕ
digit true = 1
digit false = 0

-- The number whose k binary digits are the first k of these bits, the highest first. Bits that are missing are 0.
abbrev pub number : (k : ℕ) → List Bool → ℕ
number zero bs = 0
number (suc k) [] = 0
number (suc k) (b ∷ bs) = digit b * 2 ^ k + number k bs

-- So many bytes with these bits, and with 0 for those that are missing.
abbrev pub packed : (count : ℕ) → List Bool → List ℕ
packed zero bs = []
packed (suc n) bs = number byte_bits bs ∷ packed n (drop byte_bits bs)

-- Every number is a byte.
abbrev pub Bytes : List ℕ → Type 0
Bytes [] = Unit {0}
Bytes (b ∷ bs) = (b < 2 ^ byte_bits) × Bytes bs
