-- Little-endian 32-bit words as bytes ("The verdict program"), and words that are a byte each.
use Rattle.std.specs.Prelude.{ℕ, ◌+◌, ◌*◌, Bool, true, ◌&&◌, List, [], ◌∷◌, ltb}
use Rattle.std.proofs.Math.Option.{Option, some, none, map}

-- A byte counts so many of the one before it.
abbrev pub byte_base : ℕ
byte_base = 256

-- A word is four bytes.
abbrev pub word_bytes : ℕ
word_bytes = 4

-- The word of four bytes, the lowest first.
abbrev pub word_of : (a b c d : ℕ) → ℕ
word_of a b c d = a + byte_base * (b + byte_base * (c + byte_base * d))

-- The words of bytes; none where a word's bytes are missing.
unfoldable pub words_of : List ℕ → Option (List ℕ)
words_of [] = some []
words_of (a ∷ []) = none
words_of (a ∷ b ∷ []) = none
words_of (a ∷ b ∷ c ∷ []) = none
words_of (a ∷ b ∷ c ∷ d ∷ bs) = map (◌∷◌ (word_of a b c d)) (words_of bs)

-- Whether every word is a byte.
unfoldable pub are_bytes : List ℕ → Bool
are_bytes [] = true
are_bytes (w ∷ ws) = ltb w byte_base && are_bytes ws
