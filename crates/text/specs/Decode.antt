-- Words where they stand in bytes. What the program reads them by; `words_of` says what the bytes mean.
use Rattle.std.specs.Prelude.{ℕ, zero, suc, ◌+◌, List, [], ◌∷◌, get_or}
use Rattle.text.specs.Bytes.{word_bytes, word_of}

-- The word whose first byte stands at a position.
abbrev pub word_at : List ℕ → ℕ → ℕ
word_at bytes at = word_of (get_or bytes at 0) (get_or bytes (at + 1) 0) (get_or bytes (at + 2) 0) (get_or bytes (at + 3) 0)

-- The n words from a position on.
unfoldable pub words_from : (n : ℕ) → List ℕ → (at : ℕ) → List ℕ
words_from zero bytes at = []
words_from (suc n) bytes at = word_at bytes at ∷ words_from n bytes (at + word_bytes)
