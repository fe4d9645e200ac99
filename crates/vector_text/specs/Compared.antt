-- Words beside those that they should be: the first `count` words of a list, then a tail of equal words.
use Rattle.std.specs.Prelude.{ℕ, suc, Bool, true, cond, ◌&&◌, List, [], ◌∷◌, leb, eqb, length, get_or}

-- The word that should stand at place i.
abbrev pub word_at : (list : List ℕ) (count tail i : ℕ) → ℕ
word_at list count tail i = cond (leb count i) tail (cond (leb (length list) i) tail (get_or list i 0))

-- Every word, from place i on, is the one that should stand there.
unfoldable pub agree : (due : ℕ → ℕ) (i : ℕ) → List ℕ → Bool
agree due i [] = true
agree due i (w ∷ ws) = eqb w (due i) && agree due (suc i) ws

-- There are at least `count` words, and each is the one that should stand in its place.
unfoldable pub are_words : (words list : List ℕ) (count tail : ℕ) → Bool
are_words words list count tail = leb count (length words) && agree (word_at list count tail) 0 words
