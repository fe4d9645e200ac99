-- Combinators and their bits, word by word.
use Rattle.std.specs.Prelude.{ℕ, suc, Bool, true, false, cond, ◌&&◌, List, [], ◌∷◌, ◌++◌, eqb, ltb, replicate}
use Rattle.calculus.specs.Words.{variable_kind, abstraction_kind, application_kind, word, kind_of, payload_of}

-- Whether words are those of combinators, one for each of these numbers of binders around them, and of nothing else.
abbrev pub are_combinators : (ds ws : List ℕ) → Bool
are_combinators [] [] = true
are_combinators [] (w ∷ ws) = false
are_combinators (d ∷ ds) [] = false
are_combinators (d ∷ ds) (w ∷ ws) =
    cond (eqb (kind_of w) variable_kind) (ltb (payload_of w) d && are_combinators ds ws)
    (cond (eqb w (word abstraction_kind 0)) (are_combinators (suc d ∷ ds) ws)
    (cond (eqb w (word application_kind 0)) (are_combinators (d ∷ d ∷ ds) ws)
    false))

-- The bits of a word in a combinator, and of words.
unfoldable pub word_bits : (kind payload : ℕ) → List Bool
word_bits k p =
    cond (eqb k variable_kind) (replicate (suc p) true ++ (false ∷ []))
    (cond (eqb k abstraction_kind) (false ∷ false ∷ [])
    (false ∷ true ∷ []))

abbrev pub words_bits : List ℕ → List Bool
words_bits [] = []
words_bits (w ∷ ws) = word_bits (kind_of w) (payload_of w) ++ words_bits ws
