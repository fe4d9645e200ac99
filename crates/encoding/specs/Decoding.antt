-- Which term bits are: found over the bits from the first to the last, as the words of the term in prefix order. `DecodingExact` states that it is the term
-- whose bits they are, and none where they are no term's.
use Rattle.std.specs.Prelude.{ℕ, zero, suc, Bool, true, false, List, [], ◌∷◌}
use Rattle.std.proofs.Math.Option.{Option, some, none, map, bind}
use Rattle.calculus.specs.Term.{Term}
use Rattle.calculus.specs.Words.{variable_kind, abstraction_kind, application_kind, word}
use Rattle.calculus.specs.Read.{any_term}

-- The words of so many terms whose bits these are, after a run of ones that belongs to the first of them. None where the bits end early or are left over.
unfoldable pub words_in : List Bool → (run terms : ℕ) → Option (List ℕ)
words_in [] zero zero = some []
words_in [] zero (suc n) = none
words_in [] (suc i) n = none
words_in (b ∷ bs) i zero = none
words_in (true ∷ bs) i (suc n) = words_in bs (suc i) (suc n)
words_in (false ∷ bs) (suc i) (suc n) = map (◌∷◌ (word variable_kind i)) (words_in bs zero n)
words_in (false ∷ []) zero (suc n) = none
words_in (false ∷ false ∷ bs) zero (suc n) = map (◌∷◌ (word abstraction_kind 0)) (words_in bs zero (suc n))
words_in (false ∷ true ∷ bs) zero (suc n) = map (◌∷◌ (word application_kind 0)) (words_in bs zero (suc (suc n)))

-- One term, whatever its indices.
unfoldable pub decode : List Bool → Option Term
decode bs = bind (words_in bs 0 1) any_term
