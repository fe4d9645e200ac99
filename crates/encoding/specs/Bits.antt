-- The bits of a term ("Binary encodings"): "00 then the body for an abstraction, 01 then function and argument for an application, and for index i a run of
-- i + 1 ones and a zero". The bit 1 is `true`, the bit 0 is `false`.
use Rattle.std.specs.Prelude.{ℕ, suc, ◌<◌, Bool, true, false, List, [], ◌∷◌, ◌++◌, replicate}
use Rattle.calculus.specs.Term.{Term, var, lam, app, con, case, num}
use Rattle.calculus.specs.Everywhere.{Asked, binders, anywhere, pure_terms, Everywhere}

-- Only a term of variables, abstractions and applications has bits that mean it (`Pure`).
abbrev pub bits : Term → List Bool
bits (var i) = replicate (suc i) true ++ (false ∷ [])
bits (lam b) = false ∷ false ∷ bits b
bits (app f a) = false ∷ true ∷ (bits f ++ bits a)
bits (con t xs) = []
bits (case e bs) = []
bits (num n) = []

abbrev pub Pure : Term → Type 0
Pure t = Everywhere (pure_terms anywhere (λ d i. Unit {0})) tt t

-- In such a term every variable is bound.
abbrev pub combinators : Asked ℕ
combinators = pure_terms binders (λ d i. i < d)

-- Under d binders it is so by one of these or inside; under none the term is a combinator.
abbrev pub CombinatorUnder : ℕ → Term → Type 0
CombinatorUnder d t = Everywhere combinators d t

abbrev pub Combinator : Term → Type 0
Combinator t = CombinatorUnder 0 t
