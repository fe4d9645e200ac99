-- The library of numerals ("Contraction"): numeral n is the Church numeral, two abstractions around n applications of the outer variable to the inner
-- one. Its words are 1, 1, then n times 2, 8, then 0 (`NumeralWords`), and it is closed (`NumeralClosed`).
use Rattle.std.specs.Prelude.{ℕ, zero, suc}
use Rattle.calculus.specs.Term.{var, lam, app, Term}

-- Variable 1 applied n times to variable 0.
abbrev pub iterated : ℕ → Term
iterated zero = var 0
iterated (suc n) = app (var 1) (iterated n)

abbrev pub numeral : ℕ → Term
numeral n = lam (lam (iterated n))
