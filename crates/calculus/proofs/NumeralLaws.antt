-- The numerals as trees: no substitution changes one, it is closed and accepted anywhere, and it has its words.
use Prim.Native.Nat.{ℕ, zero, suc, ◌+◌, ◌*◌, ◌≤◌}
use mathlib.Core.Path.{◌≡◌, refl, ap, ap₂}
use mathlib.Core.List.{[], ◌∷◌, ◌++◌}
use native.Mathlib.Omega.{arith}
use Rattle.calculus.specs.Term.{lam, app, Term}
use Rattle.calculus.specs.Words.{words, size}
use Rattle.calculus.specs.Everywhere.{Everywhere}
use Rattle.calculus.specs.Accepted.{Accepted}
use Rattle.calculus.specs.Numeral.{iterated, numeral}
use Rattle.calculus.specs.Theorems.{closed, NumeralClosed, pairs, NumeralWords}
use Rattle.calculus.proofs.Substitution.{lift_below, sub}

iterated-sub : (σ : ℕ → Term) (d n : ℕ) → 2 ≤ d → sub σ d (iterated n) ≡ iterated n
iterated-sub σ d zero h = lift_below σ d 0 (omega arith)
iterated-sub σ d (suc n) h = ap₂ app (lift_below σ d 1 (omega arith)) (iterated-sub σ d n h)

pub numeral-sub : (σ : ℕ → Term) (d n : ℕ) → sub σ d (numeral n) ≡ numeral n
numeral-sub σ d n = ap (λ b. lam (lam b)) (iterated-sub σ (suc (suc d)) n (omega arith))

iterated_accepted : (d n : ℕ) → Accepted d (iterated n)
iterated_accepted d zero = omega arith
iterated_accepted d (suc n) = (omega arith, iterated_accepted d n)

pub numeral_accepted : (d n : ℕ) → Accepted d (numeral n)
numeral_accepted d n = iterated_accepted (suc (suc d)) n

iterated-closed : (n : ℕ) → Everywhere closed 2 (iterated n)
iterated-closed zero = omega arith
iterated-closed (suc n) = (omega arith, iterated-closed n)

pub numeral-closed : NumeralClosed
numeral-closed n = iterated-closed n

iterated-words : (n : ℕ) → (words (iterated n) ≡ pairs n ++ (0 ∷ [])) × (size (iterated n) ≡ 2 * n + 1)
iterated-words zero = (refl, refl)
iterated-words (suc n) = let h = iterated-words n in (ap (λ ws. 2 ∷ 8 ∷ ws) h.0, omega (arith, h.1))

pub numeral-words : NumeralWords
numeral-words n = let h = iterated-words n in (ap (λ ws. 1 ∷ 1 ∷ ws) h.0, omega (arith, h.1))
