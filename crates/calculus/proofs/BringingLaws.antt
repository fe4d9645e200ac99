-- Checks in their order, and what bringing a term in comes to by them.
use Prim.Native.Nat.{ℕ}
use mathlib.Core.Path.{◌≡◌, refl, ap}
use mathlib.Core.Bool.{Bool, true, false, not, false≢true}
use mathlib.Core.List.{List, [], ◌∷◌}
use mathlib.Core.Logic.{◌↔◌, ◌⊎◌, inl, inr, ite}
use mathlib.Core.Option.{some, none}
use native.Mathlib.Omega.{arith}
use borrow.Author.Tests.{ltb-false, le-ltb, not-false}
use Rattle.calculus.specs.Term.{Term}
use Rattle.calculus.specs.Words.{size}
use Rattle.calculus.specs.Accepted.{Scoped}
use Rattle.calculus.specs.Decide.{scoped?}
use Rattle.calculus.specs.Refusal.{Refusal}
use Rattle.calculus.specs.Bringing.{first_met, FirstMet, NoneMet, free_fits}
use Rattle.calculus.specs.Theorems.{BroughtExact}

-- One is met first, or none is met.
pub settled : (cs : List (Refusal × Bool)) → ((k : Refusal) × FirstMet k cs) ⊎ NoneMet cs
settled [] = inr tt
settled (c ∷ cs) = go c.1 refl (settled cs)
  where
    go : (b : Bool) → c.1 ≡ b → ((k : Refusal) × FirstMet k cs) ⊎ NoneMet cs → ((k : Refusal) × FirstMet k (c ∷ cs)) ⊎ NoneMet (c ∷ cs)
    go true e s = inl (c.0, inl (e, refl))
    go false e (inl s) = inl (s.0, inr (e, s.1))
    go false e (inr s) = inr (e, s)

pub first-met : (k : Refusal) (cs : List (Refusal × Bool)) → FirstMet k cs → first_met cs ≡ some k
first-met k [] x = elim x [ ]
first-met k (c ∷ cs) (inl h) = rw h.0 (ap some h.1)
first-met k (c ∷ cs) (inr h) = rw h.0 (first-met k cs h.1)

pub none_met : (cs : List (Refusal × Bool)) → NoneMet cs → first_met cs ≡ none
none_met [] h = refl
none_met (c ∷ cs) h = rw h.0 (none_met cs h.1)

pub none_first : (cs : List (Refusal × Bool)) → first_met cs ≡ none → NoneMet cs
none_first cs h =
    elim (settled cs) [
      | inl met ↦ let first = first-met met.0 cs met.1 in let never : ◌≡◌ {A = ℕ} 0 1 = cc in absurd (omega arith)
      | inr unmet ↦ unmet
    ]

-- The free numbers of a term fit exactly if it is in scope.
pub free-fits : (t : Term) → (free_fits t ≡ true) ↔ Scoped 0 t
free-fits t = by (scoped? 0 t)
  where
    by : (d : Dec (Scoped 0 t)) → (ite d true false ≡ true) ↔ Scoped 0 t
    by (yes s) = (λ e. s, λ s. refl)
    by (no n) = (λ e. absurd (false≢true e), λ s. absurd (n s))

pub brought_exact : BroughtExact
brought_exact t = (
  (λ e. (free-fits t).0 (not-false (free_fits t) e), λ s. ap not ((free-fits t).1 s)),
  λ C. (ltb-false C (size t), le-ltb C (size t)),
)
