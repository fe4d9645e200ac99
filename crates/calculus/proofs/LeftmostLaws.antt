-- The leftmost contraction: `leftmost` gives what the first redex gives, and none exactly in a normal term.
use Prim.Native.Nat.{ℕ, ◌≤◌, ◌<◌}
use mathlib.Core.Path.{◌≡◌, sym, ◌∙◌, ap, subst}
use mathlib.Core.Logic.{◌↔◌}
use mathlib.Core.Option.{Option, some, none, map, map-eq-none_iff, some-injective, none-ne-some}
use native.Mathlib.Omega.{arith}
use Rattle.calculus.specs.Term.{Sort, Exp, Term}
use Rattle.calculus.specs.Contraction.{Rule, Contracts}
use Rattle.calculus.specs.Conversion.{Contracts₁}
use Rattle.calculus.specs.Step.{Step, first_step}
use Rattle.calculus.specs.Leftmost.{ContractsLeftmost, leftmost}
use Rattle.calculus.specs.Position.{step_at}
use Rattle.calculus.specs.Theorems.{LeftmostStep, LeftmostNone}
use Rattle.calculus.proofs.Earliest.{Earliest, never, first}
use Rattle.calculus.proofs.PositionLaws.{step_at_exact, contracts_step_at, contracts_unique, earliest_step, first_step_none}

leftmost_unique : {s : Sort} {e g h : Exp s} → ContractsLeftmost e g → ContractsLeftmost e h → g ≡ h
leftmost_unique {s} {e} {g} {h} (p, r, c, l) (q, r', d, m) =
    let same : q ≡ p = omega (arith, l q r' h d, m p r g c) in
    (contracts_unique c (subst (λ q. Contracts s q r' e h) same d)).1

-- At every sort.
pub leftmost_exact : {s : Sort} (e g : Exp s) → (leftmost e ≡ some g) ↔ ContractsLeftmost e g
unfolding leftmost
leftmost_exact {s} e g = go (earliest_step e)
  where
    go : {o : Option (Step (Exp s))} → Earliest (λ p. step_at p e) o → (map (λ c. c.result) o ≡ some g) ↔ ContractsLeftmost e g
    go (never h) = (λ q. absurd (none-ne-some g q), λ (p, r, c, l). absurd (none-ne-some (r, g) (sym (h p) ∙ contracts_step_at c)))
    go (first {c = c} d h) = (λ q. subst (ContractsLeftmost e) (some-injective c.result g q) here, λ k. ap some (leftmost_unique here k))
      where
        before : (q : ℕ) (r : Rule) (k : Exp s) → Contracts s q r e k → c.position ≤ q
        before q r k b =
            let none-earlier : ¬ (q < c.position) = λ l. none-ne-some (r, k) (sym (h q l) ∙ contracts_step_at b) in
            omega arith

        here : ContractsLeftmost e c.result
        here = (c.position, c.rule, (step_at_exact c.position c.rule e c.result).0 d, before)

pub leftmost-step : LeftmostStep
leftmost-step t u = leftmost_exact t u

-- At every sort `leftmost` gives none exactly where there is no contraction.
pub leftmost_normal : {s : Sort} (e : Exp s) → (leftmost e ≡ none) ↔ ((p : ℕ) (r : Rule) (g : Exp s) → Contracts s p r e g → ⊥)
unfolding leftmost
leftmost_normal e =
    let same = map-eq-none_iff (λ c. c.result) (first_step e) in
    let h = first_step_none e in
    (λ q. h.0 (same.0 q), λ k. same.1 (h.1 k))

pub leftmost_none : LeftmostNone
leftmost_none t =
    let h = leftmost_normal t in
    (λ e u c. h.0 e c.0 c.1 u c.2, λ n. h.1 (λ p r u c. n u (p, r, c)))

pub leftmost_contracts : (t u : Term) → leftmost t ≡ some u → Contracts₁ t u
leftmost_contracts t u e = let h = (leftmost-step t u).0 e in (h.0, h.1, h.2)
