-- The leftmost outermost redex is the one whose first word comes earliest ("Contraction"), and the contraction of it as a function, which gives
-- none in a normal term. The relation is the definition; `LeftmostStep` and `LeftmostNone` state that the function follows it.
use Rattle.std.specs.Prelude.{ℕ, ◌≤◌}
use Rattle.std.proofs.Math.Option.{Option, map}
use Rattle.calculus.specs.Term.{Sort, Exp}
use Rattle.calculus.specs.Contraction.{Rule, Contracts}
use Rattle.calculus.specs.Step.{first_step}

-- A contraction of e to g whose redex starts first among all redexes of e.
abbrev pub ContractsLeftmost : {s : Sort} → Exp s → Exp s → Type 0
ContractsLeftmost {s = s} e g =
    (p : ℕ) × (r : Rule) × Contracts s p r e g × ((q : ℕ) (r' : Rule) (h : Exp s) → Contracts s q r' e h → p ≤ q)

unfoldable pub leftmost : {s : Sort} → Exp s → Option (Exp s)
leftmost e = map (λ c. c.result) (first_step e)
