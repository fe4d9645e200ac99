-- The search for the leftmost redex: from where it may start, and what it finds.
use Rattle.std.specs.Prelude.{ℕ, ◌<◌, ◌≡◌, List, Option, Some, None}
use Rattle.std.proofs.Math.Option.{some, none}
use Rattle.calculus.specs.Position.{contract_at, redex_at}
use Rattle.redex.specs.Held.{held, Holds}
use Rattle.redex.specs.Plan.{Plans}
use Rattle.redex.specs.declared.Redex.{Redex}

-- The search may start at `from`: no redex of the held term starts before.
pub record Searched (ws : List ℕ) (n from : ℕ) : Type 0 where
  pub holds : Holds ws n
  pub before : (p : ℕ) → p < from → contract_at p (held ws n) ≡ none

-- What the search finds: the leftmost redex, or none.
abbrev pub Planned : List ℕ → ℕ → Option Redex → Type 0
Planned ws n None = redex_at (held ws n) ≡ none
Planned ws n (Some r) = (redex_at (held ws n) ≡ some r.at) × Plans ws n r
