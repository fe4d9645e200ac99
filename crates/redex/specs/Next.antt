-- What the contraction at a position makes of the held term.
use Rattle.std.specs.Prelude.{ℕ, ◌≡◌, List, drop}
use Rattle.std.proofs.Math.Option.{some, get_or}
use Rattle.calculus.specs.Term.{Term}
use Rattle.calculus.specs.Words.{words}
use Rattle.calculus.specs.Position.{contract_at}
use Rattle.redex.specs.Held.{held, Holds}

-- The held term after the contraction of the redex at `at`; the held term itself where no redex starts there.
unfoldable pub next : List ℕ → (n at : ℕ) → Term
next ws n at = get_or (contract_at at (held ws n)) (held ws n)

-- Its words from the redex on; those before the redex stay as they are.
abbrev pub next_from : List ℕ → (n at : ℕ) → List ℕ
next_from ws n at = drop at (words (next ws n at))

-- A redex of the held term starts at `at`.
pub record HoldsRedex (ws : List ℕ) (n at : ℕ) : Type 0 where
  pub holds : Holds ws n
  pub redex : contract_at at (held ws n) ≡ some (next ws n at)
