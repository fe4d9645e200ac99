-- The term that a workspace holds: plan, search and contraction are described by it and not by its words.
use Rattle.std.specs.Prelude.{ℕ, ◌≤◌, ◌≡◌, List, length}
use Rattle.std.proofs.Math.Option.{some, get_or}
use Rattle.calculus.specs.Term.{Term, var}
use Rattle.calculus.specs.Words.{workspace_most}
use Rattle.calculus.specs.Workspace.{term_at}

-- The term that the first n words of a workspace are, and a fixed one where they are none.
unfoldable pub held : List ℕ → ℕ → Term
held ws n = get_or (term_at ws n) (var 0)

-- The first n words of a workspace are a term.
pub record Holds (ws : List ℕ) (n : ℕ) : Type 0 where
  pub term : term_at ws n ≡ some (held ws n)
  pub limit : length ws ≤ workspace_most
