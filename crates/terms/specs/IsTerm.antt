-- Whether the first n words of a list are one whole accepted term of at most as many words as a workspace has: the test behind refusal 10. In a
-- workspace it tells exactly whether `term_at` gives a term.
use Rattle.std.specs.Prelude.{ℕ, Bool, true, false, ◌&&◌, List, leb}
use Rattle.std.proofs.Math.Option.{Option-elim}
use Rattle.calculus.specs.Words.{workspace_most}
use Rattle.calculus.specs.Workspace.{term_at}

unfoldable pub is_term : List ℕ → ℕ → Bool
is_term ws n = leb n workspace_most && Option-elim (term_at ws n) false (λ t. true)
