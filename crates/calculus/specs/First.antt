-- The first items of a word list as trees, whatever words follow them: what the code's positions inside a workspace stand for. Where the list does
-- not start so, the value is a fixed one that no contract uses.
use Rattle.std.specs.Prelude.{ℕ, List, take}
use Rattle.std.proofs.Math.Option.{bind, map, get_or}
use Rattle.calculus.specs.Term.{Term, Terms, var, nil}
use Rattle.calculus.specs.Read.{items, take_term, take_terms}
use Rattle.calculus.specs.Skip.{span}

-- The first term, and the first n terms.
unfoldable pub first_term : List ℕ → Term
first_term ws = get_or (map (λ r. r.0) (bind (items (take (span 1 ws) ws)) take_term)) (var 0)

unfoldable pub first_terms : ℕ → List ℕ → Terms
first_terms n ws = get_or (map (λ r. r.0) (bind (items (take (span n ws) ws)) (take_terms n))) nil
