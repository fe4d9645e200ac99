-- The number of binders around each word of the first items of a word list, found from the words alone.
--
-- The items that follow a word all stand under the same binders: those around the word and its own. So a walk over the words carries one number
-- for each item still to come. As in `Skip`, the functions are total.
use Rattle.std.specs.Prelude.{ℕ, ◌+◌, List, [], ◌∷◌, ◌++◌, replicate}
use Rattle.calculus.specs.Skip.{arity}
use Rattle.words.specs.Bound.{bound}

-- The binders around each word of the first items, given those around each of the items.
abbrev pub depths : List ℕ → List ℕ → List ℕ
depths ds [] = []
depths [] (w ∷ ws) = []
depths (d ∷ ds) (w ∷ ws) = d ∷ depths (replicate (arity w) (d + bound w) ++ ds) ws
