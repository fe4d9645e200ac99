-- What shift and substitution do at one word ("Contraction"). A shift is a substitution of no arguments: n arguments are put for the first n indices that are
-- free in the walked part, and the others are moved by a distance.
use Rattle.std.specs.Prelude.{ℕ, ◌<◌, ◌≡◌, [], ◌∷◌, ℤ, Option, Some, None}
use Rattle.calculus.specs.Term.{var}
use Rattle.calculus.specs.Words.{variable_kind, kind_of, payload_of}
use Rattle.calculus.specs.Skip.{arity}
use Rattle.words.specs.Bound.{bound}
use Rattle.walk.specs.Index.{distance_bound, Movable}
use Rattle.walk.specs.Rewritten.{shifting, rewritten, place, argument_at}

-- The word stands under few binders, and a variable that no argument stands for may be moved.
pub record Visitable (w depth n : ℕ) (distance : ℤ) : Type 0 where
  pub few : depth < distance_bound
  pub movable : kind_of w ≡ variable_kind → place n depth w ≡ n → Movable distance depth (var (payload_of w))

-- The argument that stands for the word, by its place, and where there is none the word that does; the items that follow the word, and the binders
-- around them and not around the word.
pub record Visits (w depth n : ℕ) (distance : ℤ) (stands : Option ℕ) (word items binders : ℕ) : Type 0 where
  pub argument_is : stands ≡ argument_at n depth w
  pub moved : stands ≡ None → rewritten (shifting distance) depth w ≡ word ∷ []
  pub unchanged : (j : ℕ) → stands ≡ Some j → word ≡ w
  pub items_are : items ≡ arity w
  pub binders_are : binders ≡ bound w
