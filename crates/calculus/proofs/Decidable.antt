-- Equality of terms and normality are decidable; normality by the leftmost contraction.
use mathlib.Core.Path.{◌≡◌, refl}
use mathlib.Core.Logic.Dec
use mathlib.Core.Option.{Option, some, none, some-ne-none}
use Rattle.calculus.specs.Leftmost.{leftmost}
use Rattle.calculus.specs.Equality.{equal?}
use Rattle.calculus.specs.Theorems.{EqualityDecidable, NormalityDecidable}
use Rattle.calculus.proofs.LeftmostLaws.{leftmost_none}

pub equality_decidable : EqualityDecidable
equality_decidable t u = equal? t u

none? : {A : Type 0} (o : Option A) → Dec (o ≡ none)
none? none = yes refl
none? (some a) = no (some-ne-none a)

pub normality_decidable : NormalityDecidable
normality_decidable t = Dec.of_iff (leftmost_none t) (none? (leftmost t))
