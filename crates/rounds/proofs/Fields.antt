-- What the code's record stands for, by computation.
use mathlib.Core.Path.{refl}
use Rattle.rounds.specs.Types.{ShownFields}

pub shown_fields : ShownFields
shown_fields = record { fields = λ v s l r p. refl }
