-- What the code's answer to writing stands for, by computation.
use mathlib.Core.Path.{refl}
use Rattle.tables.specs.Types.{WrittenFields}

pub written_fields : WrittenFields
written_fields = record { fields = λ a table. refl }
