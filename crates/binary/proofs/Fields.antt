-- What the code's answer to exporting stands for, by computation.
use mathlib.Core.Path.{refl}
use Rattle.binary.specs.Types.{ExportedFields}

pub exported_fields : ExportedFields
exported_fields = record { fields = λ a bytes. refl }
