-- What the code's types stand for: what exporting leaves.
use Rattle.std.specs.Prelude.{ℕ, ◌≡◌, List, Result}
use Rattle.words.specs.declared.refusal.Refusal.{Refusal}
use Rattle.words.specs.Types.{result_of}
use Rattle.encoding.specs.Export.{Exported}

-- Everything at exit of exporting: its answer and the lent bytes.
abbrev pub exported_of : Result ℕ Refusal → (bytes : List ℕ) → Exported
exported_of a bytes = record { answer = result_of a; bytes = bytes }

-- Each field is that of its name.
pub record ExportedFields : Type 0 where
  pub fields : (a : Result ℕ Refusal) (bytes : List ℕ) → exported_of a bytes ≡ record { answer = result_of a; bytes = bytes }
