-- What the code's types stand for: a form, a table, how many children a record declares, and a record.
use Rattle.std.specs.Prelude.{ℕ, List, Some, None}
use Rattle.std.specs.Prelude as code_option
use Rattle.std.proofs.Math.Option.{Option, some, none}
use Rattle.records.specs.declared.Form as codeForm
use Rattle.records.specs.declared.Form.TheVariants as form
use Rattle.records.specs.declared.Record as codeRecord
use Rattle.records.specs.declared.Table as codeTable
use Rattle.storage.specs.Records.{Record, Table, Form, Stored, view, form1}

abbrev pub form_of : codeForm.Form → Form
form_of form.One = form1

-- Words in a form.
abbrev pub stored : codeForm.Form → List ℕ → Stored
stored f ws = record { form = form_of f; words = ws }

abbrev pub viewed : codeForm.Form → List ℕ → Table
viewed f ws = view (stored f ws)

abbrev pub stored_of : codeTable.Table → Stored
stored_of t = stored t.form t.words.now

abbrev pub viewed_of : codeTable.Table → Table
viewed_of t = viewed t.form t.words.now

abbrev pub declared_of : code_option.Option ℕ → Option ℕ
declared_of None = none
declared_of (Some m) = some m

abbrev pub record_of : codeRecord.Record → Record
record_of r = record { kind = r.kind; value = r.value; declared = declared_of r.declared; first = r.first; next = r.next }
