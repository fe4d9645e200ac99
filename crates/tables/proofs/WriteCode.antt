-- Writing where it is not refused: what the code leaves is the table of the term.
use Prim.Native.Nat.{ℕ, ◌+◌, ◌*◌}
use mathlib.Core.Path.{◌≡◌, sym, ◌∙◌}
use mathlib.Core.Bool.{false}
use mathlib.Core.List.{List, [], ◌∷◌}
use mathlib.Core.Option.{some}
use lib.ListN.{length, take}
use lib.Seq.{sets}
use borrow.Author.Tests.{eq-eqb}
use Rattle.calculus.specs.Term.{Term}
use Rattle.calculus.specs.Workspace.{wrong_workspace, term_at}
use Rattle.calculus.specs.Bringing.{returned}
use Rattle.calculus.specs.Theorems.{Held}
use Rattle.calculus.proofs.WordLaws.{accepted_packable}
use Rattle.calculus.proofs.WorkspaceLaws.{held, held-size}
use Rattle.storage.specs.Records.{form1, records_words}
use Rattle.storage.specs.Write.{table_of, write, Written}
use Rattle.storage.proofs.Written.WrittenTable.{tableOf-length}
use Rattle.words.proofs.PlacedLaws.{sets_whole}
use Rattle.transcription.specs.Writing.{entries}
use Rattle.tables.proofs.EntriesLaws.{entries-records}

-- The header and then the records, over the whole table.
pub written : (ws table last : List ℕ) (n : ℕ) (t : Term) → wrong_workspace (length ws) ≡ false → term_at ws n ≡ some t
    → length table ≡ form1.record_words * (n + 1)
    → last ≡ sets (sets table 0 (form1.header_words (length (take n ws)) 1)) form1.record_words (records_words (entries 1 (1 ∷ []) (take n ws)))
    → ◌≡◌ {A = Written} (record { answer = returned n; table = last }) (write ws n table)
unfolding write
written ws table last n t w h e f = rw (w, h, eq-eqb (length table) (form1.record_words * (n + 1)) e, all)
  where
    holds : Held ws n t
    holds = held ws n t h

    length_is : length (table_of t) ≡ length table
    length_is = tableOf-length t ∙ rw (held-size holds) (sym e)

    all : last ≡ table_of t
    all = f ∙ rw (← holds.words_are, entries-records t (accepted_packable 0 t holds.accepted)) (sets_whole (table_of t) table length_is)
