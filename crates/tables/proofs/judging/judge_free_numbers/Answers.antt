-- `judge_free_numbers` meets its contract: the words that the reader leaves are those of the term that the root means.
use Rattle.calculus.specs.Refusal.{WrongFree}
use Rattle.records.specs.Types.{stored_of, viewed_of}
use Rattle.storage.specs.FreeNumbers.{wrong_free}
use Rattle.tables.proofs.JudgingLaws.{judged-read, judged_met}
use Rattle.tables.proofs.ReadingMeaning.{root_length, root_short, free_in_words}
use Rattle.transcription.specs.Reading.{term_words, Readable}
use Rattle.words.proofs.PlacedLaws.{placed_length}
use Rattle.words.proofs.RoomLaws.{room_of_length}
use Rattle.words.specs.Placed.{Placed}
use Prim.Native.Nat.{ℕ, ◌≤◌}
use mathlib.Core.Bool.{Bool, not}
use mathlib.Core.List.{List}
use lib.ListN.{length}
use Rattle.records.specs.Counting.{room_most}
use Rattle.records.specs.declared.Table.{Table}
use Rattle.terms.specs.IsTerm.{is_term}
use mathlib.Core.Path.{◌≡◌, ap, sym, ◌∙◌}
use native.Mathlib.Omega.{arith}
use Rattle.tables.proofs.judging.judge_free_numbers.Goals as goal

pub read_term-end-requires-clause-room : goal.read_term-end-requires-clause-room
read_term-end-requires-clause-room c =
    let p = c.requires.readable in
    rw c.root.ensures (omega (arith, root_short _ p.0 p.1))

-- Where the words of the root's term stand, whether its free numbers are in range.
free : (t : Table) (before after : List ℕ) (end : ℕ) {b : Bool} → Readable (stored_of t) (viewed_of t).root × (1 ≤ (viewed_of t).root)
    → length before ≡ room_most → Placed before 0 (term_words (viewed_of t) (viewed_of t).root) after end → b ≡ is_term after end
    → wrong_free (viewed_of t) ≡ not b
free t before after end p room placed e =
    free_in_words (stored_of t) p.0 p.1 before after end (omega (arith, room)) placed ∙ sym (ap not e)

pub returns-then-not-is_term : goal.returns-then-not-is_term
returns-then-not-is_term c =
    let T = viewed_of c.args.table.now in
    let placed = rw c.root.ensures at c.read_term-end.ensures in
    judged_met WrongFree
    (rw (free c.args.table.now _ _ _ c.requires.readable c.requires.room placed c.is_term.ensures, c.if-not-is_term.true))
    (room_of_length (placed_length {vs = term_words T T.root} placed))

pub returns : goal.returns
returns c =
    let p = c.requires.readable in
    let whole = root_length _ p.0 p.1 in
    let placed = rw c.root.ensures at c.read_term-end.ensures in
    judged-read whole (omega (arith, whole, root_short _ p.0 p.1, c.requires.room))
    (rw (free c.args.table.now _ _ _ p c.requires.room placed c.is_term.ensures, c.if-not-is_term.false)) placed
