-- Judging a table: the answer, by refusals in their order, and the words of the term that it means, read into a room.
use Rattle.std.specs.Prelude.{ℕ, ◌≡◌, Bool, List}
use Rattle.std.proofs.Math.Option.{Option, some, none}
use Rattle.std.proofs.Math.Seq.{slice}
use Rattle.calculus.specs.Refusal.{Refusal}
use Rattle.calculus.specs.Bringing.{Result, refused, returned, first_met}
use Rattle.words.specs.Room.{Room}
use Rattle.storage.specs.Records.{Table}
use Rattle.transcription.specs.Reading.{term_words}

abbrev pub unless : Option Refusal → (n : ℕ) → Result
unless (some why) n = refused why
unless none n = returned n

-- The first of these refusals that is met, and then the words left in the room are free; or the number of records, and the words of the root's term stand at the
-- start of the room.
pub record Judged (T : Table) (checks : List (Refusal × Bool)) (before : List ℕ) (answer : Result) (after : List ℕ) : Type 0 where
  pub answers : answer ≡ unless (first_met checks) T.n
  pub reads : first_met checks ≡ none → slice 0 T.n after ≡ term_words T T.root
  pub room : Room before after
