-- The records still ahead fall at each call: a reader of a term has 2 for each of them, and a reader of a chain, which calls it at its own link,
-- one more.
use Prim.Native.Nat.{◌+◌, ◌*◌}
use Rattle.records.specs.Types.{viewed_of}
use Rattle.transcription.specs.Reading.{ahead}
use Rattle.transcription.proofs.reading.+readers.Given as goal

abbrev pub decreases-read_chain : goal.decreases-read_chain
decreases-read_chain l = 2 * ahead (viewed_of l.table.now) l.link + 1

abbrev pub decreases-read_term : goal.decreases-read_term
decreases-read_term l = 2 * ahead (viewed_of l.table.now) l.at
