use Rattle.std.proofs.Common.{◌≡◌, ◌≤◌, ◌+◌, drop}
use Rattle.vector_text.specs.Text.{digits}
use Rattle.vector_text.proofs.Reader.number_ahead.Given as goal

-- What is still ahead decides.
abbrev pub invariant-loop-byte : goal.invariant-loop-byte
invariant-loop-byte l = record {
  place : l.end ≡ l.from + l.byte-index;
  small : l.value ≤ 42949672959;
  ahead : digits l.from l.value l.end (drop l.byte-index l.byte-items) ≡ digits l.from 0 l.from l.byte-items;
}
