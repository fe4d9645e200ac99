use Rattle.std.proofs.Common.{◌≡◌, ◌≤◌, ◌+◌, ◌-◌, length}
use Rattle.vectors.specs.Vector.{tally_from, tally_all}
use Rattle.vectors.proofs.vector.tally_all.Given as goal

-- The lines that are still ahead, with the tally so far, give the tally of all; each line has at least a byte.
abbrev pub invariant-loop : goal.invariant-loop
invariant-loop l = record {
  passed_fits : l.passed ≤ l.vectors;
  vectors_fit : l.vectors ≤ l.counter;
  at_fits : l.at ≤ length l.text + 1;
  ahead : tally_from (l.end - l.counter) l.text l.at l.vectors l.passed ≡ tally_all l.text;
}
