use Rattle.std.proofs.Common.{◌≡◌, ◌-◌, length}
use Rattle.vectors.specs.Pair.{stage_of, stepped_of, steps_from}
use Rattle.vectors.proofs.pair.steps.Given as goal

-- The calls that are still ahead end as all of them do.
abbrev pub invariant-loop : goal.invariant-loop
invariant-loop l = record {
  line : l.reader.line ≡ l.fn.reader.line;
  ahead :
      steps_from (l.end - l.counter) l.fn.reader.line.now (stepped_of (stage_of l.reader.at l.state) l.left l.right)
      ≡ steps_from (length l.fn.reader.line.now) l.fn.reader.line.now (stepped_of (stage_of l.fn.reader.at l.fn.start) l.fn.left l.fn.right);
}
