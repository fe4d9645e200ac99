use Rattle.std.proofs.Common.{◌≡◌, ◌-◌}
use Rattle.vector_text.specs.Lists.{listed_of, items, list_at}
use Rattle.vector_text.proofs.Reader.list.Given as goal

-- The items that are still ahead end as all of them do.
abbrev pub invariant-loop : goal.invariant-loop
invariant-loop l = record {
  line : l.self.line ≡ l.fn.self.line;
  ahead : items (l.end - l.counter) l.fn.self.line.now (listed_of l.into l.count l.self.at) ≡ list_at l.fn.self.line.now l.fn.self.at l.fn.into;
}
