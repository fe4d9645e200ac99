use Prim.Native.Nat.{◌-◌, ◌≤◌}
use Rattle.records.specs.Counting.{counted}
use Rattle.records.specs.Types.{viewed_of}
use mathlib.Core.Path.{◌≡◌}
use Rattle.records.proofs.links.count_links.Given as goal

abbrev pub invariant-loop-i : goal.invariant-loop-i
invariant-loop-i l = (l.i - 1 ≤ l.i-end) × (l.counts ≡ counted (viewed_of l.table) (l.i - 1) l.initial.counts)
