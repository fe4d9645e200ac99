use Prim.Native.Nat.{◌-◌, ◌≤◌}
use Rattle.bits.specs.Runs.{run}
use Rattle.encoding.specs.Bytes.{unpacked}
use lib.Seq.{slice}
use mathlib.Core.Path.{◌≡◌}
use Rattle.bits.proofs.reading.ones.Given as goal

abbrev pub invariant-loop-count : goal.invariant-loop-count
invariant-loop-count l = (l.most ≡ l.to - l.from) × (l.count ≤ run (slice l.from l.to (unpacked l.bytes)))

abbrev pub decreases-loop-count : goal.decreases-loop-count
decreases-loop-count l = l.most - l.count
