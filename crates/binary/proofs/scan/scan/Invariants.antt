use Prim.Native.Nat.{◌-◌}
use Rattle.binary.proofs.ScanLaws.{Scanning}
use Rattle.encoding.specs.Bytes.{unpacked}
use lib.ListN.{take}
use Rattle.binary.proofs.scan.scan.Given as goal

abbrev pub invariant-loop-at : goal.invariant-loop-at
invariant-loop-at l = Scanning (take l.bits (unpacked l.bytes)) l.bits l.initial.words l.words l.at l.terms l.count

abbrev pub decreases-loop-at : goal.decreases-loop-at
decreases-loop-at l = l.bits - l.at
