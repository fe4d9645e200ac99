use Prim.Native.Nat.{◌-◌}
use Rattle.substitution.proofs.MeasureLaws.{Counting}
use lib.ListN.{length}
use Rattle.substitution.proofs.measure.measure.Given as goal

abbrev pub invariant-loop-at : goal.invariant-loop-at
invariant-loop-at l =
    Counting l.src l.body l.count l.initial.room l.room l.occurs l.i l.at.pending l.at.depth l.at.top l.last

abbrev pub decreases-loop-at : goal.decreases-loop-at
decreases-loop-at l = length l.src - l.i
