use Prim.Native.Nat.{◌+◌, ◌-◌}
use Rattle.substitution.proofs.RewritingLaws.{Rewriting}
use Rattle.walk.specs.Rewritten.{shifting}
use Rattle.substitution.proofs.shift.Given as goal

abbrev pub invariant-loop-i : goal.invariant-loop-i
invariant-loop-i l =
    Rewriting (shifting l.distance) l.src l.at l.end l.initial.dst l.out l.initial.room l.dst l.room (l.out + (l.i - l.at)) l.i l.scope.pending l.scope.depth l.scope.top
