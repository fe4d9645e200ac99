use Prim.Native.Nat.{◌-◌}
use Rattle.rounds.proofs.RunLoop.{Going}
use Rattle.rounds.proofs.run.Given as goal

abbrev pub invariant-loop-verdict : goal.invariant-loop-verdict
invariant-loop-verdict l =
    Going l.initial.left l.initial.right l.initial.scratch l.left_length l.right_length l.budget l.left l.right l.scratch l.room l.left_side.length l.left_side.from l.right_side.length l.right_side.from l.agree l.spent

abbrev pub decreases-loop-verdict : goal.decreases-loop-verdict
decreases-loop-verdict l = l.budget - l.spent
