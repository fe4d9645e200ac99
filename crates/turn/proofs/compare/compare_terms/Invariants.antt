use Rattle.turn.specs.Compare.{Agrees}
use Rattle.turn.proofs.compare.compare_terms.Given as goal

abbrev pub invariant-loop-i : goal.invariant-loop-i
invariant-loop-i l = Agrees l.i l.left l.right
