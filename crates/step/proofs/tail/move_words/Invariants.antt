use Rattle.step.proofs.TailLaws.{Lowering, Raising}
use Rattle.step.proofs.tail.move_words.Given as goal

abbrev pub invariant-loop-i : goal.invariant-loop-i
invariant-loop-i l = Lowering l.initial.ws l.from l.to l.out l.ws l.i

abbrev pub invariant-loop-i-then-from-out : goal.invariant-loop-i-then-from-out
invariant-loop-i-then-from-out l = Raising l.initial.ws l.from l.to l.out l.ws l.i
