use Rattle.binary.proofs.WalkLaws.{Walking}
use Rattle.binary.proofs.combinator.is_combinator.Given as goal

abbrev pub invariant-loop-i : goal.invariant-loop-i
invariant-loop-i l = Walking l.words l.waiting.items l.i l.depth
