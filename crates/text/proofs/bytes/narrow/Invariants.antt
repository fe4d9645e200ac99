use Rattle.text.proofs.ByteLaws.{Narrowing}
use Rattle.text.proofs.bytes.narrow.Given as goal

abbrev pub invariant-loop-i : goal.invariant-loop-i
invariant-loop-i l = Narrowing l.words l.initial.bytes l.bytes l.i
