use Rattle.terms.proofs.Stack.{Scanning}
use Rattle.terms.proofs.is_whole.Given as goal

abbrev pub invariant-loop-w : goal.invariant-loop-w
invariant-loop-w l = Scanning l.ws l.waiting.items l.frame.0 l.w-index
