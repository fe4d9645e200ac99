use Rattle.search.proofs.SearchLaws.{Searching}
use Rattle.search.proofs.find.Given as goal

abbrev pub invariant-loop-i : goal.invariant-loop-i
invariant-loop-i l = Searching l.ws l.n l.initial.scratch l.scratch l.i l.known
