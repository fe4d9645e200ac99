use Rattle.search.proofs.EndsLaws.{Filling}
use Rattle.search.proofs.ends.fill_ends.Given as goal

abbrev pub invariant-loop-i : goal.invariant-loop-i
invariant-loop-i l = Filling l.ws l.at l.initial.ends l.end l.ends l.i
