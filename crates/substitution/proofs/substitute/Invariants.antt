use Rattle.calculus.specs.First.{first_terms}
use Rattle.substitution.proofs.RewritingLaws.{Rewriting}
use Rattle.walk.specs.Rewritten.{substituting}
use lib.ListN.{drop}
use Rattle.substitution.proofs.substitute.Given as goal

abbrev pub invariant-loop-i : goal.invariant-loop-i
invariant-loop-i l =
    Rewriting (substituting (first_terms l.body.count (drop l.body.args l.src))) l.src l.body.start l.body.stop l.initial.dst l.out l.initial.room l.dst l.room l.next l.i l.at.pending l.at.depth l.at.top
