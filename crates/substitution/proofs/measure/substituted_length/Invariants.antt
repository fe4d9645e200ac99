use Rattle.substitution.proofs.CountLaws.{Adding}
use Rattle.substitution.proofs.measure.substituted_length.Given as goal

abbrev pub invariant-loop-j : goal.invariant-loop-j
invariant-loop-j l = Adding l.src l.fn.body.start l.fn.body.args l.fn.body.count l.occurs l.starts l.total l.j
