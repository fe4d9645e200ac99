use lib.ListN.{length}
use Rattle.parser.proofs.ParseLaws.{Parsing}
use Rattle.parser.proofs.parse.Given as goal

abbrev pub invariant-loop-b : goal.invariant-loop-b
invariant-loop-b l = Parsing l.line (length l.yielded) l.s l.stack l.out
