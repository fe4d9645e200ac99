use lib.ListN.{drop}
use lib.Seq.{sets}
use mathlib.Core.Path.{◌≡◌}
use Rattle.text.proofs.bytes.widen.Given as goal

abbrev pub invariant-loop-i : goal.invariant-loop-i
invariant-loop-i l = sets l.words l.i (drop l.i l.bytes) ≡ sets l.initial.words 0 l.bytes
