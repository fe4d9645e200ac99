-- What is still to copy, put where it comes, makes of the slice what all of it made of it before.
use Rattle.std.proofs.Common.{◌≡◌, ◌+◌}
use Rattle.std.proofs.lemmas.List.Edits.{sets}
use Rattle.std.proofs.Math.Seq.{slice}
use Rattle.words.proofs.slices.copy.Given as goal

abbrev pub invariant-loop-i : goal.invariant-loop-i
invariant-loop-i g l = sets l.dst (l.out + l.i) (slice (l.from + l.i) l.to l.src) ≡ sets l.initial.dst l.out (slice l.from l.to l.src)
