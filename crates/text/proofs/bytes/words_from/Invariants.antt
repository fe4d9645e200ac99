use Rattle.text.specs.Decode.{words_from}
use lib.ListN.{length, drop}
use lib.Seq.{sets}
use mathlib.Core.Path.{◌≡◌}
use Rattle.text.proofs.bytes.words_from.Given as goal

abbrev pub invariant-loop-i : goal.invariant-loop-i
invariant-loop-i l =
    sets l.words l.i (drop l.i (words_from (length l.initial.words) l.bytes l.at)) ≡ sets l.initial.words 0 (words_from (length l.initial.words) l.bytes l.at)
