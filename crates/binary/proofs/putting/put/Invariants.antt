use Rattle.binary.specs.Words.{words_bits}
use Rattle.encoding.specs.Bytes.{packed}
use lib.ListN.{length, take}
use mathlib.Core.Path.{◌≡◌}
use Rattle.binary.proofs.putting.put.Given as goal

abbrev pub invariant-loop-w : goal.invariant-loop-w
invariant-loop-w l = record {
  at : l.at ≡ length (words_bits (take l.w-index l.words));
  put : l.bytes ≡ packed (length l.initial.bytes) (words_bits (take l.w-index l.words));
}
