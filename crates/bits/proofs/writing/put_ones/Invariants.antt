use Prim.Native.Nat.{◌+◌, ◌-◌, ◌≤◌}
use Rattle.encoding.specs.Bytes.{packed}
use Rattle.bits.proofs.PutLaws.{put}
use lib.ListN.{length}
use mathlib.Core.Path.{◌≡◌}
use Rattle.bits.proofs.writing.put_ones.Given as goal

abbrev pub invariant-loop-left : goal.invariant-loop-left
invariant-loop-left l = record {
  inside : (l.left ≤ l.count) × (l.at ≡ l.from + (l.count - l.left));
  put : l.bytes ≡ packed (length l.initial.bytes) (put l.initial.bytes l.from (l.count - l.left));
}

abbrev pub decreases-loop-left : goal.decreases-loop-left
decreases-loop-left l = l.left
