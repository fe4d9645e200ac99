-- `put_ones` meets its contract. The invariant: the ones that are not left are put.
use Prim.Native.Nat.{◌+◌, ◌-◌}
use Rattle.bits.proofs.PutLaws.{put, put_none, rest_zero, put-more}
use Rattle.encoding.specs.Bytes.{packed}
use lib.ListN.{length}
use mathlib.Core.Path.{◌≡◌, ap, ◌∙◌}
use native.Mathlib.Omega.{arith}
use Rattle.bits.proofs.writing.put_ones.Goals as goal

pub loop-left-init : goal.loop-left-init
loop-left-init c = record { inside = (omega arith, omega arith); put = put_none c.args.bytes.now c.args.from (c.args.count - c.args.count) (omega arith) c.requires.rest_zero c.type_inv.bytes }

pub put_in_byte-requires-clause-rest_zero : goal.put_in_byte-requires-clause-rest_zero
put_in_byte-requires-clause-rest_zero c =
    rest_zero c.args.bytes.now c.args.from (c.args.count - c.loop-left.left) (omega arith) (omega arith) c.loop-left.invariant.put

pub loop-left-preserved : goal.loop-left-preserved
loop-left-preserved c =
    let done = c.args.count - c.loop-left.left in
    let e : done + c.min-ones.result ≡ c.args.count - (c.loop-left.left - c.min-ones.result) = omega arith in
    record {
      inside = (omega arith, omega arith);
      put = put-more c.args.bytes.now c.args.from done (omega arith) (omega arith) c.loop-left.invariant.put c.min-ones.result c.put_in_byte.ensures
          ∙ ap (λ n. packed (length c.args.bytes.now) (put c.args.bytes.now c.args.from n)) e;
    }
