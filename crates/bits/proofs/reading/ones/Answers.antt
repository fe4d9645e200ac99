-- `ones` meets its contract. The invariant: so many ones are counted, and the run has at least as many.
use Prim.Native.Nat.{◌+◌, ◌-◌, ◌%◌}
use Rattle.bits.proofs.RunLaws.{run_ends, run_fills, run_stops, run_goes_on}
use Rattle.encoding.proofs.BytesLaws.{length-unpacked}
use Rattle.encoding.specs.Bytes.{unpacked}
use mathlib.Core.Path.{refl}
use native.Mathlib.Omega.{arith}
use Rattle.bits.proofs.reading.ones.Goals as goal

pub returns-then-most-count : goal.returns-then-most-count
returns-then-most-count c =
    run_fills (unpacked c.args.bytes.now) c.args.from c.args.to (omega (arith, length-unpacked c.args.bytes.now)) (64 - (c.args.from + c.loop-count.count) % 8) c.loop-count.invariant.1 c.ones_in_window-run.ensures (omega arith) (omega arith)

pub returns-then-run-at : goal.returns-then-run-at
returns-then-run-at c =
    run_stops (unpacked c.args.bytes.now) c.args.from c.args.to (omega (arith, length-unpacked c.args.bytes.now)) (64 - (c.args.from + c.loop-count.count) % 8) c.loop-count.invariant.1 c.ones_in_window-run.ensures (omega arith) (omega arith)

pub loop-count-preserved : goal.loop-count-preserved
loop-count-preserved c =
    (refl, run_goes_on (unpacked c.args.bytes.now) c.args.from c.args.to (omega (arith, length-unpacked c.args.bytes.now)) (64 - (c.args.from + c.loop-count.count) % 8) c.loop-count.invariant.1 c.ones_in_window-run.ensures (omega arith))

pub returns : goal.returns
returns c =
    omega (arith, run_ends (unpacked c.args.bytes.now) c.args.from c.args.to (omega (arith, length-unpacked c.args.bytes.now)), c.loop-count.invariant.1)
