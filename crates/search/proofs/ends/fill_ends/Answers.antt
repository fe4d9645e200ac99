-- `fill_ends` meets its contract. The invariant: from i on the table tells the ends.
use Prim.Native.Nat.{◌+◌, ◌-◌}
use Rattle.calculus.proofs.SkipLaws.{span_bounded}
use Rattle.search.proofs.EndsLaws.{filling_within, filling_turn}
use lib.ListN.{drop, length-drop}
use native.Mathlib.Omega.{arith}
use Rattle.search.proofs.ends.fill_ends.Goals as goal

-- What is filled in next stands in the workspace and in the table.
pub bounds-ws-i : goal.bounds-ws-i
bounds-ws-i c = omega (arith, c.loop-i.invariant.to, filling_within c.loop-i.invariant c.loop-i-test.true)

pub overflow_cast-ends : goal.overflow_cast-ends
overflow_cast-ends c =
    let behind = c.loop-i.i - 1 + 1 in
    omega (
      arith,
      c.loop-i.invariant.to,
      filling_within c.loop-i.invariant c.loop-i-test.true,
      c.requires.0,
      c.hop-stop.ensures,
      span_bounded c.arity.result (drop behind c.args.ws.now),
      length-drop behind c.args.ws.now,
    )

pub loop-i-preserved : goal.loop-i-preserved
loop-i-preserved c = filling_turn c.loop-i.invariant c.loop-i-test.true (rw c.arity.ensures at c.hop-stop.ensures)
