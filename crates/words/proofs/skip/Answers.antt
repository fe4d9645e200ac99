-- `skip` meets its contract. The invariant: the end is where the items still to come end, and each word passed brought at most `payload_bound`
-- of them.
use Prim.Native.Nat.{◌≤◌}
use Rattle.calculus.proofs.SkipLaws.{span_zero}
use Rattle.words.proofs.Spans.{arity_bounded, span-step}
use Rattle.words.specs.Limits.{payload_bound}
use native.Mathlib.Omega.{arith}
use Rattle.words.proofs.skip.Goals as goal

pub returns-then-pending-eq0 : goal.returns-then-pending-eq0
returns-then-pending-eq0 c =
    let l = c.loop-i in
    let z = rw (c.if-pending-eq0.true, span_zero) at l.invariant.0 in
    omega arith

bounded : (c : goal.After-arity) → c.arity.result ≤ payload_bound
bounded c = rw c.arity.ensures (arity_bounded _ (c.type_inv.ws c.loop-i.i).fits)

pub overflow_add-pending : goal.overflow_add-pending
overflow_add-pending c = omega (arith, bounded c)

pub loop-i-preserved : goal.loop-i-preserved
loop-i-preserved c =
    let l = c in (
      rw (c.arity.ensures, ← span-step _ _ _ c.loop-i-test.true c.if-pending-eq0.false) c.loop-i.invariant.0,
      omega (arith, bounded c),
    )
