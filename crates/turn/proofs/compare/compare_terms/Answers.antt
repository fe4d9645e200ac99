-- `compare_terms` meets its contract. The invariant: the words up to i agree.
use Rattle.turn.proofs.CompareLaws.{compare-other, compare_equal, compare_longer}
use mathlib.Core.Path.{sym}
use native.Mathlib.Omega.{arith}
use Rattle.turn.proofs.compare.compare_terms.Goals as goal

pub returns-then-left-i : goal.returns-then-left-i
returns-then-left-i c =
    sym (compare-other c.loop-i.i c.loop-i.invariant c.if-left-i.true)

-- The loop is left where the shorter term ends.
pub returns-then-left-right : goal.returns-then-left-right
returns-then-left-right c =
    sym (compare_equal c.loop-i.i c.loop-i.invariant (omega (arith, c.min-shorter.ensures)) c.if-left-right.true)

pub returns : goal.returns
returns c =
    rw c.min-shorter.ensures
    (sym (compare_longer c.loop-i.i c.loop-i.invariant (omega (arith, c.min-shorter.ensures)) c.if-left-right.false))
