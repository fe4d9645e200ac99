-- `substituted_length` meets its contract, from how often each argument occurs.
use Rattle.substitution.proofs.CountLaws.{adding_start, adding_next, adding_done, taken, rises, product}
use Rattle.substitution.proofs.StartLaws.{positions_offsets}
use native.Mathlib.Omega.{arith}
use Rattle.substitution.proofs.measure.substituted_length.Goals as goal

pub loop-j-init : goal.loop-j-init
loop-j-init c =
    let p = c.requires.substitutable in
    adding_start p.0 (positions_offsets c.starts-starts.ensures p.1) c.requires.measures

pub overflow_sub-total-in-loop-j : goal.overflow_sub-total-in-loop-j
overflow_sub-total-in-loop-j c = (taken c.loop-j.invariant c.loop-j-test.true).0

pub overflow_sub-total-in-loop-j-2 : goal.overflow_sub-total-in-loop-j-2
overflow_sub-total-in-loop-j-2 c = (rises c.loop-j.invariant c.loop-j-test.true).0

pub overflow_mul-total : goal.overflow_mul-total
overflow_mul-total c = omega (arith, product c.loop-j.invariant c.loop-j-test.true)

pub overflow_add-total-in-loop-j : goal.overflow_add-total-in-loop-j
overflow_add-total-in-loop-j c =
    let v = c.loop-j.invariant in
    omega (arith, product v c.loop-j-test.true, v.few, v.needs.few, v.before)

pub loop-j-preserved : goal.loop-j-preserved
loop-j-preserved c = adding_next c.loop-j.invariant c.loop-j-test.true

pub returns : goal.returns
returns c = adding_done c.loop-j.invariant c.loop-j-test.false
