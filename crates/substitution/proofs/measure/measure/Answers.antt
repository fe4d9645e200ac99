-- `measure` meets its contract. The invariant is `Counting`, the measure what is left of the words.
use Rattle.substitution.proofs.MeasureLaws.{counting_start, counting_next, counting_past, counting_done}
use Rattle.substitution.proofs.Walking.{walking_depth, walking_enters, walking_entered}
use Rattle.walk.proofs.MoveLaws.{moves_up}
use mathlib.Core.Path.{refl, sym, ◌∙◌}
use native.Mathlib.Omega.{arith}
use Rattle.substitution.proofs.measure.measure.Goals as goal
use Rattle.substitution.proofs.measure.measure.Goals.{in-Some, in_default}

pub loop-at-init : goal.loop-at-init
loop-at-init c = rw c.start-at.ensures (counting_start c.requires refl)

-- Nothing moves.
pub visit-here-requires : goal.visit-here-requires
visit-here-requires c =
    record {
      few = omega (arith, walking_depth c.loop-at.invariant.walking c.loop-at-test.true);
      movable = λ k e f. moves_up 0 _ (omega (arith, (c.type_inv.src c.loop-at.i).fits));
    }

pub enter-at-requires : goal.enter-at-requires
enter-at-requires c =
    let e = c.visit-here.ensures in
    walking_enters c.loop-at.invariant.walking c.loop-at-test.true (c.type_inv.src c.loop-at.i).fits e.items_are e.binders_are

-- Whether an argument stands for the word or none does.
pub loop-at-preserved : goal.loop-at-preserved
loop-at-preserved c =
    let v = c.loop-at.invariant in
    let e = c.visit-here.ensures in
    let entered = walking_entered v.walking c.loop-at-test.true (c.type_inv.src c.loop-at.i).fits e.items_are e.binders_are c.enter-at.ensures in
    elim c.match-here.branch [
      | in-Some w ↦ rw w.occurs-is (counting_next v c.loop-at-test.true (sym e.argument_is ∙ w.in-Some.is) entered)
      | in_default w ↦ rw w.occurs-is (counting_past v c.loop-at-test.true (sym e.argument_is ∙ w.in_default.is) entered)
    ]

pub returns-clause-measures : goal.returns-clause-measures
returns-clause-measures c = counting_done c.loop-at.invariant c.loop-at-test.false
