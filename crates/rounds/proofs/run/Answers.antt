-- `run` meets its contract. The invariant is `Going`: both workspaces hold the current terms, and the rounds still to make end in what all end in.
-- The measure is what is left of the budget.
use Rattle.rounds.proofs.RunLoop.{shown_at, left_room, right_room, left_fits, right_fits, answered, judged, agreeing, ran, left_advances, right_advances, going_on}
use Rattle.turn.specs.Types.{verdict_of, early_of}
use lib.Seq.{length-take-le}
use mathlib.Core.Path.{refl, sym, ◌∙◌, ap}
use native.Mathlib.Omega.{arith}
use Rattle.rounds.proofs.run.Goals as goal

-- Each term is within its workspace.
pub slice_bounds-ask-end : goal.slice_bounds-ask-end
slice_bounds-ask-end c = left_fits c.loop-verdict.invariant

pub slice_bounds-ask-end-in-loop-verdict : goal.slice_bounds-ask-end-in-loop-verdict
slice_bounds-ask-end-in-loop-verdict c = sym (length-take-le _ c.loop-verdict.left (left_fits c.loop-verdict.invariant))

pub slice_bounds-ask-end-in-loop-verdict-2 : goal.slice_bounds-ask-end-in-loop-verdict-2
slice_bounds-ask-end-in-loop-verdict-2 c = right_fits c.loop-verdict.invariant

pub slice_bounds-ask-end-in-loop-verdict-3 : goal.slice_bounds-ask-end-in-loop-verdict-3
slice_bounds-ask-end-in-loop-verdict-3 c = sym (length-take-le _ c.loop-verdict.right (right_fits c.loop-verdict.invariant))

-- A round that is answered at once.
pub returns-in-Some : goal.returns-in-Some
returns-in-Some c =
    let l = c.loop-verdict in
    ran l.invariant refl
    (c.new.ensures ∙ ap (λ x. shown_at (verdict_of c.in-Some.verdict) x l.spent l.left_side.length l.right_side.length) c.ask-asked.ensures.compared)
    (answered l.invariant c.ask-asked.ensures.early (ap early_of c.in-Some.is))

-- The searches keep the scratch's length.
pub find-left_plan-requires : goal.find-left_plan-requires
find-left_plan-requires c = (c.loop-verdict.invariant.left_searched, left_room c.loop-verdict.invariant)

pub find-right_plan-requires : goal.find-right_plan-requires
find-right_plan-requires c =
    (c.loop-verdict.invariant.right_searched, right_room c.loop-verdict.invariant c.find-left_plan.new.scratch c.find-left_plan.auto.scratch)

-- A judged round that ends.
pub returns-in-Break : goal.returns-in-Break
returns-in-Break c =
    let l = c.loop-verdict in
    let p = c.find-left_plan in
    let q = c.find-right_plan in
    ran l.invariant (q.auto.scratch ∙ p.auto.scratch)
    (c.new-in-Break.ensures ∙ ap (λ x. shown_at (verdict_of c.in-Break.verdict) x l.spent l.left_side.length l.right_side.length) c.ask-asked.ensures.compared)
    (judged l.invariant c.ask-asked.ensures.early p.result q.result (ap early_of c.in_default.is) p.ensures.planned q.ensures.planned c.in-Break.ensures)

-- A round that goes on.
pub agreed-agree-requires : goal.agreed-agree-requires
agreed-agree-requires c =
    let l = c.loop-verdict in
    agreeing l.invariant c.ask-asked.ensures.compared c.position.ensures c.find-left_plan.result c.find-left_plan.ensures.planned

pub advance-left_side-requires : goal.advance-left_side-requires
advance-left_side-requires c =
    let l = c.loop-verdict in
    let p = c.find-left_plan in
    let q = c.find-right_plan in
    let goes = judged l.invariant c.ask-asked.ensures.early p.result q.result (ap early_of c.in_default.is) p.ensures.planned q.ensures.planned c.in-Continue.ensures in
    left_advances l.invariant goes (q.auto.scratch ∙ p.auto.scratch) p.ensures.planned

pub advance-right_side-requires : goal.advance-right_side-requires
advance-right_side-requires c =
    let l = c.loop-verdict in
    let p = c.find-left_plan in
    let q = c.find-right_plan in
    let goes = judged l.invariant c.ask-asked.ensures.early p.result q.result (ap early_of c.in_default.is) p.ensures.planned q.ensures.planned c.in-Continue.ensures in
    let a = c.advance-left_side in
    right_advances l.invariant goes a.auto.ws (a.auto.scratch ∙ q.auto.scratch ∙ p.auto.scratch) a.ensures.advanced
    (omega (arith, a.auto.room, l.invariant.room_length)) q.ensures.planned

pub loop-verdict-preserved : goal.loop-verdict-preserved
loop-verdict-preserved c =
    let l = c.loop-verdict in
    let p = c.find-left_plan in
    let q = c.find-right_plan in
    let goes = judged l.invariant c.ask-asked.ensures.early p.result q.result (ap early_of c.in_default.is) p.ensures.planned q.ensures.planned c.in-Continue.ensures in
    let a = c.advance-left_side in
    let b = c.advance-right_side in
    going_on l.invariant goes a.auto.ws (a.auto.scratch ∙ q.auto.scratch ∙ p.auto.scratch) a.ensures.advanced
    b.auto.ws b.auto.scratch b.ensures.advanced
    (omega (arith, a.auto.room, b.auto.room, l.invariant.room_length))
    c.ask-asked.ensures.compared c.position.ensures p.ensures.planned q.ensures.planned c.agreed-agree.ensures
