-- `press_step` meets its contract.
use Rattle.claim.specs.Press.{press}
use Rattle.press.specs.Types.{memory_of, call_of, pressed_of}
use Rattle.vector_text.proofs.ListLaws.{lent_words, lent_again}
use Rattle.vectors.specs.Pair.{room, junk, Stage, stage_of, Stepped, checked, stepped_after, press_step}
use mathlib.Core.Path.{◌∙◌, ap}
use Rattle.vectors.proofs.pair.press_step.Goals as goal

pub returns-clause-stage : goal.returns-clause-stage
unfolding press_step
returns-clause-stage c at =
    let given = c.args.given in
    let before = stage_of at c.args.state in
    let budget = c.number-budget in
    let reader = budget.new.self in
    let lent = c.lent-n.ensures in
    let call = c.press_owned-pressed in
    let left = call.new.left in
    let right = call.new.right in
    let result : Stage → Stepped = λ s. record { stage = s; left = left; right = right } in
    ap result
    (c.check_press.ensures.stage at
    ∙ ap (λ t. checked reader.line.now reader.at (pressed_of call.result left right t) before)
    (lent_again junk given.scratch room _ lent call.new.scratch call.auto.scratch).2)
    ∙ ap (stepped_after reader.line.now reader.at before)
    (call.ensures
    ∙ ap (λ s. press (memory_of c.args.left.now c.args.right.now c.args.state.session) (call_of s given.left given.right budget.result))
    (lent_words junk given.scratch room _ lent))
    ∙ rw (budget.ensures.next, budget.ensures.value, c.expect.ensures)
