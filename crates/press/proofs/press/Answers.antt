-- `press` meets its contract: each refusal by the tests that led to it, and the press on two terms otherwise.
use Rattle.std.proofs.Common.{sym, ◌∙◌}
use Rattle.press.proofs.PressCode.{runs, refused_workspace, refused_budget, refused_left, refused_right, pressed_terms}
use Rattle.press.proofs.press.Goals as goal

pub returns-then-not-sized : goal.returns-then-not-sized
returns-then-not-sized c = rw c.refused.ensures (sym (refused_workspace _ _ (sym c.sized.ensures ∙ c.if-not-sized.true)))

pub returns-then-not-budget_passes : goal.returns-then-not-budget_passes
returns-then-not-budget_passes c =
    rw c.refused-then-not-budget_passes.ensures
    (sym (refused_budget _ _ (sym c.sized.ensures ∙ c.if-not-sized.false) (sym c.budget_passes.ensures ∙ c.if-not-budget_passes.true)))

pub returns-then-not-is_term : goal.returns-then-not-is_term
returns-then-not-is_term c =
    rw c.refused-then-not-is_term.ensures
    (sym (refused_left _ _ (sym c.sized.ensures ∙ c.if-not-sized.false) (sym c.budget_passes.ensures ∙ c.if-not-budget_passes.false)
    (sym c.is_term.ensures ∙ c.if-not-is_term.true)))

pub returns-then-not-is_term-2 : goal.returns-then-not-is_term-2
returns-then-not-is_term-2 c =
    rw c.refused-then-not-is_term-2.ensures
    (sym (refused_right _ _ (sym c.sized.ensures ∙ c.if-not-sized.false) (sym c.budget_passes.ensures ∙ c.if-not-budget_passes.false)
    (sym c.is_term.ensures ∙ c.if-not-is_term.false) (sym c.is_term-2.ensures ∙ c.if-not-is_term-2.true)))

pub press_terms-requires-clause-ready : goal.press_terms-requires-clause-ready
press_terms-requires-clause-ready c =
    runs _ _ _ _ _ (sym c.sized.ensures ∙ c.if-not-sized.false) (sym c.is_term.ensures ∙ c.if-not-is_term.false) (sym c.is_term-2.ensures ∙ c.if-not-is_term-2.false)

pub returns : goal.returns
returns c =
    pressed_terms _ _ (sym c.sized.ensures ∙ c.if-not-sized.false) (sym c.budget_passes.ensures ∙ c.if-not-budget_passes.false)
    (sym c.is_term.ensures ∙ c.if-not-is_term.false) (sym c.is_term-2.ensures ∙ c.if-not-is_term-2.false) c.press_terms.ensures
