-- `branch_body` meets its contract. The invariant: the branches still to come, with what was found before them, give what all of them give.
use Rattle.calculus.specs.Term.{is_default}
use Rattle.calculus.specs.Words.{tag_of, count_of}
use Rattle.redex.proofs.PartsTurns.{branch_body_none, branch_body_past, branch_body-default, branch_body_fits, branch_body-other, branch_body_later}
use mathlib.Core.Path.{◌≡◌, sym, ◌∙◌, ap}
use native.Mathlib.Omega.{arith}
use Rattle.search.proofs.seen.branch_body.Goals as goal
use Rattle.search.proofs.seen.branch_body.Goals.{then-is_default, else-is_default+else-tag}

pub returns-then-count : goal.returns-then-count
returns-then-count c =
    let told = c.is_default.ensures ∙ ap (λ p. is_default (tag_of p) (count_of p)) c.payload.ensures in
    sym (branch_body_fits _ _ _ _ _ _ (omega arith) (λ e. omega arith) told c.if-is_default.false (c.if-tag.true ∙ c.tag.ensures) (c.if-count.true ∙ c.count.ensures))
    ∙ c.loop-left.invariant.0

pub returns-then-tag : goal.returns-then-tag
returns-then-tag c =
    let told = c.is_default.ensures ∙ ap (λ p. is_default (tag_of p) (count_of p)) c.payload.ensures in
    sym (branch_body-other _ _ _ _ _ _ (omega arith) (λ e. omega arith) told c.if-is_default.false (c.if-tag.true ∙ c.tag.ensures) (λ q. c.if-count.false (q ∙ sym c.count.ensures)))
    ∙ c.loop-left.invariant.0

pub loop-left-preserved : goal.loop-left-preserved
loop-left-preserved c =
    let told = c.is_default.ensures ∙ ap (λ p. is_default (tag_of p) (count_of p)) c.payload.ensures in (
      elim c.if-is_default.branch [
        | then-is_default w ↦
            rw (w.found-is ∙ w.or-found.ensures)
            (sym (branch_body-default _ _ _ _ _ _ (omega arith) (λ e. omega arith) told w.if-is_default.true c.end_of-i.ensures)
            ∙ c.loop-left.invariant.0)
        | else-is_default+else-tag w ↦
            rw w.found-is
            (sym (branch_body_later _ _ _ _ _ _ (omega arith) (λ e. omega arith) told w.if-is_default.false (λ q. w.if-tag.false (q ∙ sym w.tag.ensures)) c.end_of-i.ensures)
            ∙ c.loop-left.invariant.0)
      ],
      omega (arith, c.end_of-i.ensures, c.loop-left.invariant.1),
    )

pub returns-then-items-i : goal.returns-then-items-i
returns-then-items-i c = sym (branch_body_past _ _ _ _ _ _ (omega arith)) ∙ c.loop-left.invariant.0

pub returns : goal.returns
returns c = let none : c.loop-left.left ≡ 0 = omega arith in sym (branch_body_none _ _ _ _ _) ∙ rw none at c.loop-left.invariant.0
