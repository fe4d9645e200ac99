-- `show` meets its contract: nothing by the test that led to it, and otherwise the shorter form, which lies within its workspace.
use Rattle.std.proofs.Common.{sym, ◌∙◌, ap, length-take-le}
use Rattle.claim.specs.Showing.{part_of}
use Rattle.press.proofs.ShowingLaws.{shows_nothing, shows_no_left, shows_no_right, shows_right_form, shows_left_form, right_fits, left_fits}
use Rattle.press.proofs.showing.show.Goals as goal

pub returns-then-not-sized : goal.returns-then-not-sized
returns-then-not-sized c =
    let a = c.args in
    sym (ap (part_of a.left.ref_ptr a.right.ref_ptr a.left.now a.right.now) (shows_nothing _ _ _ _ (sym c.sized.ensures ∙ c.if-not-sized.true)))

pub returns-then-not-is_term : goal.returns-then-not-is_term
returns-then-not-is_term c =
    let a = c.args in
    sym (ap (part_of a.left.ref_ptr a.right.ref_ptr a.left.now a.right.now)
    (shows_no_left _ _ _ _ (sym c.sized.ensures ∙ c.if-not-sized.false) (sym c.is_term.ensures ∙ c.if-not-is_term.true)))

pub returns-then-not-is_term-2 : goal.returns-then-not-is_term-2
returns-then-not-is_term-2 c =
    let a = c.args in
    sym (ap (part_of a.left.ref_ptr a.right.ref_ptr a.left.now a.right.now)
    (shows_no_right _ _ _ _ (sym c.sized.ensures ∙ c.if-not-sized.false) (sym c.is_term.ensures ∙ c.if-not-is_term.false) (sym c.is_term-2.ensures ∙ c.if-not-is_term-2.true)))

pub returns-then-shows_right : goal.returns-then-shows_right
returns-then-shows_right c =
    let a = c.args in
    sym (ap (part_of a.left.ref_ptr a.right.ref_ptr a.left.now a.right.now)
    (shows_right_form _ _ _ _ (sym c.sized.ensures ∙ c.if-not-sized.false) (sym c.is_term.ensures ∙ c.if-not-is_term.false) (sym c.is_term-2.ensures ∙ c.if-not-is_term-2.false)
    (sym c.shows_right.ensures ∙ c.if-shows_right.true)))

pub returns : goal.returns
returns c =
    let a = c.args in
    sym (ap (part_of a.left.ref_ptr a.right.ref_ptr a.left.now a.right.now)
    (shows_left_form _ _ _ _ (sym c.sized.ensures ∙ c.if-not-sized.false) (sym c.is_term.ensures ∙ c.if-not-is_term.false) (sym c.is_term-2.ensures ∙ c.if-not-is_term-2.false)
    (sym c.shows_right.ensures ∙ c.if-shows_right.false)))

pub slice_bounds-result-end : goal.slice_bounds-result-end
slice_bounds-result-end c =
    let fits = right_fits _ _ c.args.left_length _ (sym c.sized.ensures ∙ c.if-not-sized.false) (sym c.is_term.ensures ∙ c.if-not-is_term.false) (sym c.is_term-2.ensures ∙ c.if-not-is_term-2.false) in
    sym (length-take-le c.args.right_length c.args.right.now fits)

pub slice_bounds-result-end-2 : goal.slice_bounds-result-end-2
slice_bounds-result-end-2 c =
    let fits = left_fits _ _ _ c.args.right_length (sym c.sized.ensures ∙ c.if-not-sized.false) (sym c.is_term.ensures ∙ c.if-not-is_term.false) in
    sym (length-take-le c.args.left_length c.args.left.now fits)
