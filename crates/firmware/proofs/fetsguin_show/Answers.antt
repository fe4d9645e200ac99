-- `fetsguin_show` meets its contract: the lengths tell the side.
use Rattle.firmware.proofs.ShowLaws.{part-seen}
use borrow.Author.Tests.{eq-eqb, ne_eqb}
use mathlib.Core.Path.{ap, sym, ◌∙◌}
use Rattle.firmware.proofs.fetsguin_show.Goals as goal

pub returns-then-part-eq0 : goal.returns-then-part-eq0
returns-then-part-eq0 c = part-seen _ _ _ _ (ap (λ x. x.1) c.show-part.ensures) (rw (eq-eqb _ 0 c.if-part-eq0.true))

pub returns-then-shows_right : goal.returns-then-shows_right
returns-then-shows_right c =
    part-seen _ _ _ _ (ap (λ x. x.1) c.show-part.ensures)
    (rw (ne_eqb _ 0 c.if-part-eq0.false, sym c.shows_right.ensures ∙ c.if-shows_right.true))

pub returns : goal.returns
returns c =
    part-seen _ _ _ _ (ap (λ x. x.1) c.show-part.ensures)
    (rw (ne_eqb _ 0 c.if-part-eq0.false, sym c.shows_right.ensures ∙ c.if-shows_right.false))
