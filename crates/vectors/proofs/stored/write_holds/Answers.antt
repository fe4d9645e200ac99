-- `write_holds` meets its contract.
use Rattle.vector_text.proofs.ListLaws.{lent_words}
use Rattle.vectors.specs.Pair.{room, junk}
use Rattle.vectors.specs.Stored.{write_holds}
use mathlib.Core.Path.{◌∙◌, ap}
use Rattle.vectors.proofs.stored.write_holds.Goals as goal

pub returns : goal.returns
unfolding write_holds
returns c =
    ap (λ v. v.holds) c.writes_words.ensures
    ∙ rw (lent_words junk c.number-c.result room _ c.lent-w.ensures, c.number-c.ensures.next, c.number-c.ensures.value)
