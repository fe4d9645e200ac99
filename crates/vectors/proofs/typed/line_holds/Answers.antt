-- `line_holds` meets its contract.
use Rattle.vector_text.proofs.ListLaws.{lent_words}
use Rattle.vectors.specs.Pair.{room, junk}
use Rattle.vectors.specs.Typed.{line_holds}
use mathlib.Core.Path.{◌∙◌, ap}
use Rattle.vectors.proofs.typed.line_holds.Goals as goal

pub returns : goal.returns
unfolding line_holds
returns c =
    ap (λ v. v.holds) c.reads.ensures
    ∙ rw (
      lent_words junk c.number-c.result room _ c.lent-w.ensures,
      c.lent-n.ensures,
      c.list-count.ensures.next,
      c.list-count.ensures.count,
      c.list-count.ensures.words,
      c.number-c.ensures.next,
      c.number-c.ensures.value,
    )
