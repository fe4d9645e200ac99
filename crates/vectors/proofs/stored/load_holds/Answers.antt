-- `load_holds` meets its contract.
use Rattle.vector_text.proofs.ListLaws.{lent_words}
use Rattle.vectors.specs.Pair.{room, junk}
use Rattle.vectors.specs.Stored.{load_holds}
use mathlib.Core.Path.{◌∙◌, ap}
use Rattle.vectors.proofs.stored.load_holds.Goals as goal

pub returns : goal.returns
unfolding load_holds
returns c =
    ap (λ v. v.holds) c.loads.ensures
    ∙ rw (
      lent_words junk c.number-c.result room _ c.lent-w.ensures,
      c.lent-n.ensures,
      c.read_table-count.ensures.next,
      c.read_table-count.ensures.count,
      c.read_table-count.ensures.words,
      c.number-c.ensures.next,
      c.number-c.ensures.value,
    )
