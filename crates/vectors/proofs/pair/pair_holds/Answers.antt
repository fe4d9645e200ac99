-- `pair_holds` meets its contract.
use Rattle.vector_text.proofs.ListLaws.{lent_words}
use Rattle.vectors.specs.Pair.{room, junk, pair_holds}
use mathlib.Core.Path.{◌∙◌, ap}
use Rattle.vectors.proofs.pair.pair_holds.Goals as goal

pub returns : goal.returns
unfolding pair_holds
returns c =
    ap (λ e. e.holds) c.run.ensures
    ∙ rw (
      lent_words junk c.number-c.result room _ c.lent-l.ensures,
      lent_words junk c.setting-d.result room _ c.lent-r.ensures,
      c.setting-d.ensures.next,
      c.setting-d.ensures.value,
      c.number-c.ensures.next,
      c.number-c.ensures.value,
    )
