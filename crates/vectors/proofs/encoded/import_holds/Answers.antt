-- `import_holds` meets its contract.
use Rattle.vector_text.proofs.ListLaws.{lent_words}
use Rattle.vectors.specs.Encoded.{import_holds}
use Rattle.vectors.specs.Pair.{room, junk}
use mathlib.Core.Path.{◌∙◌, ap}
use Rattle.vectors.proofs.encoded.import_holds.Goals as goal

pub returns : goal.returns
unfolding import_holds
returns c =
    ap (λ v. v.holds) c.imports.ensures
    ∙ rw (
      lent_words junk c.number-c.result room _ c.lent-w.ensures,
      c.lent-n.ensures,
      c.list-length.ensures.next,
      c.list-length.ensures.count,
      c.list-length.ensures.words,
      c.number-count.ensures.next,
      c.number-count.ensures.value,
      c.number-c.ensures.next,
      c.number-c.ensures.value,
    )
