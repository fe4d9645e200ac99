-- `writes_words` meets its contract.
use Rattle.vector_text.proofs.ListLaws.{lent_words}
use Rattle.vector_text.specs.Lists.{list_most}
use Rattle.vectors.specs.Pair.{junk}
use Rattle.vectors.specs.Stored.{verified_of, writes_words}
use mathlib.Core.Path.{◌∙◌, ap}
use Rattle.vectors.proofs.stored.writes_words.Goals as goal

pub returns : goal.returns
unfolding writes_words
returns c =
    ap (λ v. verified_of v.holds c.list.new.into) c.writes_into.ensures
    ∙ rw (
      lent_words junk c.number-size.result list_most _ c.lent-n.ensures,
      c.number-size.ensures.next,
      c.number-size.ensures.value,
      c.number-length.ensures.next,
      c.number-length.ensures.value,
      c.list.ensures.next,
      c.list.ensures.words,
    )
