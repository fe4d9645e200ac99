-- `export_holds` meets its contract.
use Rattle.vector_text.proofs.ListLaws.{lent_words}
use Rattle.vectors.specs.Encoded.{export_holds}
use Rattle.vectors.specs.Pair.{room, junk}
use mathlib.Core.Path.{◌∙◌, ap}
use Rattle.vectors.proofs.encoded.export_holds.Goals as goal

pub returns : goal.returns
unfolding export_holds
returns c =
    ap (λ v. v.holds) c.exports_words.ensures
    ∙ rw (lent_words junk c.number-c.result room _ c.lent-w.ensures, c.number-c.ensures.next, c.number-c.ensures.value)
