-- `exports_words` meets its contract.
use Rattle.binary.specs.Types.{exported_of}
use Rattle.encoding.specs.Export.{export}
use Rattle.vector_text.proofs.ListLaws.{lent_again}
use Rattle.vector_text.specs.Lists.{list_most}
use Rattle.vectors.proofs.EncodedLaws.{junk_lent}
use Rattle.vectors.specs.Encoded.{exported_as, exports_words}
use Rattle.vectors.specs.Stored.{verified_of}
use mathlib.Core.Path.{◌∙◌, ap}
use Rattle.vectors.proofs.encoded.exports_words.Goals as goal

pub returns : goal.returns
unfolding exports_words
returns c =
    let words = c.list.new.into in
    let len = c.number-length in
    let size = c.number-size in
    let reader = size.new.self in
    let lent = c.lent-n.ensures in
    let call = c.export_widened-answer in
    ap (λ b. verified_of b words)
    (c.exports.ensures
    ∙ ap (λ encoded. exported_as reader.line.now reader.at (exported_of call.result encoded)) (lent_again 0 size.result list_most _ lent call.new.encoded call.auto.encoded).2
    ∙ ap (exported_as reader.line.now reader.at) (call.ensures ∙ ap (export words len.result) (junk_lent 0 size.result _ lent)))
    ∙ rw (size.ensures.next, size.ensures.value, len.ensures.next, len.ensures.value, c.list.ensures.next, c.list.ensures.words)
