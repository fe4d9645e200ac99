-- `exports_back` meets its contract.
use Rattle.encoding.specs.Export.{export}
use Rattle.vector_text.proofs.ListLaws.{lent_again}
use Rattle.vector_text.specs.Compared.{are_words}
use Rattle.vector_text.specs.Lists.{list_most}
use Rattle.vectors.proofs.EncodedLaws.{junk_lent}
use Rattle.vectors.specs.Encoded.{is_encoding, exports_back}
use Rattle.vectors.specs.Pair.{junk}
use lib.ListN.{length}
use mathlib.Core.Bool.{◌&&◌}
use mathlib.Core.Path.{◌∙◌, ap, ap₂}
use Rattle.vectors.proofs.encoded.exports_back.Goals as goal

pub returns : goal.returns
unfolding exports_back
returns c =
    let start = c.args in
    let bytes = start.bytes.now in
    let lent = c.lent-n.ensures in
    let call = c.export_widened-answer in
    let size = length bytes in
    ap₂ ◌&&◌ c.returns_count.ensures
    (c.holds.ensures
    ∙ ap (λ encoded. are_words encoded bytes size junk) (lent_again 0 size list_most _ lent call.new.encoded call.auto.encoded).2)
    ∙ ap (is_encoding start.count bytes) (call.ensures ∙ ap (export start.workspace.now start.len) (junk_lent 0 size _ lent))
