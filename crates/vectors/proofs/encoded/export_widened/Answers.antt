-- `export_widened` meets its contract.
use Rattle.binary.specs.Types.{exported_of}
use Rattle.encoding.specs.Export.{export}
use Rattle.vector_text.proofs.ListLaws.{lent_words, lent_again}
use Rattle.vector_text.specs.Lists.{list_most}
use Rattle.vectors.proofs.EncodedLaws.{placed_whole}
use Rattle.vectors.specs.Pair.{junk}
use lib.ListN.{length}
use mathlib.Core.Path.{◌∙◌, ap}
use native.Mathlib.Omega.{arith}
use Rattle.vectors.proofs.encoded.export_widened.Goals as goal

pub returns : goal.returns
returns c =
    let start = c.args in
    let lent = c.lent-n.ensures in
    let call = c.export-answer in
    let again = lent_again junk (length start.encoded.now) list_most _ lent call.new.bytes call.auto.bytes in
    ap (exported_of call.result) (placed_whole c.widen.ensures (omega (arith, again.1, c.requires)) ∙ again.2)
    ∙ call.ensures
    ∙ ap (export start.workspace.now start.len) (lent_words junk (length start.encoded.now) list_most _ lent)
