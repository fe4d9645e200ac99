-- `are_bytes` meets its contract.
use Rattle.text.proofs.ByteLaws.{all_bytes}
use Rattle.std.proofs.Common.{rules}
use Rattle.std.proofs.lemmas.Iterator.{YieldsList-from_slice}
use Rattle.std.proofs.lemmas.Iterator.Search.{all_from_yields_List}
use Rattle.text.specs.Bytes.{byte_base}
use lib.Dec.{ltb}
use mathlib.Core.Path.{◌∙◌}
use Rattle.text.proofs.bytes.are_bytes.Goals as goal

pub returns : goal.returns
returns c =
    all_from_yields_List (λ w. ltb w byte_base) _ _ _ c.all.ensures.ran (YieldsList-from_slice c.args.words.now cc) (λ x b q k. search rules) ∙ all_bytes c.args.words.now
