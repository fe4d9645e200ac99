-- `wrong_values` meets its contract.
use Rattle.std.proofs.Common.{rules, arith, ap}
use Rattle.std.proofs.lemmas.Iterator.{serves_from_Range}
use Rattle.records.proofs.EveryLaws.{every_called}
use Rattle.records.proofs.RecordLaws.{headed, inside}
use Rattle.records.specs.Types.{viewed_of}
use Rattle.storage.specs.Values.{valued, wrong_value}
use mathlib.Core.Bool.{not}
use Rattle.records.proofs.values.wrong_values.Goals as goal

pub indices-requires : goal.indices-requires
indices-requires c = headed _ c.requires

pub all-requires-clause-callable : goal.all-requires-clause-callable
all-requires-clause-callable c =
    serves_from_Range (λ x q k. search rules)
    (λ i l u. let here = inside _ c.requires i (omega (arith, c.indices.ensures)) in search rules)

pub returns : goal.returns
unfolding wrong_value
returns c =
    ap not (every_called _ c.indices.ensures.from c.indices.ensures.to (λ i. valued ((viewed_of c.args.table.now).at i)) _ _ c.all.result c.all.ensures.ran (λ x b q k. search rules))
