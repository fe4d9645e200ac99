-- `chain_fits` meets its contract: it asks of each record whether it may stand before those after it.
use Rattle.std.proofs.Common.{rules, ◌∙◌}
use Rattle.std.proofs.lemmas.Iterator.Search.{all_from_yields_List}
use Rattle.records.proofs.Chains.{passed, nexts_callable, all_stand}
use Rattle.records.specs.Types.{stored_of, viewed_of}
use Rattle.storage.specs.Children.{chain_from, may_stand}
use Rattle.records.proofs.children.chain_fits.Goals as goal

pub all-requires-clause-callable : goal.all-requires-clause-callable
all-requires-clause-callable c = nexts_callable _ (λ x q k. search rules) (λ x w. search rules)

pub returns : goal.returns
returns c =
    let T = viewed_of c.args.table.now in
    all_from_yields_List (λ r. may_stand c.args.branches r (chain_from T r.next)) _ _ c.all.result c.all.ensures.ran (passed c.chain.ensures.table c.chain.ensures.link) (λ x b q k. search rules)
    ∙ all_stand (stored_of c.args.table.now) c.args.branches c.args.link c.requires
