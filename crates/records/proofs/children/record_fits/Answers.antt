-- `record_fits` meets its contract: the chain that it tests is that of the record's children.
use Rattle.std.proofs.Common.{arith}
use Rattle.std.proofs.lemmas.Grind.{common_steps}
use Rattle.records.proofs.Walks.{walk_inside, walked}
use Rattle.storage.proofs.RecordLaws.{parts}
use Rattle.storage.specs.Children.{children_fit}
use mathlib.Core.Path.{ap}
use Rattle.records.proofs.children.record_fits.Goals as goal

pub at-record-requires : goal.at-record-requires
at-record-requires c = walk_inside _ _ c.requires.0

pub chain_length-number-requires : goal.chain_length-number-requires
chain_length-number-requires c = (walked _ _ _ c.requires.0 c.requires.1 c.at-record.ensures).below

pub sorts_fit-requires : goal.sorts_fit-requires
sorts_fit-requires c = (walked _ _ _ c.requires.0 c.requires.1 c.at-record.ensures).below

pub returns-then-number_fits : goal.returns-then-number_fits
unfolding children_fit
returns-then-number_fits c =
    let r = parts c.at-record.ensures in
    rw (← r.first, ← c.chain_length-number.ensures, ← ap (λ x. x.declared) c.at-record.ensures, ← r.kind, ← c.sorts_fit.ensures) (grind (arith, common_steps))

pub returns-else-number_fits : goal.returns-else-number_fits
unfolding children_fit
returns-else-number_fits c =
    let r = parts c.at-record.ensures in
    rw (← r.first, ← c.chain_length-number.ensures, ← ap (λ x. x.declared) c.at-record.ensures, ← r.kind) (grind (arith, common_steps))
