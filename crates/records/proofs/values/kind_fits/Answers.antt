-- `kind_fits` meets its contract: in each arm the kind is known, and `value_fits` computes there.
use Rattle.std.proofs.Common.{arith}
use Rattle.std.proofs.lemmas.Grind.{common_steps}
use Rattle.storage.specs.Values.{value_fits}
use Rattle.records.proofs.values.kind_fits.Goals as goal

pub returns-in-Constructor : goal.returns-in-Constructor
unfolding value_fits
returns-in-Constructor c = grind (arith, common_steps)

pub returns-in-Case : goal.returns-in-Case
unfolding value_fits
returns-in-Case c = grind (arith, common_steps)

pub returns-in_default : goal.returns-in_default
unfolding value_fits
returns-in_default c = grind (arith, common_steps)
