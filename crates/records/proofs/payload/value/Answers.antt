-- `value` meets its contract: in each arm the kind is known, and `value_of` computes there.
use Rattle.std.proofs.Common.{arith}
use Rattle.std.proofs.lemmas.Grind.{common_steps}
use Rattle.storage.specs.Payload.{value_of}
use Rattle.records.proofs.payload.value.Goals as goal

pub returns-in-Constructor : goal.returns-in-Constructor
unfolding value_of
returns-in-Constructor c = grind (arith, common_steps)

pub returns-in-Case : goal.returns-in-Case
unfolding value_of
returns-in-Case c = grind (arith, common_steps)

pub returns-in_default : goal.returns-in_default
unfolding value_of
returns-in_default c = grind (arith, common_steps)
