-- `past_space` meets its contract.
use Rattle.std.proofs.Common.{arith}
use Rattle.std.proofs.lemmas.Grind.{common_steps}
use Rattle.vector_text.specs.Text.{past_space}
use Rattle.vector_text.proofs.Reader.past_space.Goals as goal
use Rattle.vector_text.proofs.Reader.past_space.Goals.{in_default-via-in-Some+in_default, in_default-via-in_default}

pub returns-in-Some-eq32 : goal.returns-in-Some-eq32
unfolding past_space
returns-in-Some-eq32 c = grind (arith, common_steps)

pub returns-in_default : goal.returns-in_default
unfolding past_space
returns-in_default c = elim c.in_default.branch [ in_default-via-in-Some+in_default w ↦ grind (arith, common_steps) | in_default-via-in_default w ↦ grind (arith, common_steps) ]
