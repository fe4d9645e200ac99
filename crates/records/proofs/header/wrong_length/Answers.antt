-- `wrong_length` meets its contract: each return knows the tests before it.
use Rattle.std.proofs.Common.{arith}
use Rattle.std.proofs.lemmas.Grind.{common_steps}
use Rattle.storage.specs.Header.{wrong_length}
use Rattle.records.proofs.header.wrong_length.Goals as goal

pub returns-then-table-words : goal.returns-then-table-words
unfolding wrong_length
returns-then-table-words c = grind (arith, common_steps)

pub returns-then-n-gt-WORKSPACE_MOST : goal.returns-then-n-gt-WORKSPACE_MOST
unfolding wrong_length
returns-then-n-gt-WORKSPACE_MOST c = grind (arith, common_steps)

pub returns-else-n-gt-WORKSPACE_MOST : goal.returns-else-n-gt-WORKSPACE_MOST
unfolding wrong_length
returns-else-n-gt-WORKSPACE_MOST c = grind (arith, common_steps)
