-- `wrong_header` meets its contract: each return knows the tests before it.
use Rattle.std.proofs.Common.{arith}
use Rattle.std.proofs.lemmas.Grind.{common_steps}
use Rattle.records.proofs.RecordLaws.{inside, headed}
use Rattle.storage.specs.Header.{wrong_header}
use Rattle.records.proofs.header.wrong_header.Goals as goal

pub header_fits-requires : goal.header_fits-requires
header_fits-requires c = inside _ c.requires 0 (omega arith)

pub root-requires : goal.root-requires
root-requires c = headed _ c.requires

pub returns-then-root-lt1 : goal.returns-then-root-lt1
unfolding wrong_header
returns-then-root-lt1 c = grind (arith, common_steps)

pub returns-else-root-lt1 : goal.returns-else-root-lt1
unfolding wrong_header
returns-else-root-lt1 c = grind (arith, common_steps)
