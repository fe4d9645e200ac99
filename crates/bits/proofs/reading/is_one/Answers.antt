-- `is_one` meets its contract.
use Rattle.bits.proofs.WindowLaws.{bit_at}
use Rattle.bits.proofs.reading.is_one.Goals as goal

pub returns : goal.returns
returns c = rw c.from.ensures (bit_at c.args.at c.args.bytes.now c.requires)
