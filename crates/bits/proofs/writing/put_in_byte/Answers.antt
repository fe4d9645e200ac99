-- `put_in_byte` meets its contract.
use Rattle.bits.proofs.PutLaws.{added_least, put_is, put_fits}
use Rattle.bits.proofs.WindowLaws.{AllBytes}
use borrow.Author.Rules.{rules}
use Rattle.bits.proofs.writing.put_in_byte.Goals as goal

pub overflow_sub-ones : goal.overflow_sub-ones
overflow_sub-ones c = added_least c.args.at c.args.count c.requires.at_bound.1

pub overflow_cast-bytes : goal.overflow_cast-bytes
overflow_cast-bytes c =
    let bytes_fit : AllBytes c.args.bytes.now = search rules in
    record { fits = rw c.from.ensures (put_fits c.args.bytes.now c.args.at c.args.count c.requires.at_bound.0 c.requires.at_bound.1 c.requires.rest_zero bytes_fit) }

pub returns : goal.returns
returns c =
    let bytes_fit : AllBytes c.args.bytes.now = search rules in
    rw c.from.ensures (put_is c.args.bytes.now c.args.at c.args.count c.requires.at_bound.0 c.requires.at_bound.1 c.requires.rest_zero bytes_fit)
