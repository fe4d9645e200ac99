-- `chain_length` meets its contract: a chain has no more records than the table, and the walk gives them all.
use Rattle.std.proofs.Common.{arith, ap, inl, length}
use Rattle.std.proofs.lemmas.Iterator.Consumers.{count_from_yields_List}
use Rattle.records.proofs.Chains.{left_of, passed}
use Rattle.records.proofs.Walks.{walk_short}
use Rattle.storage.proofs.RecordLaws.{sized}
use Rattle.records.proofs.children.chain_length.Goals as goal

pub count-requires-clause-fits : goal.count-requires-clause-fits
count-requires-clause-fits c = inl (omega (arith, ap length (left_of c.chain.ensures.table c.chain.ensures.link), walk_short _ _ c.requires, sized _ c.requires.length_fits))

pub returns : goal.returns
returns c = count_from_yields_List _ c.count.result c.count.ensures.ran (passed c.chain.ensures.table c.chain.ensures.link)
