-- `put_chain` meets its contract: what is still to be put is the rest of the table.
use Rattle.vectors.proofs.StoredLaws.{chain_start, chain-put, chain-end}
use Rattle.std.proofs.Common.{arith}
use mathlib.Core.Path.{sym, ◌∙◌}
use Rattle.vectors.proofs.stored.put_chain.Goals as goal

pub loop-i-init : goal.loop-i-init
loop-i-init c = chain_start _ _ c.args.table.now

pub loop-i-preserved : goal.loop-i-preserved
loop-i-preserved c =
    sym (chain-put _ _ c.loop-i.table c.loop-i.i c.chain_word.result (omega arith) c.chain_word.ensures) ∙ c.loop-i.invariant

pub returns : goal.returns
returns c = sym (chain-end _ _ c.loop-i.table c.loop-i.i (omega arith)) ∙ c.loop-i.invariant
