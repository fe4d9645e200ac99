-- The walk goes on at the next of the record that it gives.
use Rattle.std.proofs.Common.{refl, ap, arith, length}
use Rattle.records.proofs.Walks.{walk_inside, walked}
use native.Mathlib.Nat.{pos_of_ne-zero}
use Rattle.records.proofs.chain.ChainIterator.next.Goals as goal

pub at-record-requires : goal.at-record-requires
at-record-requires c = walk_inside _ _ c.requires

pub returns-clause-steps : goal.returns-clause-steps
returns-clause-steps c =
    let on = walked _ _ _ c.requires (pos_of_ne-zero c.if-self-eq0.false) c.at-record.ensures in
    (on.goes_on, refl, on.after)

pub returns-clause-goes : goal.returns-clause-goes
returns-clause-goes c =
    let on = walked _ _ _ c.requires (pos_of_ne-zero c.if-self-eq0.false) c.at-record.ensures in
    record { on = λ _. (on.after, tt, omega (arith, ap length on.goes_on)); keeps = on.after; rests = λ _. tt }
