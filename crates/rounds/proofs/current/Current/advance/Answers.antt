-- `advance` meets its contract, by the plan.
use Rattle.rounds.proofs.RunCode.{advance_normal, advance-room, advance-contracted}
use Rattle.rounds.proofs.current.Current.advance.Goals as goal

pub contract-requires : goal.contract-requires
contract-requires c = advance-room c.requires c.in-Some.is

pub returns-in-None-clause-advanced : goal.returns-in-None-clause-advanced
returns-in-None-clause-advanced c = advance_normal c.requires c.in-None.is

pub returns-in-Some-clause-advanced : goal.returns-in-Some-clause-advanced
returns-in-Some-clause-advanced c =
    advance-contracted c.requires c.in-Some.is c.contract.ensures.contracted c.before-in-Some.ensures
