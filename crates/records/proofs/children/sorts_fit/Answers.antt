-- `sorts_fit` meets its contract: each return knows the tests before it.
use Rattle.std.proofs.Common.{arith}
use Rattle.std.proofs.lemmas.Grind.{common_steps}
use Rattle.records.proofs.Walks.{walk_inside, walked}
use native.Mathlib.Nat.{pos_of_ne-zero}
use Rattle.records.proofs.children.sorts_fit.Goals as goal

pub at-subject-requires : goal.at-subject-requires
at-subject-requires c = walk_inside _ _ c.requires

pub chain_fits-requires-then-not-is_branch : goal.chain_fits-requires-then-not-is_branch
chain_fits-requires-then-not-is_branch c = (walked _ _ _ c.requires (pos_of_ne-zero c.if-link-eq0.false) c.at-subject.ensures).after

pub returns-then-not-is_branch : goal.returns-then-not-is_branch
returns-then-not-is_branch c =
    let here = walked _ _ _ c.requires (pos_of_ne-zero c.if-link-eq0.false) c.at-subject.ensures in
    rw here.goes_on (grind (arith, common_steps))

pub returns-else-not-is_branch : goal.returns-else-not-is_branch
returns-else-not-is_branch c =
    let here = walked _ _ _ c.requires (pos_of_ne-zero c.if-link-eq0.false) c.at-subject.ensures in
    rw here.goes_on (grind (arith, common_steps))
