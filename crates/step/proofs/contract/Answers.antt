-- `contract` meets its contract: the contractum waits in the scratch while the words behind the redex move.
use Rattle.step.proofs.ContractLaws.{puttable, contractum_fits, tail_fits, back_fits, contracted}
use native.Mathlib.Omega.{arith}
use Rattle.step.proofs.contract.Goals as goal

pub put_contractum-put-requires : goal.put_contractum-put-requires
put_contractum-put-requires c = (puttable c.requires, contractum_fits c.requires)

pub overflow_add-at : goal.overflow_add-at
overflow_add-at c = omega (arith, (tail_fits c.requires c.put_contractum-put.ensures.placed).fits, c.requires.plan.redex.holds.limit)

pub move_words-requires : goal.move_words-requires
move_words-requires c = tail_fits c.requires c.put_contractum-put.ensures.placed

pub copy-requires : goal.copy-requires
copy-requires c = back_fits c.requires c.put_contractum-put.ensures.placed c.move_words.ensures

pub returns-clause-contracted : goal.returns-clause-contracted
returns-clause-contracted c = contracted c.requires c.put_contractum-put.ensures.placed c.move_words.ensures c.copy.ensures
