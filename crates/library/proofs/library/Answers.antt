-- `library` meets its contract by the test over the table, which is computed.
use Rattle.calculus.specs.Decide.{both₃, is_tag?, starts_above?, rising?, everywhere?, tagged?, accepted?}
use Rattle.calculus.specs.Equality.{tree, from_trees, equal?}
use Rattle.calculus.specs.Read.{take_term, take_terms, take_branches, read_lam, read_app, read_con, read_case, read_branch, item, items, one_term, read}
use Rattle.library.proofs.EntryLaws.{closed?, tested, entries_tested}
use mathlib.Core.Logic.Dec
use mathlib.Core.Option.{bind}
use mathlib.Core.Path.{refl}
use native.Mathlib.Decide.{ℕ_discrete, dec_le, dec_lt}
use Rattle.library.proofs.library.Goals as goal

pub returns : goal.returns
unfolding tested closed? read items item take_term take_terms take_branches read_lam read_app read_con read_case read_branch one_term accepted? everywhere? tagged? both₃ is_tag? starts_above? rising? Dec.and dec_le dec_lt bind tree from_trees equal? ℕ_discrete
returns c = entries_tested _ refl
