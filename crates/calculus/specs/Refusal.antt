-- The refusals of the unit's calls and their numbers ("Numbers for refused calls").
use Rattle.std.specs.Prelude.{ℕ}

-- Each is named by what is wrong: of a table its length, its header, a value, a link or the children of a record; a free number of a term; the lengths
-- of workspaces and scratch; a term too long for its workspace; the budget, alone or with the total; words that are no whole term; a line outside the
-- grammar or its length; bits that are no term's; a term that is not closed or has other words than those of variables, abstractions and applications.
pub data Refusal : Type 0 where
  WrongLength WrongHeader WrongValue WrongLink WrongChildren WrongFree WrongWorkspace TooLong OverBudget NoTerm WrongLine WrongBits NoCombinator : Refusal

abbrev pub number : Refusal → ℕ
number WrongLength = 1
number WrongHeader = 2
number WrongValue = 3
number WrongLink = 4
number WrongChildren = 5
number WrongFree = 6
number WrongWorkspace = 7
number TooLong = 8
number OverBudget = 9
number NoTerm = 10
number WrongLine = 11
number WrongBits = 12
number NoCombinator = 13
