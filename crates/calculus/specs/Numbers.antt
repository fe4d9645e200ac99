-- The numbers of the rules ("Terms and words", "Numbers for refused calls"), each beside its name.
use Rattle.std.specs.Prelude.{◌≡◌, [], ◌∷◌, map}
use Rattle.calculus.specs.Words.{variable_kind, abstraction_kind, application_kind, constructor_kind, case_kind, branch_kind, numeral_kind, kind_base, count_base, workspace_least, workspace_most, library_words}
use Rattle.calculus.specs.Accepted.{tag_limit, argument_limit, branch_limit, free_limit, numeral_limit, index_limit}
use Rattle.calculus.specs.Refusal.{WrongLength, WrongHeader, WrongValue, WrongLink, WrongChildren, WrongFree, WrongWorkspace, TooLong, OverBudget, NoTerm, WrongLine, WrongBits, NoCombinator, number}
use Rattle.calculus.specs.Rounds.{Same, Different, Budget, Full, verdict_number}

pub record Numbers : Type 0 where
  pub kinds :
      variable_kind ∷ abstraction_kind ∷ application_kind ∷ constructor_kind ∷ case_kind ∷ branch_kind ∷ numeral_kind ∷ []
      ≡ 0 ∷ 1 ∷ 2 ∷ 3 ∷ 4 ∷ 5 ∷ 6 ∷ []
  pub bases : kind_base ∷ count_base ∷ [] ≡ 8 ∷ 16 ∷ []
  pub workspaces : workspace_least ∷ workspace_most ∷ library_words ∷ [] ≡ 16 ∷ 2048 ∷ 1088 ∷ []
  pub limits :
      tag_limit ∷ argument_limit ∷ branch_limit ∷ free_limit ∷ numeral_limit ∷ index_limit ∷ []
      ≡ 255 ∷ 15 ∷ 15 ∷ 255 ∷ 31 ∷ 32767 ∷ []
  pub refusals :
      map number
      (WrongLength
      ∷ WrongHeader
      ∷ WrongValue
      ∷ WrongLink
      ∷ WrongChildren
      ∷ WrongFree
      ∷ WrongWorkspace
      ∷ TooLong
      ∷ OverBudget
      ∷ NoTerm
      ∷ WrongLine
      ∷ WrongBits
      ∷ NoCombinator
      ∷ [])
      ≡ 1 ∷ 2 ∷ 3 ∷ 4 ∷ 5 ∷ 6 ∷ 7 ∷ 8 ∷ 9 ∷ 10 ∷ 11 ∷ 12 ∷ 13 ∷ []
  pub verdicts : map verdict_number (Same ∷ Different ∷ Budget ∷ Full ∷ []) ≡ 0 ∷ 1 ∷ 2 ∷ 3 ∷ []
