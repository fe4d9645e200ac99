-- What the code's types stand for.
use Rattle.std.specs.Prelude.{ℕ, ◌-◌, ◌≡◌, List, [], ◌∷◌, map, cond, eqb, Ok, Err}
use Rattle.std.specs.Prelude as code_result
use Rattle.calculus.specs.Words.{variable_kind, abstraction_kind, application_kind, constructor_kind, case_kind, branch_kind, numeral_kind, kind_base}
use Rattle.calculus.specs.Refusal.{Refusal, WrongLength, WrongHeader, WrongValue, WrongLink, WrongChildren, WrongFree, WrongWorkspace, TooLong, OverBudget, NoTerm, WrongLine, WrongBits, NoCombinator, number}
use Rattle.calculus.specs.Bringing.{Result, refused, returned, Brought}
use Rattle.words.specs.declared.kind.Kind as codeKind
use Rattle.words.specs.declared.kind.Kind.TheVariants as kind
use Rattle.words.specs.declared.refusal.Refusal as code
use Rattle.words.specs.declared.refusal.Refusal.TheVariants as refusal

-- The number of a kind, and 7, the one number below the base that is left, for no kind.
abbrev pub kind_number : codeKind.Kind → ℕ
kind_number kind.Application = application_kind
kind_number kind.Abstraction = abstraction_kind
kind_number kind.Variable = variable_kind
kind_number kind.Constructor = constructor_kind
kind_number kind.Case = case_kind
kind_number kind.Branch = branch_kind
kind_number kind.Numeral = numeral_kind
kind_number kind.Unassigned = kind_base - 1

-- The kind of a number, and no kind for one that is no kind's.
abbrev pub kind_for : ℕ → codeKind.Kind
kind_for n =
    cond (eqb n variable_kind) kind.Variable
    (cond (eqb n abstraction_kind) kind.Abstraction
    (cond (eqb n application_kind) kind.Application
    (cond (eqb n constructor_kind) kind.Constructor
    (cond (eqb n case_kind) kind.Case
    (cond (eqb n branch_kind) kind.Branch
    (cond (eqb n numeral_kind) kind.Numeral kind.Unassigned))))))

abbrev pub refusal_of : code.Refusal → Refusal
refusal_of refusal.WrongLength = WrongLength
refusal_of refusal.WrongHeader = WrongHeader
refusal_of refusal.WrongValue = WrongValue
refusal_of refusal.WrongLink = WrongLink
refusal_of refusal.WrongChildren = WrongChildren
refusal_of refusal.WrongFree = WrongFree
refusal_of refusal.WrongWorkspace = WrongWorkspace
refusal_of refusal.TooLong = TooLong
refusal_of refusal.OverBudget = OverBudget
refusal_of refusal.NoTerm = NoTerm
refusal_of refusal.WrongLine = WrongLine
refusal_of refusal.WrongBits = WrongBits
refusal_of refusal.NoCombinator = NoCombinator

-- A refusal, or the length of the term or the number of records.
abbrev pub result_of : code_result.Result ℕ code.Refusal → Result
result_of (Err why) = refused (refusal_of why)
result_of (Ok l) = returned l

-- Everything at exit of bringing a term in: the answer and the lent workspace.
abbrev pub brought_of : code_result.Result ℕ code.Refusal → (workspace : List ℕ) → Brought
brought_of a workspace = record { answer = result_of a; workspace = workspace }

-- Every case by its number: refusals and kinds in the order of the rules; every answer, and what bringing a term in leaves field by field.
pub record RefusalCases : Type 0 where
  pub refusals :
      map (λ why. number (refusal_of why))
      (refusal.WrongLength
      ∷ refusal.WrongHeader
      ∷ refusal.WrongValue
      ∷ refusal.WrongLink
      ∷ refusal.WrongChildren
      ∷ refusal.WrongFree
      ∷ refusal.WrongWorkspace
      ∷ refusal.TooLong
      ∷ refusal.OverBudget
      ∷ refusal.NoTerm
      ∷ refusal.WrongLine
      ∷ refusal.WrongBits
      ∷ refusal.NoCombinator
      ∷ [])
      ≡ 1 ∷ 2 ∷ 3 ∷ 4 ∷ 5 ∷ 6 ∷ 7 ∷ 8 ∷ 9 ∷ 10 ∷ 11 ∷ 12 ∷ 13 ∷ []
  pub kinds :
      map kind_number
      (kind.Variable
      ∷ kind.Abstraction
      ∷ kind.Application
      ∷ kind.Constructor
      ∷ kind.Case
      ∷ kind.Branch
      ∷ kind.Numeral
      ∷ kind.Unassigned
      ∷ [])
      ≡ 0 ∷ 1 ∷ 2 ∷ 3 ∷ 4 ∷ 5 ∷ 6 ∷ 7 ∷ []
  pub a_refusal : (why : code.Refusal) → result_of (Err why) ≡ refused (refusal_of why)
  pub a_length : (l : ℕ) → result_of (Ok l) ≡ returned l
  pub brought : (a : code_result.Result ℕ code.Refusal) (workspace : List ℕ) → brought_of a workspace ≡ record { answer = result_of a; workspace = workspace }
