-- Loading ("The stored table", "Numbers for refused calls"), as a function of everything at entry to everything at exit.
use Rattle.std.specs.Prelude.{ℕ, Bool, List, [], ◌∷◌, length}
use Rattle.calculus.specs.Workspace.{wrong_workspace}
use Rattle.calculus.specs.Refusal.{Refusal, WrongLength, WrongHeader, WrongValue, WrongLink, WrongChildren, WrongFree, WrongWorkspace, TooLong}
use Rattle.calculus.specs.Bringing.{Brought, bring}
use Rattle.storage.specs.Records.{Table, Stored, view, in_form1}
use Rattle.storage.specs.Meaning.{meaning}
use Rattle.storage.specs.Header.{wrong_length, wrong_header, too_long}
use Rattle.storage.specs.Values.{wrong_value}
use Rattle.storage.specs.Links.{wrong_link}
use Rattle.storage.specs.Children.{wrong_children}
use Rattle.storage.specs.FreeNumbers.{wrong_free}

-- The refusals of a table in the order in which they are checked, 1, 2, 8, 3, 4, 5, 6, each with whether it is met. The last four are about the
-- records; refusal 8 is by the number of words that there is room for.
abbrev pub record_checks : Table → List (Refusal × Bool)
record_checks T =
    (WrongValue, wrong_value T)
    ∷ (WrongLink, wrong_link T)
    ∷ (WrongChildren, wrong_children T)
    ∷ (WrongFree, wrong_free T)
    ∷ []

abbrev pub table_checks : Stored → (C : ℕ) → List (Refusal × Bool)
table_checks S C =
    (WrongLength, wrong_length S)
    ∷ (WrongHeader, wrong_header S)
    ∷ (TooLong, too_long (view S) C)
    ∷ record_checks (view S)

-- Loading asks for the length C of the workspace before.
abbrev pub checks : Stored → (C : ℕ) → List (Refusal × Bool)
checks S C = (WrongWorkspace, wrong_workspace C) ∷ table_checks S C

unfoldable pub load_stored : Stored → (workspace : List ℕ) → Brought
load_stored S workspace = bring (checks S (length workspace)) (meaning (view S)) workspace

-- Every table is taken as one of form 1.
abbrev pub load : (table workspace : List ℕ) → Brought
load table workspace = load_stored (in_form1 table) workspace
