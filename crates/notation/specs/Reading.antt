-- Reading a line into a workspace ("Lines", "Numbers for refused calls"), as a function of everything at entry to everything at exit.
use Rattle.std.specs.Prelude.{ℕ, Bool, not, ◌&&◌, ◌||◌, List, [], ◌∷◌, leb, length}
use Rattle.calculus.specs.Workspace.{wrong_workspace}
use Rattle.calculus.specs.Refusal.{Refusal, WrongFree, WrongWorkspace, TooLong, WrongLine}
use Rattle.calculus.specs.Bringing.{Brought, bring, is_none, free_above, longer_than}
use Rattle.notation.specs.Grammar.{line_least, line_most}
use Rattle.notation.specs.Reader.{line_term}

-- A line has "1 to 1,024 bytes ..".
abbrev pub line_fits : (line : List ℕ) → Bool
line_fits line = leb line_least (length line) && leb (length line) line_most

-- Refusal 11: a line outside the grammar or its length.
abbrev pub wrong_line : (line : List ℕ) → Bool
wrong_line line = not (line_fits line) || is_none (line_term line)

-- The refusals in the order in which reading checks them, 7, 11, 6, 8, each with whether it is met, by the line and the length C of the workspace.
abbrev pub line_checks : (line : List ℕ) (C : ℕ) → List (Refusal × Bool)
line_checks line C =
    (WrongWorkspace, wrong_workspace C)
    ∷ (WrongLine, wrong_line line)
    ∷ (WrongFree, free_above (line_term line))
    ∷ (TooLong, longer_than C (line_term line))
    ∷ []

unfoldable pub read_line : (line workspace : List ℕ) → Brought
read_line line workspace = bring (line_checks line (length workspace)) (line_term line) workspace
