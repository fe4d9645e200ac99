-- What is owed about lines: each statement is a type with a name, and its proof in proofs/ has that type.
use Rattle.std.specs.Prelude.{ℕ, ◌-◌, ◌≤◌, ◌<◌, ◌≡◌, true, false, List, ◌++◌, ◌↔◌, ◌⊎◌, length, replicate}
use Rattle.std.proofs.Math.Option.{some}
use Rattle.calculus.specs.Term.{Term}
use Rattle.calculus.specs.Words.{words, size}
use Rattle.calculus.specs.Everywhere.{Asked, anywhere, pure_terms, Everywhere}
use Rattle.calculus.specs.Accepted.{index_limit, Scoped, Accepted}
use Rattle.calculus.specs.Workspace.{wrong_workspace}
use Rattle.calculus.specs.Refusal.{WrongFree, WrongWorkspace, TooLong, WrongLine}
use Rattle.calculus.specs.Theorems.{unchanged}
use Rattle.calculus.specs.Bringing.{refused, returned}
use Rattle.notation.specs.Grammar.{Line, line_least, line_most}
use Rattle.notation.specs.Reader.{line_term}
use Rattle.notation.specs.Reading.{read_line}

-- The grammar gives a line one term at most.
abbrev pub GrammarUnambiguous : Type 0
GrammarUnambiguous = (line : List ℕ) (t u : Term) → Line line t → Line line u → t ≡ u

-- What is found of a line is what the grammar gives.
abbrev pub LineExact : Type 0
LineExact = (line : List ℕ) (t : Term) → (line_term line ≡ some t) ↔ Line line t

-- Only variables, abstractions and applications, and no index above 32,767.
abbrev pub expressible : Asked (Unit {0})
expressible = pure_terms anywhere (λ d i. i ≤ index_limit)

abbrev pub Expressible : Term → Type 0
Expressible t = Everywhere expressible tt t

-- Exactly these terms have a line, if its length has no limit.
abbrev pub ExpressibleExact : Type 0
ExpressibleExact = (t : Term) → ((line : List ℕ) × Line line t) ↔ Expressible t

-- Past refusal 7, and with a line of 1 to 1,024 bytes.
pub record LengthsFit (line workspace : List ℕ) : Type 0 where
  pub workspace_fits : wrong_workspace (length workspace) ≡ false
  pub least : line_least ≤ length line
  pub most : length line ≤ line_most

-- What reading does, by the grammar alone: 7 first, then 11 exactly where the grammar gives no term or the length is wrong, then 6, then 8, and nothing
-- is changed; otherwise the term that the grammar gives is left, which is accepted.
pub record ReadsExactly (line workspace : List ℕ) : Type 0 where
  pub wrong-workspace : wrong_workspace (length workspace) ≡ true → read_line line workspace ≡ unchanged workspace WrongWorkspace
  pub wrong-length : wrong_workspace (length workspace) ≡ false → (length line < line_least) ⊎ (line_most < length line)
      → read_line line workspace ≡ unchanged workspace WrongLine
  pub escapes : LengthsFit line workspace
      → ((read_line line workspace).answer ≡ refused WrongLine → ⊥) ↔ ((t : Term) × Line line t)
  pub outside : LengthsFit line workspace → ((t : Term) → Line line t → ⊥) → read_line line workspace ≡ unchanged workspace WrongLine
  pub wrong-free : LengthsFit line workspace → (t : Term) → Line line t → (Scoped 0 t → ⊥) → read_line line workspace ≡ unchanged workspace WrongFree
  pub too_long : LengthsFit line workspace → (t : Term) → Line line t → Scoped 0 t → length workspace < size t
      → read_line line workspace ≡ unchanged workspace TooLong
  pub leaves : LengthsFit line workspace → (t : Term) → Line line t → Scoped 0 t → size t ≤ length workspace
      → Accepted 0 t
      × (read_line line workspace ≡ record { answer = returned (size t); workspace = words t ++ replicate (length workspace - size t) 0 })

abbrev pub ReadingExact : Type 0
ReadingExact = (line workspace : List ℕ) → ReadsExactly line workspace
