-- Workspaces ("A press", "Numbers for refused calls"): which lengths they may have, which term the first words of one are, and a workspace that
-- holds a term with zeros after it.
use Rattle.std.specs.Prelude.{ℕ, ◌-◌, Bool, true, not, cond, ◌&&◌, List, [], ◌∷◌, ◌++◌, leb, eqb, length, take, replicate}
use Rattle.std.proofs.Math.Option.{Option, none}
use Rattle.calculus.specs.Term.{Term}
use Rattle.calculus.specs.Words.{workspace_least, workspace_most}
use Rattle.calculus.specs.Read.{read}

-- The lengths of the workspaces and the scratch that a call is lent: each is 16 to 2,048, and they are equal. Otherwise refusal 7.
abbrev pub equal_to : ℕ → List ℕ → Bool
equal_to C [] = true
equal_to C (n ∷ ns) = eqb n C && equal_to C ns

abbrev pub sized : List ℕ → Bool
sized [] = true
sized (C ∷ ns) = leb workspace_least C && (leb C workspace_most && equal_to C ns)

-- Refusal 7 where one workspace is lent.
abbrev pub wrong_workspace : (C : ℕ) → Bool
wrong_workspace C = not (sized (C ∷ []))

-- The whole term that the first n words of a workspace are; none is refusal 10. No term has 0 words.
unfoldable pub term_at : List ℕ → ℕ → Option Term
term_at ws n = cond (leb n (length ws)) (read (take n ws)) none

-- Words, and zeros after them to the end of a workspace of C words.
abbrev pub padded : ℕ → List ℕ → List ℕ
padded C ws = ws ++ replicate (C - length ws) 0
