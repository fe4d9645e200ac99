-- What a side's part in a round needs of the lent words, and what it leaves.
use Rattle.std.specs.Prelude.{ℕ, ◌*◌, ◌≤◌, ◌≡◌, List, ◌++◌, length, drop, Option, Some, None}
use Rattle.std.proofs.lemmas.List.Edits.{sets}
use Rattle.calculus.specs.Words.{workspace_most, words, size}
use Rattle.calculus.specs.Rounds.{next}
use Rattle.redex.specs.declared.Redex.{Redex}
use Rattle.redex.specs.Held.{held, Holds}
use Rattle.redex.specs.Plan.{contractum}
use Rattle.search.specs.Search.{Planned}
use Rattle.turn.specs.Turn.{planned}
use Rattle.turn.specs.Resume.{resume_at}

-- The workspace holds a term of so many words, the plan is the one for it, the next term fits the workspace and the scratch, and a walk the room.
pub record Advances (ws : List ℕ) (wordCount : ℕ) (todo : Option Redex) (scratch room : List ℕ) : Type 0 where
  pub holds : Holds ws wordCount
  pub plan : Planned ws wordCount todo
  pub fits : size (next (held ws wordCount)) ≤ length ws
  pub scratch_fits : size (next (held ws wordCount)) ≤ length scratch
  pub room_fits : workspace_most ≤ 2 * length room

-- The scratch after it: what a contraction wrote, over its old words.
abbrev pub scratch_after : Option Redex → (ws scratch : List ℕ) → List ℕ
scratch_after None ws scratch = scratch
scratch_after (Some redex) ws scratch = sets scratch 0 (contractum ws redex)

-- The answer is the next term's length and where the search goes on in it, and the workspace ws' holds the next term and after it its old words.
pub record Advanced (ws : List ℕ) (wordCount : ℕ) (todo : Option Redex) (scratch : List ℕ) (nextSize from : ℕ) (ws' scratch' : List ℕ) : Type 0 where
  pub returned : nextSize ≡ size (next (held ws wordCount))
  pub resumes : from ≡ resume_at nextSize (planned (held ws wordCount))
  pub workspace : ws' ≡ words (next (held ws wordCount)) ++ drop (size (next (held ws wordCount))) ws
  pub written : scratch' ≡ scratch_after todo ws scratch
