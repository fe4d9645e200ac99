-- The contraction of a planned redex in place: the room that it asks for, and what it leaves.
use Rattle.std.specs.Prelude.{ℕ, ◌*◌, ◌≤◌, ◌≡◌, List, ◌++◌, length, drop}
use Rattle.std.proofs.lemmas.List.Edits.{sets}
use Rattle.calculus.specs.Words.{workspace_most, words, size}
use Rattle.redex.specs.declared.Redex.{Redex}
use Rattle.redex.specs.Next.{next}
use Rattle.redex.specs.Plan.{contractum, Plans}

-- The scratch has room for these words, and the room for the scopes of a walk.
pub record Fits (put scratch room : List ℕ) : Type 0 where
  pub scratch_fits : length put ≤ length scratch
  pub room_fits : workspace_most ≤ 2 * length room

-- The next term fits the workspace and the scratch, and the scopes of a walk fit the room.
pub record HasRoom (ws : List ℕ) (n : ℕ) (r : Redex) (scratch room : List ℕ) : Type 0 where
  pub plan : Plans ws n r
  pub fits : r.length ≤ length ws
  pub scratch_fits : r.length ≤ length scratch
  pub room_fits : workspace_most ≤ 2 * length room

-- After the contraction: the answer m is the next term's length, the workspace ws' holds the next term and after it its old words, and the scratch
-- holds at its start the words that were put from the redex on.
pub record Contracted (ws : List ℕ) (n : ℕ) (r : Redex) (scratch : List ℕ) (m : ℕ) (ws' scratch' : List ℕ) : Type 0 where
  pub returned : m ≡ size (next ws n r.at)
  pub workspace : ws' ≡ words (next ws n r.at) ++ drop (size (next ws n r.at)) ws
  pub written : scratch' ≡ sets scratch 0 (contractum ws r)
