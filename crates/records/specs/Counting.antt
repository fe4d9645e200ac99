-- How links are counted, for refusal 4 ("Numbers for refused calls"): in one pass over the records.
use Rattle.std.specs.Prelude.{ℕ, zero, suc, ◌+◌, ◌≤◌, ◌<◌, ◌≡◌, true, false, List, length, get_or, set}
use Rattle.calculus.specs.Words.{workspace_most}
use Rattle.storage.specs.Records.{Table, Stored, view, everyOf}
use Rattle.storage.specs.Header.{wrong_length}
use Rattle.storage.specs.Links.{links_fit}

-- In a list that has a count for each index: one more where a link leads, 0 for the ends of chains, and the links of the
-- first i records one after the other.
abbrev pub more : (link : ℕ) (counts : List ℕ) → List ℕ
more l counts = set counts l (get_or counts l 0 + 1)

unfoldable pub counted : Table → (i : ℕ) (counts : List ℕ) → List ℕ
counted T zero counts = counts
counted T (suc i) counts = more (T.at (suc i)).next (more (T.at (suc i)).first (counted T i counts))

-- As many counts as indices: one for each record that a table may have, and one for 0.
abbrev pub room_most : ℕ
room_most = suc workspace_most

-- The links of a table that has passed refusal 1 can be counted on, where each fits and has been counted once at most.
pub record Countable (S : Stored) (counts : List ℕ) : Type 0 where
  pub length_fits : wrong_length S ≡ false
  pub links-fit : everyOf (view S).n (links_fit (view S)) ≡ true
  pub room : (view S).n < length counts
  pub few : (j : ℕ) → get_or counts j 0 ≤ 1
