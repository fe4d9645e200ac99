-- The table of ends that a search keeps in its scratch: at a position of the table stands where the item of the workspace ends that starts there.
use Rattle.std.specs.Prelude.{ℕ, ◌+◌, ◌≤◌, ◌<◌, ◌≡◌, List, length, get_or, take, drop}
use Rattle.calculus.specs.Skip.{span}

-- The table tells the ends of the items that start from `from` on and before `known`.
pub record Ends (ws : List ℕ) (from known : ℕ) (ends : List ℕ) : Type 0 where
  pub within : known ≤ length ends
  pub told : (p : ℕ) → from ≤ p → p < known → get_or ends p 0 ≡ p + span 1 (drop p ws)

-- The table ends' tells the ends of all items inside the one at `at`, which ends at `end`, and is elsewhere as it was.
pub record Filled (ws : List ℕ) (at : ℕ) (ends : List ℕ) (end : ℕ) (ends' : List ℕ) : Type 0 where
  pub returned : end ≡ at + span 1 (drop at ws)
  pub table : Ends ws at end ends'
  pub before : take at ends' ≡ take at ends
  pub behind : drop end ends' ≡ drop end ends
