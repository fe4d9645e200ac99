-- What comparing two terms needs: the words that are known to be the same need not be looked at again.
use Rattle.std.specs.Prelude.{ℕ, ◌≤◌, ◌≡◌, List, length, take}

-- The first k words of both lists are the same.
pub record Agrees (k : ℕ) (ws vs : List ℕ) : Type 0 where
  pub left_has : k ≤ length ws
  pub right_has : k ≤ length vs
  pub same : take k ws ≡ take k vs
