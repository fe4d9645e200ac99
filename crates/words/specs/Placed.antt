-- Values put at a position of a lent slice: what a call that writes leaves behind, and when they may be copied.
use Rattle.std.specs.Prelude.{ℕ, ◌+◌, ◌-◌, ◌≤◌, ◌≡◌, List, length}
use Rattle.std.proofs.lemmas.List.Edits.{sets}

-- The values vs stand at position out of a slice, all else there is unchanged, and `end` is the position after them.
pub record Placed {X : Type 0} (before : List X) (out : ℕ) (vs : List X) (after : List X) (end : ℕ) : Type 0 where
  pub slice : after ≡ sets before out vs
  pub position : end ≡ out + length vs

-- The values of one slice from a position to an end exist, and from a position of another on there is room for them.
pub record Copies {X : Type 0} (src : List X) (from to : ℕ) (dst : List X) (out : ℕ) : Type 0 where
  pub ordered : from ≤ to
  pub within : to ≤ length src
  pub fits : out + (to - from) ≤ length dst
