-- A room that a call is lent for its work: the words that it leaves there are free, and as many as before.
use Rattle.std.specs.Prelude.{ℕ, ◌≡◌, List, length}

pub record Room (before after : List ℕ) : Type 0 where
  pub others : List ℕ
  pub left : after ≡ others
  pub length_stays : length others ≡ length before
