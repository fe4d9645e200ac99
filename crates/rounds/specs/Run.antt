-- What the rounds of a press need of the lent words, and what they leave.
use Rattle.std.specs.Prelude.{ℕ, ◌≤◌, ◌≡◌, List, ◌++◌, length}
use Rattle.calculus.specs.Words.{words}
use Rattle.calculus.specs.Rounds.{Outcome, Shown, shows}
use Rattle.words.specs.Room.{Room}
use Rattle.redex.specs.Held.{Holds}

-- Both workspaces hold terms, and the three lengths are equal.
pub record Ready (left right scratch : List ℕ) (left_length right_length : ℕ) : Type 0 where
  pub left_holds : Holds left left_length
  pub right_holds : Holds right right_length
  pub right-length : length right ≡ length left
  pub scratch_length : length scratch ≡ length left

-- The workspaces, of C words, hold the two terms that the rounds with a budget end in. The words after a term, and those of the scratch, are free: the press
-- clears them.
pub record Ran (C budget : ℕ) (end : Outcome) (shown : Shown) (scratch left right scratch' : List ℕ) : Type 0 where
  pub shown_is : shown ≡ shows end
  pub within : shown.spent ≤ budget
  pub left_others : List ℕ
  pub left_words : left ≡ words end.left ++ left_others
  pub left-length : length left ≡ C
  pub right_others : List ℕ
  pub right_words : right ≡ words end.right ++ right_others
  pub right-length : length right ≡ C
  pub scratch_room : Room scratch scratch'
