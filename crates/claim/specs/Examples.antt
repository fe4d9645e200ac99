-- What showing hands back.
use Rattle.std.specs.Prelude.{ℕ, ◌≡◌, List, [], ◌∷◌, replicate}
use Rattle.claim.specs.Showing.{show, part_of}

-- Workspaces of 16 words that hold \0, f1 f2 and f2 f1.
abbrev pub abstraction : List ℕ
abstraction = 1 ∷ 0 ∷ replicate 14 7

abbrev pub application : List ℕ
application = 2 ∷ 8 ∷ 16 ∷ replicate 13 7

abbrev pub exchanged : List ℕ
exchanged = 2 ∷ 16 ∷ 8 ∷ replicate 13 7

-- Where the workspaces start, and what is handed back of two that start there.
abbrev pub left_start : ℕ × ℕ
left_start = (0, 0)

abbrev pub right_start : ℕ × ℕ
right_start = (1, 0)

abbrev pub handed : (left right : List ℕ) (left_length right_length : ℕ) → (ℕ × ℕ) × List ℕ
handed ws vs l r = part_of left_start right_start ws vs (show ws vs l r)

-- The shorter form, by one word on either side, and the right one at equal lengths, whatever the words. The empty start of the left workspace where showing
-- is refused: by a length of the workspaces, or by words that are no term, where the other side has one.
pub record ShownExamples : Type 0 where
  pub left_shorter : handed abstraction application 2 3 ≡ (left_start, 1 ∷ 0 ∷ [])
  pub right_shorter : handed application abstraction 3 2 ≡ (right_start, 1 ∷ 0 ∷ [])
  pub equal_lengths : handed application exchanged 3 3 ≡ (right_start, 2 ∷ 16 ∷ 8 ∷ [])
  pub equal_words : handed application application 3 3 ≡ (right_start, 2 ∷ 8 ∷ 16 ∷ [])
  pub refused_too_short : handed (replicate 15 0) (replicate 15 0) 1 1 ≡ (left_start, [])
  pub refused_too_long : handed (replicate 2049 0) (replicate 2049 0) 1 1 ≡ (left_start, [])
  pub refused_left_shorter : handed (replicate 16 0) (replicate 17 0) 1 1 ≡ (left_start, [])
  pub refused_right_shorter : handed (replicate 17 0) (replicate 16 0) 1 1 ≡ (left_start, [])
  pub refused_left : handed abstraction application 4 3 ≡ (left_start, [])
  pub refused_left_equal : handed abstraction application 3 3 ≡ (left_start, [])
  pub refused_right : handed application abstraction 3 1 ≡ (left_start, [])
  pub refused_right_equal : handed application abstraction 3 3 ≡ (left_start, [])
