-- Comparison of two terms ("A press"): that they are equal, or the smallest word position, counted from 0, where they differ. It goes by the words of
-- both; that two unequal terms of a workspace always differ at a position within both is owed (`UnequalTermsDiffer`).
use Rattle.std.specs.Prelude.{ℕ, suc, ◌<◌, ◌≡◌, cond, List, [], ◌∷◌, eqb, length, take, get_or}
use Rattle.calculus.specs.Term.{Term}
use Rattle.calculus.specs.Words.{words}

pub data Comparison : Type 0 where
  equal : Comparison
  differ : (position : ℕ) → Comparison

-- The same behind one more word.
abbrev pub behind : Comparison → Comparison
behind equal = equal
behind (differ position) = differ (suc position)

-- Of two lists of words, whole terms or not. Where one is the start of the other, they differ where the shorter one ends.
abbrev pub compare_words : List ℕ → List ℕ → Comparison
compare_words [] [] = equal
compare_words [] (v ∷ vs) = differ 0
compare_words (w ∷ ws) [] = differ 0
compare_words (w ∷ ws) (v ∷ vs) = cond (eqb w v) (behind (compare_words ws vs)) (differ 0)

-- Of two terms.
abbrev pub compare : Term → Term → Comparison
compare t u = compare_words (words t) (words u)

-- The position where they differ, 0 where they are equal.
abbrev pub position_of : Comparison → ℕ
position_of equal = 0
position_of (differ position) = position

-- Two lists of words have their first difference at a position: both have a word there, which is not the same, and all words before it are.
pub record FirstDifference (position : ℕ) (ws vs : List ℕ) : Type 0 where
  pub left_has : position < length ws
  pub right_has : position < length vs
  pub before : take position ws ≡ take position vs
  pub there : get_or ws position 0 ≡ get_or vs position 0 → ⊥
