-- What a scan of an encoding's bits leaves.
use Rattle.std.specs.Prelude.{ℕ, ◌≡◌, cond, List, [], ◌∷◌, ltb, length}
use Rattle.std.specs.Prelude.{Some, None}
use Rattle.std.specs.Prelude as code
use Rattle.std.proofs.Math.Option.{Option, some, none}
use Rattle.std.proofs.lemmas.List.Edits.{sets}
use Rattle.calculus.specs.Words.{variable_kind, word, workspace_most}
use Rattle.words.specs.Room.{Room}

-- A word that is larger than that of the least index that no term of a workspace binds is put as that.
abbrev pub word_most : ℕ
word_most = word variable_kind workspace_most

unfoldable pub clipped : ℕ → ℕ
clipped w = cond (ltb w word_most) w word_most

abbrev pub all_clipped : List ℕ → List ℕ
all_clipped [] = []
all_clipped (w ∷ ws) = clipped w ∷ all_clipped ws

-- By the words of the one term that the bits are, if they are one: their number is answered, and those that there is room for stand at the start.
-- Otherwise what stands there is free.
abbrev pub Scans : Option (List ℕ) → (before after : List ℕ) → code.Option ℕ → Type 0
Scans found before after None = (found ≡ none) × Room before after
Scans found before after (Some n) = (ws : List ℕ) × (found ≡ some ws) × (n ≡ length ws) × (after ≡ sets before 0 (all_clipped ws))
