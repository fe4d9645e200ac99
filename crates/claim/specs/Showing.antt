-- Showing ("A press", "Numbers for refused calls"): the shorter current form, a part of the workspace that holds it, and the right one at equal
-- lengths; the empty start of the left workspace where refusal 7 or 10 is met.
use Rattle.std.specs.Prelude.{ℕ, ◌≤◌, ◌<◌, ◌≡◌, Bool, cond, List, [], ◌∷◌, leb, length, take}
use Rattle.std.proofs.Math.Option.{Option, some, none}
use Rattle.calculus.specs.Term.{Term}
use Rattle.calculus.specs.Words.{workspace_least, workspace_most}
use Rattle.calculus.specs.Workspace.{sized, term_at}
use Rattle.calculus.specs.Theorems.{Held}

pub data Side : Type 0 where
  left right : Side

-- A part that is handed back: it starts where this side's workspace starts, and has so many words.
pub record Part : Type 0 where
  pub side : Side
  pub count : ℕ

-- Whether the right form is handed back: it has no more words than the left one.
abbrev pub shows_right : (left_length right_length : ℕ) → Bool
shows_right left_length right_length = leb right_length left_length

abbrev pub shorter : (left_length right_length : ℕ) → Part
shorter left_length right_length =
    cond (shows_right left_length right_length) (record { side = right; count = right_length }) (record { side = left; count = left_length })

abbrev pub nothing : Part
nothing = record { side = left; count = 0 }

abbrev pub show_terms : (left_length right_length : ℕ) → Option Term → Option Term → Part
show_terms left_length right_length none u = nothing
show_terms left_length right_length (some t) none = nothing
show_terms left_length right_length (some t) (some u) = shorter left_length right_length

-- The part that showing hands back, by both workspaces and the length of each side's term.
unfoldable pub show : (left right : List ℕ) (left_length right_length : ℕ) → Part
show ws vs left_length right_length =
    cond (sized (length ws ∷ length vs ∷ []))
    (show_terms left_length right_length (term_at ws left_length) (term_at vs right_length))
    nothing

-- What is on a side.
abbrev pub part_by : {A : Type 0} → Side → (onLeft onRight : A) → A
part_by left onLeft onRight = onLeft
part_by right onLeft onRight = onRight

-- The words of a part of two slices.
abbrev pub part_words : (ws vs : List ℕ) → Part → List ℕ
part_words ws vs part = take part.count (part_by part.side ws vs)

-- What is handed back of two slices, each by the pointer to its first word and its words: the pointer and the words of the part.
abbrev pub part_of : (left_at right_at : ℕ × ℕ) (ws vs : List ℕ) → Part → (ℕ × ℕ) × List ℕ
part_of left_at right_at ws vs part = (part_by part.side left_at right_at, part_words ws vs part)

-- What a showing asks for: workspaces of one length, from 16 to 2,048 words, and in each an accepted term of the given length.
pub record Showable (ws vs : List ℕ) (left_length right_length : ℕ) : Type 0 where
  pub least : workspace_least ≤ length ws
  pub most : length ws ≤ workspace_most
  pub one_length : length ws ≡ length vs
  pub left-term : (t : Term) × Held ws left_length t
  pub right-term : (t : Term) × Held vs right_length t

-- Words are handed back exactly if all of that is so: those of the left form where it is shorter, otherwise those of the right one. A part of either side
-- is handed back as so many first words of that side's workspace, with the pointer to its first.
pub record ShowsExactly (left_at right_at : ℕ × ℕ) (ws vs : List ℕ) (left_length right_length : ℕ) : Type 0 where
  pub refused : (Showable ws vs left_length right_length → ⊥) → show ws vs left_length right_length ≡ record { side = left; count = 0 }
  pub passed : 1 ≤ (show ws vs left_length right_length).count → Showable ws vs left_length right_length
  pub left_form : Showable ws vs left_length right_length → left_length < right_length
      → show ws vs left_length right_length ≡ record { side = left; count = left_length }
  pub right_form : Showable ws vs left_length right_length → right_length ≤ left_length
      → show ws vs left_length right_length ≡ record { side = right; count = right_length }
  pub left_part : (n : ℕ) → part_of left_at right_at ws vs (record { side = left; count = n }) ≡ (left_at, take n ws)
  pub right_part : (n : ℕ) → part_of left_at right_at ws vs (record { side = right; count = n }) ≡ (right_at, take n vs)
  pub part-words : (part : Part) → part_words ws vs part ≡ (part_of left_at right_at ws vs part).1

abbrev pub ShowingExact : Type 0
ShowingExact = (left_at right_at : ℕ × ℕ) (ws vs : List ℕ) (left_length right_length : ℕ) → ShowsExactly left_at right_at ws vs left_length right_length
