-- What the parser keeps between two bytes, as a state of the reader, and the room that it needs.
use Rattle.std.specs.Prelude.{ℕ, suc, ◌*◌, ◌-◌, ◌≤◌, ◌<◌, ◌≡◌, List, length, take, drop, Some, None}
use Rattle.std.specs.Prelude as codeOption
use Rattle.std.proofs.Math.Option.{Option, some, none}
use Rattle.calculus.specs.Accepted.{index_limit}
use Rattle.words.specs.Room.{Room}
use Rattle.notation.specs.Grammar.{line_most}
use Rattle.notation.specs.Reader.{State, wanted, number, begun, Begun, begins}
use Rattle.parser.specs.declared.Place as codePlace
use Rattle.parser.specs.declared.Place.TheVariants as place
use Rattle.parser.specs.declared.Scan.{Scan}

-- The state by what may stand in front.
abbrev pub state_at : codePlace.Place → (count : ℕ) (stack words : List ℕ) → State
state_at place.Wanted n ns ws = wanted n ns ws
state_at (place.Number v p) n ns ws = number v p n ns ws
state_at place.Begun n ns ws = begun n ns ws

-- The counts of the terms around are the end of one array, the words the end of another.
abbrev pub state_of : Scan → (stack out : List ℕ) → State
state_of s stack out = state_at s.place s.count (drop s.top stack) (drop s.at out)

-- What a byte leads to: none outside the grammar.
abbrev pub stepped_of : codeOption.Option Scan → (stack out : List ℕ) → Option State
stepped_of None stack out = none
stepped_of (Some s) stack out = some (state_of s stack out)

-- The same where an item starts.
abbrev pub begun_by : Scan → (stack out : List ℕ) → Begun
begun_by s stack out = begins s.count (drop s.top stack) (drop s.at out)

abbrev pub begun_of : codeOption.Option Scan → (stack out : List ℕ) → Option Begun
begun_of None stack out = none
begun_of (Some s) stack out = some (begun_by s stack out)

-- A number has at most this worth: one more digit is taken only where the worth is no more than the largest index.
abbrev pub power_most : ℕ
power_most = index_limit * 10

-- A number is no more than its worth.
abbrev pub Fitting : codePlace.Place → Type 0
Fitting place.Wanted = Unit {0}
Fitting (place.Number v p) = (v ≤ p) × (p ≤ power_most)
Fitting place.Begun = Unit {0}

-- The places are within arrays of D and R elements, and a number fits.
pub record Within (D R : ℕ) (s : Scan) : Type 0 where
  pub at : s.at ≤ R
  pub top : s.top ≤ D
  pub place : Fitting s.place

-- There is room for what one further byte can add.
pub record Ahead (s : Scan) : Type 0 where
  pub words : suc s.count < s.at
  pub depth : 0 < s.top

abbrev pub StepWithin : (D R : ℕ) → codeOption.Option Scan → Type 0
StepWithin D R None = Unit {0}
StepWithin D R (Some s) = Within D R s

-- What settling leaves: one word more at most, and the same count and stack.
abbrev pub Settled : (R : ℕ) → Scan → codeOption.Option Scan → Type 0
Settled R s None = Unit {0}
Settled R s (Some r) = (s.at - 1 ≤ r.at) × (r.at ≤ R) × (r.top ≡ s.top) × (r.count ≡ s.count)

-- What a step leaves of an array that it fills from its end: what stands before the place it has come to, and outside the grammar all of it.
abbrev pub Stays : (place : Scan → ℕ) → codeOption.Option Scan → (before after : List ℕ) → Type 0
Stays place None before after = after ≡ before
Stays place (Some s) before after = take (place s) after ≡ take (place s) before

-- The same of the words at a byte, which may end a number and be outside the grammar there: then they are free.
abbrev pub WordsStay : codeOption.Option Scan → (before after : List ℕ) → Type 0
WordsStay None before after = Room before after
WordsStay (Some s) before after = take s.at after ≡ take s.at before

-- Each byte of a line adds at most one word or one count; one place more, so that every step may ask for room for one further word.
abbrev pub room_most : ℕ
room_most = suc line_most

-- The line is not too long, and both arrays have their room.
pub record Parses (line stack out : List ℕ) : Type 0 where
  pub short : length line ≤ line_most
  pub stack_full : length stack ≡ room_most
  pub out_full : length out ≡ room_most

-- The words are the end of the array from a position on.
abbrev pub parsed_of : codeOption.Option ℕ → (out : List ℕ) → Option (List ℕ)
parsed_of None out = none
parsed_of (Some at) out = some (drop at out)
