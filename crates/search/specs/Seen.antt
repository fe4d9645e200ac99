-- What is seen at a position of a workspace.
use Rattle.std.specs.Prelude.{ℕ, ◌+◌, ◌≤◌, ◌<◌, ◌≡◌, List, length, get_or, drop}
use Rattle.calculus.specs.Words.{constructor_kind, case_kind, kind_of}
use Rattle.words.specs.Room.{Room}
use Rattle.redex.specs.Rules.{nothing, parts}
use Rattle.redex.specs.Plan.{Plans, At}
use Rattle.search.specs.declared.seen.Seen.{Seen}
use Rattle.search.specs.declared.seen.Seen.TheVariants as seen

-- A case of a constructor stands at a position.
abbrev pub CaseAt : List ℕ → (at : ℕ) → Type 0
CaseAt ws at = (kind_of (get_or ws at 0) ≡ case_kind) × (kind_of (get_or ws (at + 1) 0) ≡ constructor_kind)

-- What is seen there: nothing that contracts, a case that is stuck, where the ends inside it are not known yet, or a redex. Only the walks
-- over a redex change the room.
abbrev pub SeenAt : List ℕ → (n at known : ℕ) → (room : List ℕ) → Seen → (room' : List ℕ) → Type 0
SeenAt ws n at known room seen.Nothing room' = (parts at (drop at ws) ≡ nothing) × (room' ≡ room) × (CaseAt ws at → at < known)
SeenAt ws n at known room seen.Stuck room' = (parts at (drop at ws) ≡ nothing) × (room' ≡ room) × CaseAt ws at × (known ≤ at)
SeenAt ws n at known room (seen.Redex r) room' = Plans ws n r × (r.at ≡ at) × Room room room'

-- A case of a constructor stands at the position, and w and v are their words.
pub record Inspected (ws : List ℕ) (n at w v : ℕ) (room : List ℕ) : Type 0 where
  pub place : At ws n at room
  pub further : at + 1 < length ws
  pub case_is : w ≡ get_or ws at 0
  pub constructor_is : v ≡ get_or ws (at + 1) 0
  pub case : kind_of w ≡ case_kind
  pub constructor : kind_of v ≡ constructor_kind
