-- Presses one after the other ("Lists of presses"): each press gets the workspaces and the session as the one before left them, and brings a
-- scratch, lengths and a budget of its own.
use Rattle.std.specs.Prelude.{ℕ, ◌+◌, List, [], ◌∷◌}
use Rattle.std.proofs.Math.Option.{Option, some, none}
use Rattle.calculus.specs.Rounds.{Shown}
use Rattle.claim.specs.Answer.{Answer, refused, shown, Memory, Call}
use Rattle.claim.specs.Press.{press}

-- What the list leaves.
abbrev pub final : Memory → List Call → Memory
final memory [] = memory
final memory (call ∷ calls) = final (press memory call).memory calls

-- The calls with their answers, in order.
abbrev pub history : Memory → List Call → List (Call × Answer)
history memory [] = []
history memory (call ∷ calls) = (call, (press memory call).answer) ∷ history (press memory call).memory calls

abbrev pub spent_of : Answer → ℕ
spent_of (refused why) = 0
spent_of (shown what) = what.spent

-- The sum of what the unrefused presses answered as spent.
abbrev pub spent_in : List (Call × Answer) → ℕ
spent_in [] = 0
spent_in (entry ∷ entries) = spent_of entry.1 + spent_in entries

-- What the unrefused presses but the last spent, plus the last one's budget, if one is unrefused; `spent` was spent and `found` was found so far.
abbrev pub note_budget : (spent : ℕ) → Option ℕ → Call → Answer → Option ℕ
note_budget spent found call (refused why) = found
note_budget spent found call (shown what) = some (spent + call.budget)

abbrev pub budget_from : (spent : ℕ) → Option ℕ → List (Call × Answer) → Option ℕ
budget_from spent found [] = found
budget_from spent found (entry ∷ entries) =
    budget_from (spent + spent_of entry.1) (note_budget spent found entry.0 entry.1) entries

abbrev pub budget_in_one_go : List (Call × Answer) → Option ℕ
budget_in_one_go entries = budget_from 0 none entries

-- What the last unrefused press showed; `found` was found so far.
abbrev pub note_shown : Option Shown → Answer → Option Shown
note_shown found (refused why) = found
note_shown found (shown what) = some what

abbrev pub shown_from : Option Shown → List (Call × Answer) → Option Shown
shown_from found [] = found
shown_from found (entry ∷ entries) = shown_from (note_shown found entry.1) entries

abbrev pub last_shown : List (Call × Answer) → Option Shown
last_shown entries = shown_from none entries
