-- Demand 3, the single claim about every list of presses ("Lists of presses"), over the definition of a press that the
-- contracts of the presses cite. What a press leaves is stated here field by field and what is refused in the words of the table of refusals,
-- not through the functions that define a press.
use Rattle.std.specs.Prelude.{ℕ, ◌+◌, ◌-◌, ◌≤◌, ◌≡◌, cond, not, ◌||◌, List, [], ◌∷◌, ◌++◌, map, ◌⊎◌, ltb, eqb, length, take, replicate}
use Rattle.std.proofs.Math.Option.{some, none}
use Rattle.calculus.specs.Term.{Term}
use Rattle.calculus.specs.Words.{words, size}
use Rattle.calculus.specs.Workspace.{sized}
use Rattle.calculus.specs.Theorems.{Held}
use Rattle.calculus.specs.Refusal.{Refusal, WrongWorkspace, OverBudget, NoTerm}
use Rattle.calculus.specs.Conversion.{Reaches, Joined}
use Rattle.calculus.specs.Comparison.{FirstDifference}
use Rattle.calculus.specs.Rounds.{Same, Different, Decided, Outcome, Shown, shows, with_spent, rounds}
use Rattle.claim.specs.State.{budget_limit, total_limit}
use Rattle.claim.specs.Answer.{Answer, refused, shown, Memory, Call, Pressed}
use Rattle.claim.specs.Press.{press}
use Rattle.claim.specs.Presses.{final, history, spent_in, budget_in_one_go, last_shown}

-- A workspace of C words holds an accepted term, of at most C words therefore; the words after it are any.
pub record Contains (C : ℕ) (t : Term) (ws : List ℕ) : Type 0 where
  pub holds : Held ws (size t) t
  pub length_is : length ws ≡ C

-- What is said of a press from the calls alone: why it is refused, or what it spends.
pub data Reply : Type 0 where
  refuses : Refusal → Reply
  spends : ℕ → Reply

abbrev pub reply_of : Answer → Reply
reply_of (refused why) = refuses why
reply_of (shown what) = spends what.spent

-- Where a list of calls stands: the session's total and the two current terms, whose lengths are those last returned.
pub record Progress : Type 0 where
  pub total : ℕ
  pub left : Term
  pub right : Term

-- For workspaces of C words: refusals 7 and 9 by the table, 10 for lengths other than those last returned (until then those of the first terms);
-- otherwise what the rounds spend.
abbrev pub reply_to : (C : ℕ) → Progress → Call → Reply
reply_to C here call =
    cond (not (sized (C ∷ C ∷ length call.scratch ∷ []))) (refuses WrongWorkspace)
    (cond (ltb budget_limit call.budget || ltb total_limit (here.total + call.budget)) (refuses OverBudget)
    (cond (not (eqb call.left_length (size here.left)) || not (eqb call.right_length (size here.right))) (refuses NoTerm)
    (spends (rounds C call.budget here.left here.right).spent)))

-- Where the list stands after a call with this reply, and the replies to a whole list.
abbrev pub advance : (C : ℕ) → Progress → Call → Reply → Progress
advance C here call (refuses why) = here
advance C here call (spends spent) =
    record {
      total = here.total + spent;
      left = (rounds C call.budget here.left here.right).left;
      right = (rounds C call.budget here.left here.right).right;
    }

abbrev pub replies_to : (C : ℕ) → Progress → List Call → List Reply
replies_to C here [] = []
replies_to C here (call ∷ calls) = reply_to C here call ∷ replies_to C (advance C here call (reply_to C here call)) calls

-- A refused press leaves all as it was; an unrefused one leaves the scratch all zeros.
abbrev pub LeavesBy : Memory → Call → Pressed → Answer → Type 0
LeavesBy memory call pressed (refused why) =
    (pressed.memory.left ≡ memory.left) × (pressed.memory.right ≡ memory.right) × (pressed.memory.session ≡ memory.session)
    × (pressed.scratch ≡ call.scratch)
LeavesBy memory call pressed (shown what) = pressed.scratch ≡ replicate (length call.scratch) 0

abbrev pub EachLeaves : Memory → List Call → Type 0
EachLeaves memory [] = Unit {0}
EachLeaves memory (call ∷ calls) =
    LeavesBy memory call (press memory call) (press memory call).answer × EachLeaves (press memory call).memory calls

-- After the list all is as the rounds made in one go from the first terms give it: `whole` is what they end in. What the last unrefused press itself
-- spent is among the `replies`.
pub record InOneGo (C : ℕ) (whole : Outcome) (start end : Memory) (entries : List (Call × Answer)) : Type 0 where
  pub left_words : end.left ≡ words whole.left ++ replicate (C - size whole.left) 0
  pub right_words : end.right ≡ words whole.right ++ replicate (C - size whole.right) 0
  pub last_spent : ℕ
  pub last-shown : last_shown entries ≡ some (with_spent last_spent (shows whole))
  pub session_total : end.session.total ≡ start.session.total + whole.spent
  pub session_left : end.session.left ≡ size whole.left
  pub session_right : end.session.right ≡ size whole.right
  pub session_verdict : end.session.verdict ≡ whole.verdict
  pub spent : spent_in entries ≡ whole.spent

-- Every unrefused press shows this.
abbrev pub Again : Shown → List (Call × Answer) → Type 0
Again last [] = Unit {0}
Again last (entry ∷ entries) = (((why : Refusal) × (entry.1 ≡ refused why)) ⊎ (entry.1 ≡ shown last)) × Again last entries

-- The list's last unrefused press showed this.
abbrev pub Ended : Memory → List Call → Shown → Type 0
Ended start calls last = last_shown (history start calls) ≡ some last

-- What a list spent in all, with what its last unrefused press showed besides.
abbrev pub in_all : Memory → List Call → Shown → Shown
in_all start calls last = with_spent (spent_in (history start calls)) last

-- Both workspaces start with the same terms, of the lengths that are shown.
abbrev pub SameTerms : Shown → Memory → Memory → Type 0
SameTerms last one other =
    (take last.left one.left ≡ take last.left other.left) × (take last.right one.right ≡ take last.right other.right)

pub record Claim (C : ℕ) (t u : Term) (start : Memory) (calls : List Call) : Type 0 where
  -- Which presses are refused, and what the others spend, follows from the calls alone.
  pub replies :
      map (λ entry. reply_of entry.1) (history start calls)
      ≡ replies_to C (record { total = start.session.total; left = t; right = u }) calls
  pub leaves : EachLeaves start calls
  -- If all are refused, all is as at the start.
  pub all_refused : budget_in_one_go (history start calls) ≡ none → final start calls ≡ start
  -- Otherwise all is as in one go, with a budget of what the unrefused presses but the last spent, plus the last one's budget.
  pub in-one-go : (B : ℕ) → budget_in_one_go (history start calls) ≡ some B
      → InOneGo C (rounds C B t u) start (final start calls) (history start calls)
  -- After Same or Different every later unrefused press spends 0, gives it again, with that position, and leaves all as it was.
  pub stays : (last : Shown) → Ended start calls last → Decided last.verdict
      → (later : List Call)
      → Again (with_spent 0 last) (history (final start calls) later) × (final (final start calls) later ≡ final start calls)
  -- An unrefused press on the first terms, with any session, at least that spent as budget and workspaces of at least C words, gives that
  -- verdict, that spent, that position and the same terms.
  pub on_first_terms : (last : Shown) → Ended start calls last → Decided last.verdict
      → (C' : ℕ) (memory : Memory) (call : Call) → C ≤ C' → Contains C' t memory.left → Contains C' u memory.right
      → spent_in (history start calls) ≤ call.budget
      → (last' : Shown) → (press memory call).answer ≡ shown last'
      → (last' ≡ in_all start calls last) × SameTerms last (press memory call).memory (final start calls)
  -- Two lists from the same first terms, whatever their budgets and their C, that each give Same or Different agree in verdict, spent, position and
  -- terms.
  pub agree : (last : Shown) → Ended start calls last → Decided last.verdict
      → (C' : ℕ) (start' : Memory) (calls' : List Call) → Contains C' t start'.left → Contains C' u start'.right
      → (last' : Shown) → Ended start' calls' last' → Decided last'.verdict
      → (in_all start calls last ≡ in_all start' calls' last') × SameTerms last (final start calls) (final start' calls')
  -- Same: one term stands on both sides that contractions reach from each first term.
  pub same : (last : Shown) → Ended start calls last → last.verdict ≡ Same
      → (w : Term) × Reaches t w × Reaches u w × ((final start calls).left ≡ words w ++ replicate (C - size w) 0)
      × ((final start calls).right ≡ words w ++ replicate (C - size w) 0) × (last.left ≡ size w) × (last.right ≡ size w)
  -- Different: no chain joins the first terms.
  pub different : (last : Shown) → Ended start calls last → last.verdict ≡ Different → Joined t u → ⊥
  -- With Different the position is that of the first difference of the two terms that stand there. With every other verdict it is 0.
  pub first_difference : (last : Shown) → Ended start calls last → last.verdict ≡ Different
      → FirstDifference last.position (take last.left (final start calls).left) (take last.right (final start calls).right)
  pub no_position : (last : Shown) → Ended start calls last → (last.verdict ≡ Different → ⊥) → last.position ≡ 0

-- Demand 3: over every length C, first terms, workspaces that hold them, session and list of calls.
abbrev pub EveryListOfPresses : Type 0
EveryListOfPresses =
    (C : ℕ) (t u : Term) (start : Memory) → Contains C t start.left → Contains C u start.right → (calls : List Call) → Claim C t u start calls

-- Two presses, neither refused, the second on what the first left and with the lengths it returned, end in the terms, verdict, position and session of
-- one press whose budget is the first's spent plus the second's budget, if that is at most 1,000,000. Its scratch may be any of that length.
abbrev pub together : Call → (scratch : List ℕ) (spent budget : ℕ) → Call
together call scratch spent budget =
    record { scratch = scratch; left_length = call.left_length; right_length = call.right_length; budget = spent + budget }

abbrev pub TwoPresses : Type 0
TwoPresses =
    (memory : Memory) (first second : Call) (scratch : List ℕ) (earlier later : Shown) → length scratch ≡ length first.scratch
    → (press memory first).answer ≡ shown earlier → second.left_length ≡ earlier.left → second.right_length ≡ earlier.right
    → (press (press memory first).memory second).answer ≡ shown later → earlier.spent + second.budget ≤ budget_limit
    → ((press memory (together first scratch earlier.spent second.budget)).answer ≡ shown (with_spent (earlier.spent + later.spent) later))
    × ((press memory (together first scratch earlier.spent second.budget)).memory ≡ (press (press memory first).memory second).memory)
