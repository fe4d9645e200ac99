-- The loop of the rounds: before each turn both workspaces hold the current terms, and the rounds still to make with what is left of the budget
-- end in what all the rounds end in.
use Prim.Native.Nat.{ℕ, ◌+◌, ◌-◌, ◌*◌, ◌≤◌}
use mathlib.Core.Path.{◌≡◌, sym, ◌∙◌, ap, subst⁻¹}
use mathlib.Core.List.{List, ◌++◌}
use mathlib.Core.Option.{Option, some, none}
use native.Mathlib.Omega.{arith}
use lib.ListN.{length, take, drop}
use lib.Seq.{length-take-le}
use Rattle.calculus.specs.Term.{Term}
use Rattle.calculus.specs.Words.{workspace_most, words, size}
use Rattle.calculus.specs.Accepted.{Accepted}
use Rattle.calculus.specs.Workspace.{term_at}
use Rattle.calculus.specs.Comparison.{Comparison, compare_words, compare, position_of}
use Rattle.calculus.specs.Rounds.{Verdict, Shown, shown_position, shows, Round, ends, goes, round, next, next_length, at_once, round_by, ended, after, rounds}
use Rattle.calculus.proofs.AcceptedLaws.{leftmost_keeps_accepted}
use Rattle.calculus.proofs.WorkspaceLaws.{term_at-words}
use Rattle.redex.specs.Held.{held, Holds}
use Rattle.std.specs.Prelude as code
use Rattle.redex.specs.declared.Redex.{Redex}
use Rattle.search.specs.Search as search
use Rattle.search.specs.Search.{Searched}
use Rattle.turn.specs.Compare.{Agrees}
use Rattle.turn.specs.Turn.{Plan, length_in, at_once_in}
use Rattle.turn.specs.Types.{plan_of}
use Rattle.turn.specs.Resume.{agreeAfter, Agreeing}
use Rattle.rounds.specs.Advance.{Advances, Advanced}
use Rattle.rounds.specs.Run.{Ready, Ran}
use Rattle.turn.proofs.CompareLaws.{compared_agrees}
use Rattle.rounds.proofs.RunCode.{plan_is}
use Rattle.words.proofs.RoomLaws.{room_of_length}
use Rattle.redex.proofs.HeldLaws.{held_term, holds_term, Start, term_at_start}
use Rattle.turn.proofs.ResumeLaws.{resumes}
use Rattle.turn.proofs.AgreeLaws.{agree_after}
use Rattle.calculus.proofs.RoundsLaws.{next_is, next_normal, Goes, goes_on, goes_wider, Moves, here, further, rounds-end, rounds_go, walk_fits, after-after}
use Rattle.turn.proofs.TurnLaws.{Planned, is_normal, contracts, planned_tells, planned-length, asked}

begins : {ws : List ℕ} {n : ℕ} → Holds ws n → Start ws n (held ws n)
begins {ws} {n} h = term_at_start ws n (held ws n) h.term

-- Comparing the words compares the terms.
module _ {ws vs : List ℕ} {n m : ℕ} (h : Holds ws n) (k : Holds vs m) where
  compares_terms : compare_words (take n ws) (take m vs) ≡ compare (held ws n) (held vs m)
  compares_terms = rw ((begins h).taken, (begins k).taken)

  asked_here : at_once_in (take n ws) (take m vs) ≡ at_once (held ws n) (held vs m)
  asked_here = rw (← (begins h).taken, ← (begins k).taken) (asked (held ws n) (held vs m) (begins h).accepted (begins k).accepted)

next_accepted : (t : Term) → Accepted 0 t → Accepted 0 (next t)
next_accepted t h = by (planned_tells t)
  where
    by : {p : Plan} → Planned t p → Accepted 0 (next t)
    by (is_normal r l) = rw (next_normal t l) h
    by (contracts p u r c l) = rw (next_is t l) (leftmost_keeps_accepted 0 t u l h)

-- A workspace after a side's part in a round.
module _ {ws ws' scratch scratch' : List ℕ} {n r from : ℕ} {todo : code.Option Redex} (h : Holds ws n) (kept : length ws' ≡ length ws)
    (a : Advanced ws n todo scratch r from ws' scratch') where
  now_held : term_at ws' r ≡ some (next (held ws n))
  now_held =
      subst⁻¹ (λ k. term_at ws' k ≡ some (next (held ws n))) a.returned
      (rw a.workspace (term_at-words (next (held ws n)) _ (next_accepted (held ws n) (begins h).accepted)))

  advanced_holds : Holds ws' r
  advanced_holds = holds_term ws' r (next (held ws n)) now_held (rw kept h.limit)

  advanced_held : held ws' r ≡ next (held ws n)
  advanced_held = held_term ws' r (next (held ws n)) now_held

  advanced_words : take r ws' ≡ words (next (held ws n))
  advanced_words = sym (begins advanced_holds).taken ∙ ap words advanced_held

  advanced_searched : Searched ws' r from
  advanced_searched =
      record {
        holds = advanced_holds;
        before = λ p l. rw advanced_held (resumes (held ws n) r (planned_tells (held ws n)) p (omega (arith, a.resumes)));
      }

-- What is shown with a verdict, by the two terms compared.
abbrev pub shown_at : Verdict → Comparison → (spent m n : ℕ) → Shown
shown_at v c spent m n = record { verdict = v; spent = spent; left = m; right = n; position = shown_position v c }

-- What holds before each turn: both terms, where the search on each side goes on, and the words that agree.
pub record Going (left₀ right₀ scratch₀ : List ℕ) (l r budget : ℕ) (left right scratch room : List ℕ) (m i n j agree spent : ℕ) : Type 0 where
  pub ready : Ready left right scratch m n
  pub left_searched : Searched left m i
  pub right_searched : Searched right n j
  pub agrees : Agrees agree (take m left) (take n right)
  pub left_kept : length left ≡ length left₀
  pub right_kept : length right ≡ length right₀
  pub scratch_kept : length scratch ≡ length scratch₀
  pub room_length : 2 * length room ≡ workspace_most
  pub within : spent ≤ budget
  pub rest :
      after spent (rounds (length left₀) (budget - spent) (held left m) (held right n)) ≡ rounds (length left₀) budget (held left₀ l) (held right₀ r)

module _ {left₀ right₀ scratch₀ : List ℕ} {l r budget : ℕ} {left right scratch room : List ℕ} {m i n j agree spent : ℕ}
    (g : Going left₀ right₀ scratch₀ l r budget left right scratch room m i n j agree spent) where
  pub left_fits : m ≤ length left
  left_fits = (begins g.ready.left_holds).within

  pub right_fits : n ≤ length right
  right_fits = (begins g.ready.right_holds).within

  -- The scratch serves the searches.
  pub left_room : m ≤ length scratch
  left_room = omega (arith, left_fits, g.ready.scratch_length)

  pub right_room : (scratch' : List ℕ) → length scratch' ≡ length scratch → n ≤ length scratch'
  right_room scratch' kept = omega (arith, right_fits, g.ready.scratch_length, g.ready.right-length)

  -- A round that is answered at once, and one that is not, by both plans.
  module _ {e : Option Verdict} (h : e ≡ at_once_in (take m left) (take n right)) where
    asked_is : at_once (held left m) (held right n) ≡ e
    asked_is = sym (h ∙ asked_here g.ready.left_holds g.ready.right_holds)

    pub answered : {v : Verdict} → e ≡ some v → round_by at_once (length left₀) (budget - spent) (held left m) (held right n) ≡ ends v
    answered k = rw (asked_is ∙ k)

    pub judged : (a b : code.Option Redex) {x : Round} → e ≡ none → search.Planned left m a → search.Planned right n b
        → x ≡ round none (length left) (budget - spent) (length_in (plan_of a)) (length_in (plan_of b))
        → round_by at_once (length left₀) (budget - spent) (held left m) (held right n) ≡ x
    judged a b k p q j = sym (rw (j, plan_is left m a p, plan_is right n b q, g.left_kept, asked_is ∙ k, planned-length (held left m), planned-length (held right n)))

  -- What the calls tell that go on from there: the two terms compared, and both plans.
  module _ {c : Comparison} (s : c ≡ compare_words (take m left) (take n right)) {shared : ℕ} (at : shared ≡ position_of c) where
    -- The words before the position where they differ agree.
    shared_agrees : Agrees shared (take m left) (take n right)
    shared_agrees = rw (at, s) (compared_agrees (take m left) (take n right))

    pub agreeing : (a : code.Option Redex) → search.Planned left m a → Agreeing left m shared (plan_of a)
    agreeing a p =
        record { holds = g.ready.left_holds; within = omega (arith, shared_agrees.left_has, length-take-le m left left_fits); plan_is = plan_is left m a p }

    -- The words that agree after both sides' parts.
    agrees-next : (a b : code.Option Redex) → search.Planned left m a → search.Planned right n b
        → Agrees (agreeAfter left m shared (plan_of a) (plan_of b)) (words (next (held left m))) (words (next (held right n)))
    agrees-next a b p q =
        let ls = begins g.ready.left_holds in
        let rs = begins g.ready.right_holds in
        rw (plan_is left m a p, plan_is right n b q)
        (agree_after ls rs (omega (arith, left_fits, g.ready.left_holds.limit)) (omega (arith, right_fits, g.ready.right_holds.limit))
        (rw (ls.taken, rs.taken) shared_agrees) (planned_tells (held left m)) (planned_tells (held right n)))

  pub ran : {v : Verdict} {shown : Shown} {scratch₁ : List ℕ} → length scratch₁ ≡ length scratch
      → shown ≡ shown_at v (compare_words (take m left) (take n right)) spent m n
      → round_by at_once (length left₀) (budget - spent) (held left m) (held right n) ≡ ends v
      → Ran (length left₀) budget (rounds (length left₀) budget (held left₀ l) (held right₀ r)) shown scratch₀ left right scratch₁
  ran {v} kept e t =
      let o : after spent (ended v (held left m) (held right n)) ≡ rounds (length left₀) budget (held left₀ l) (held right₀ r)
      = sym (ap (after spent) (rounds-end at_once (length left₀) (budget - spent) (held left m) (held right n) t)) ∙ g.rest in
      let ls = begins g.ready.left_holds in
      let rs = begins g.ready.right_holds in
      let all : spent ≡ spent + 0 = omega arith in
      let points = ap (shown_position v) (compares_terms g.ready.left_holds g.ready.right_holds) in
      let here-shown : shown_at v (compare_words (take m left) (take n right)) spent m n ≡ shows (after spent (ended v (held left m) (held right n)))
      = λ i. record { verdict = v; spent = all i; left = sym ls.long i; right = sym rs.long i; position = points i } in
      record {
        shown_is = e ∙ here-shown ∙ ap shows o;
        within = omega (arith, ap (λ a. a.spent) e, g.within);
        left_others = drop m left;
        left_words = sym ls.start ∙ ap (λ k. words k.left ++ drop m left) o;
        left-length = g.left_kept;
        right_others = drop n right;
        right_words = sym rs.start ∙ ap (λ k. words k.right ++ drop n right) o;
        right-length = g.ready.right-length ∙ g.left_kept;
        scratch_room = room_of_length (kept ∙ g.scratch_kept);
      }

  module _ {p : ℕ} (t : round_by at_once (length left₀) (budget - spent) (held left m) (held right n) ≡ goes p) where
    goes_here : Goes (at_once (held left m) (held right n)) (length left₀) (budget - spent) (next_length (held left m)) (next_length (held right n)) p
    goes_here = goes_on (at_once (held left m) (held right n)) (length left₀) (budget - spent) (next_length (held left m)) (next_length (held right n)) t

    moves : Moves at_once (length left₀) p (held left m) (held right n)
    moves = goes_wider {C' = length left₀} {rest' = p} (omega arith) (omega arith) goes_here

    pub spends : (1 ≤ p) × (p ≤ budget - spent)
    spends = (goes_here.moves, goes_here.covered)

    both_fit : (size (next (held left m)) ≤ length left) × (size (next (held right n)) ≤ length left)
    both_fit =
        let f = walk_fits at_once (further moves here) in
        let lm : size (held left m) ≤ length left₀ = omega (arith, (begins g.ready.left_holds).long, left_fits, g.left_kept) in
        let rn : size (held right n) ≤ length left₀ = omega (arith, (begins g.ready.right_holds).long, right_fits, g.left_kept, g.ready.right-length) in
        (omega (arith, f.0 lm, g.left_kept), omega (arith, f.1 rn, g.left_kept))

    pub left_advances : {a : code.Option Redex} {scratch₁ : List ℕ} → length scratch₁ ≡ length scratch → search.Planned left m a → Advances left m a scratch₁ room
    left_advances kept e =
        record {
          holds = g.ready.left_holds;
          plan = e;
          fits = both_fit.0;
          scratch_fits = omega (arith, both_fit.0, kept, g.ready.scratch_length);
          room_fits = omega (arith, g.room_length);
        }

    module _ {left' scratch₁ scratch' : List ℕ} {m' i' : ℕ} {a : code.Option Redex} (lk : length left' ≡ length left) (sk : length scratch' ≡ length scratch)
        (la : Advanced left m a scratch₁ m' i' left' scratch') where
      pub right_advances : {b : code.Option Redex} {room' : List ℕ} → 2 * length room' ≡ workspace_most → search.Planned right n b → Advances right n b scratch' room'
      right_advances room_length e =
          record {
            holds = g.ready.right_holds;
            plan = e;
            fits = omega (arith, both_fit.1, g.ready.right-length);
            scratch_fits = omega (arith, both_fit.1, sk, g.ready.scratch_length);
            room_fits = omega arith;
          }

      module _ {right' scratch'' : List ℕ} {n' j' : ℕ} {b : code.Option Redex} (rk : length right' ≡ length right) (sk' : length scratch'' ≡ length scratch')
          (ra : Advanced right n b scratch' n' j' right' scratch'') where
        pub going_on : {c : Comparison} {shared agree' : ℕ} {room' : List ℕ} → 2 * length room' ≡ workspace_most → c ≡ compare_words (take m left) (take n right)
            → shared ≡ position_of c → search.Planned left m a → search.Planned right n b → agree' ≡ agreeAfter left m shared (plan_of a) (plan_of b)
            → Going left₀ right₀ scratch₀ l r budget left' right' scratch'' room' m' i' n' j' agree' (spent + p)
        going_on room_length s at e f k =
            let (pos, h) = spends in
            let less : budget - (spent + p) ≡ budget - spent - p = omega arith in
            let whole : p + (budget - spent - p) ≡ budget - spent = omega arith in
            record {
              ready =
                  record {
                    left_holds = advanced_holds g.ready.left_holds lk la;
                    right_holds = advanced_holds g.ready.right_holds rk ra;
                    right-length = rk ∙ g.ready.right-length ∙ sym lk;
                    scratch_length = sk' ∙ sk ∙ g.ready.scratch_length ∙ sym lk;
                  };
              left_searched = advanced_searched g.ready.left_holds lk la;
              right_searched = advanced_searched g.ready.right_holds rk ra;
              agrees =
                  rw (k, advanced_words g.ready.left_holds lk la, advanced_words g.ready.right_holds rk ra)
                  (agrees-next s at a b e f);
              left_kept = lk ∙ g.left_kept;
              right_kept = rk ∙ g.right_kept;
              scratch_kept = sk' ∙ sk ∙ g.scratch_kept;
              room_length = room_length;
              within = omega (arith, g.within);
              rest =
                  rw (advanced_held g.ready.left_holds lk la, advanced_held g.ready.right_holds rk ra, less)
                  (sym (after-after spent p (rounds (length left₀) (budget - spent - p) (next (held left m)) (next (held right n))))
                  ∙ ap (after spent) (sym (rounds_go at_once moves (budget - spent - p)))
                  ∙ ap (λ b. after spent (rounds (length left₀) b (held left m) (held right n))) whole
                  ∙ g.rest);
            }
