-- Lists of presses on workspaces that hold two terms: what they answer, and where they get from the first terms.
use Prim.Native.Nat.{ℕ, ◌+◌}
use mathlib.Core.Path.{◌≡◌, refl, sym, ◌∙◌, ap, ap₂, subst}
use mathlib.Core.List.{List, [], ◌∷◌, map}
use mathlib.Core.Option.{Option, some, none, none-ne-some}
use native.Mathlib.Nat.{zero-add, add-zero, add_assoc}
use Rattle.calculus.specs.Term.{Term}
use Rattle.calculus.specs.Rounds.{Shown, shows, with_spent, at_once, after, rounds}
use Rattle.claim.specs.Answer.{Answer, Memory, Call, Pressed}
use Rattle.claim.specs.Press.{press}
use Rattle.claim.specs.Presses.{final, history, spent_of, spent_in, note_budget, budget_from, budget_in_one_go, note_shown, shown_from, last_shown}
use Rattle.claim.specs.Claim.{Contains, Reply, reply_of, Progress, reply_to, advance, replies_to, EachLeaves, InOneGo}
use Rattle.calculus.proofs.RoundsLaws.{Walk, here, walked, rounds_walk}
use Rattle.claim.proofs.PressLaws.{Stands, Answered, turned_down, made, answered, concluded, stands_first, stands_concluded, stands_next, reply_answered, leaves_answered}

pub replies_answered : {C : ℕ} {s : Progress} {m : Memory} → Stands C s m → (calls : List Call)
    → map (λ e. reply_of e.1) (history m calls) ≡ replies_to C s calls
replies_answered h [] = refl
replies_answered {C} {s} h (c ∷ cs) =
    let a = answered h c in
    ap₂ ◌∷◌ (reply_answered a) (replies_answered {s = advance C s c (reply_to C s c)} (stands_next h a) cs)

pub each_leaves : {C : ℕ} {s : Progress} {m : Memory} → Stands C s m → (calls : List Call) → EachLeaves m calls
each_leaves h [] = tt
each_leaves {C} {s} h (c ∷ cs) =
    let a = answered h c in
    (leaves_answered a, each_leaves {s = advance C s c (reply_to C s c)} (stands_next h a) cs)

-- Where a list gets from the first terms t and u, by what it spent, the budget in one go, the last answer and the memory it leaves: nowhere if
-- every press was refused, and otherwise where rounds in one go get.
pub data Reached (C : ℕ) (t u : Term) (start : Memory) (spent : ℕ) (found : Option ℕ) (last : Option Shown) (m : Memory) : Type 0 where
  untouched : spent ≡ 0 → found ≡ none → last ≡ none → m ≡ start → Reached C t u start spent found last m
  ran : (B last_spent : ℕ) → spent ≡ (rounds C B t u).spent → found ≡ some B → last ≡ some (with_spent last_spent (shows (rounds C B t u)))
      → m ≡ concluded C (start.session.total + (rounds C B t u).spent) (rounds C B t u) → Reached C t u start spent found last m

-- The walk from the first terms to those where the memory stands.
record At (C : ℕ) (t u : Term) (start : Memory) (spent : ℕ) (m : Memory) : Type 0 where
  standing : Progress
  walk : Walk at_once C spent t u standing.left standing.right
  total_is : m.session.total ≡ start.session.total + spent
  stands : Stands C standing m

module _ {C : ℕ} {t u : Term} {start : Memory} (left_holds : Contains C t start.left) (right_holds : Contains C u start.right) where
  at : {spent : ℕ} {found : Option ℕ} {last : Option Shown} {m : Memory} → Reached C t u start spent found last m → At C t u start spent m
  at (untouched e f a q) =
      rw (e, q)
      (record {
        standing = record { total = start.session.total; left = t; right = u };
        walk = here;
        total_is = sym (add-zero start.session.total);
        stands = stands_first start left_holds right_holds;
      })
  at (ran B last e f a q) =
      let o = rounds C B t u in
      rw (e, q)
      (record {
        standing = record { total = start.session.total + o.spent; left = o.left; right = o.right };
        walk = walked at_once C B t u;
        total_is = refl;
        stands = stands_concluded left_holds right_holds B (start.session.total + o.spent);
      })

  -- A press after that.
  reached_answered : {spent : ℕ} {found : Option ℕ} {last : Option Shown} {m : Memory} → Reached C t u start spent found last m
      → (here : At C t u start spent m) → {c : Call} {r : Reply} {p : Pressed} → Answered C here.standing m c r p
      → Reached C t u start (spent + spent_of p.answer) (note_budget spent found c p.answer) (note_shown last p.answer) p.memory
  reached_answered {spent} h a (turned_down why) = rw (add-zero spent) h
  reached_answered {spent} h a {c} (made e) =
      let s = a.standing in
      let o = rounds C c.budget s.left s.right in
      let whole : after spent o ≡ rounds C (spent + c.budget) t u = sym (rounds_walk at_once a.walk c.budget) in
      ran (spent + c.budget) o.spent
      (ap (λ o'. o'.spent) whole)
      refl
      (ap (λ o'. some (with_spent o.spent (shows o'))) whole)
      (ap (λ n. concluded C n o) (ap (λ n. n + o.spent) a.total_is ∙ add_assoc start.session.total spent o.spent)
      ∙ ap (λ o'. concluded C (start.session.total + o'.spent) o') whole)

  reached_from : {spent : ℕ} {found : Option ℕ} {last : Option Shown} {m : Memory} → Reached C t u start spent found last m → (calls : List Call)
      → Reached C t u start (spent + spent_in (history m calls)) (budget_from spent found (history m calls)) (shown_from last (history m calls))
      (final m calls)
  reached_from {spent} h [] = rw (add-zero spent) h
  reached_from {spent} {m = m} h (c ∷ cs) =
      let a = at h in
      rw (← add_assoc spent (spent_of (press m c).answer) (spent_in (history (press m c).memory cs)))
      (reached_from {spent = spent + spent_of (press m c).answer} (reached_answered h a (answered a.stands c)) cs)

  -- Where a list gets.
  pub reached_by : (calls : List Call)
      → Reached C t u start (spent_in (history start calls)) (budget_in_one_go (history start calls)) (last_shown (history start calls)) (final start calls)
  reached_by calls = rw (zero-add (spent_in (history start calls))) at (reached_from (untouched refl refl refl refl) calls)

-- If no budget was found, every press was refused.
pub all_refused : {C : ℕ} {t u : Term} {start : Memory} {spent : ℕ} {found : Option ℕ} {last : Option Shown} {m : Memory}
    → Reached C t u start spent found last m → found ≡ none → m ≡ start
all_refused (untouched e f a q) h = q
all_refused (ran B last e f a q) h = absurd (none-ne-some B (sym h ∙ f))

pub in-one-go : {C : ℕ} {t u : Term} {start : Memory} {m : Memory} (es : List (Call × Answer)) (B : ℕ)
    → Reached C t u start (spent_in es) (budget_in_one_go es) (last_shown es) m → budget_in_one_go es ≡ some B → InOneGo C (rounds C B t u) start m es
in-one-go es B (untouched e f a q) h = absurd (none-ne-some B (sym f ∙ h))
in-one-go {C} {t} {u} {start} {m} es B (ran B' last e f a q) h =
    let b : B' ≡ B = cc in
    subst (λ B. InOneGo C (rounds C B t u) start m es) b
    (record {
      left_words = ap (λ k. k.left) q;
      right_words = ap (λ k. k.right) q;
      last_spent = last;
      last-shown = a;
      session_total = ap (λ k. k.session.total) q;
      session_left = ap (λ k. k.session.left) q;
      session_right = ap (λ k. k.session.right) q;
      session_verdict = ap (λ k. k.session.verdict) q;
      spent = e;
    })
