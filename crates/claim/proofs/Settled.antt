-- Lists of presses whose last unrefused press answered a verdict, and what follows where it is Same or Different.
use Prim.Native.Nat.{ℕ, ◌+◌, ◌-◌, ◌≤◌}
use mathlib.Core.Path.{◌≡◌, refl, sym, ◌∙◌, ap, ap₂, subst}
use mathlib.Core.List.{List, [], ◌∷◌, ◌++◌}
use mathlib.Core.Logic.{◌⊎◌, inl, inr}
use mathlib.Core.Option.{Option, some, none-ne-some}
use native.Mathlib.Nat.{add-zero}
use lib.ListN.{length, take, replicate}
use lib.Seq.{take-append_seam}
use Rattle.calculus.specs.Term.{Term}
use Rattle.calculus.specs.Words.{words, size}
use Rattle.calculus.specs.Workspace.{padded}
use Rattle.calculus.specs.Comparison.{compare, FirstDifference}
use Rattle.calculus.specs.Rounds.{Verdict, Same, Different, Decided, Shown, shown_position, shows, with_spent, at_once, ended, rounds}
use Rattle.calculus.specs.Refusal.{Refusal}
use Rattle.calculus.specs.Conversion.{Reaches, Joined}
use Rattle.calculus.specs.Unlimited.{Exact}
use Rattle.claim.specs.Answer.{refused, shown, Memory, Call, Pressed}
use Rattle.claim.specs.Press.{press}
use Rattle.claim.specs.Presses.{final, history, spent_in}
use Rattle.claim.specs.Claim.{Contains, Reply, Progress, Again, Ended, SameTerms}
use Rattle.calculus.proofs.ChurchRosser.{church_rosser}
use Rattle.calculus.proofs.RoundExact.{shown_exact}
use Rattle.calculus.proofs.RoundsLaws.{walked}
use Rattle.calculus.proofs.UnlimitedLaws.{rounds_stable, rounds-agree, rounds_again, rounds-same, verdicts_exact, same_sound}
use Rattle.calculus.proofs.WalkLaws.{walk_accepted, reached}
use Rattle.claim.proofs.PressLaws.{Answered, turned_down, made, answered, concluded, stands_first, stands_concluded, refused≢shown, shown_injective}
use Rattle.claim.proofs.PressesLaws.{Reached, untouched, ran, reached_by}

-- What the last unrefused press showed, with what the list spent: rounds in one go, with some budget, show this and leave this memory.
pub record Stopped (C : ℕ) (t u : Term) (start : Memory) (spent : ℕ) (m : Memory) (a : Shown) : Type 0 where
  pub budget : ℕ
  pub shown_is : with_spent spent a ≡ shows (rounds C budget t u)
  pub memory_is : m ≡ concluded C (start.session.total + (rounds C budget t u).spent) (rounds C budget t u)

module _ {C : ℕ} {t u : Term} {start : Memory} {spent : ℕ} {m : Memory} {a : Shown} (h : Stopped C t u start spent m a) where
  verdict_is : a.verdict ≡ (rounds C h.budget t u).verdict
  verdict_is = ap (λ a. a.verdict) h.shown_is

  left_is : a.left ≡ size (rounds C h.budget t u).left
  left_is = ap (λ a. a.left) h.shown_is

  right_is : a.right ≡ size (rounds C h.budget t u).right
  right_is = ap (λ a. a.right) h.shown_is

  position_is : (let o = rounds C h.budget t u in a.position ≡ shown_position o.verdict (compare o.left o.right))
  position_is = ap (λ a. a.position) h.shown_is

stopped : {C : ℕ} {t u : Term} {start : Memory} {spent : ℕ} {found : Option ℕ} {last : Option Shown} {m : Memory} {a : Shown}
    → Reached C t u start spent found last m → last ≡ some a → Stopped C t u start spent m a
stopped (untouched e f p q) h = absurd (none-ne-some _ (sym p ∙ h))
stopped {C} {t} {u} {spent = spent} {a = a} (ran B s e f p q) h =
    let shown-last : a ≡ with_spent s (shows (rounds C B t u)) = cc in
    record { budget = B; shown_is = ap₂ with_spent e shown-last; memory_is = q }

pub stopped_by : {C : ℕ} {t u : Term} {start : Memory} → Contains C t start.left → Contains C u start.right → (calls : List Call) {a : Shown}
    → Ended start calls a → Stopped C t u start (spent_in (history start calls)) (final start calls) a
stopped_by left_holds right_holds calls e = stopped (reached_by left_holds right_holds calls) e

-- A press that leaves the memory as it is: refused, or it shows this.
record Idle (a : Shown) (m : Memory) (p : Pressed) : Type 0 where
  answer_is : ((why : Refusal) × (p.answer ≡ refused why)) ⊎ (p.answer ≡ shown a)
  memory_is : p.memory ≡ m

idle_always : {a : Shown} {m : Memory} → ((c : Call) → Idle a m (press m c)) → (later : List Call)
    → Again a (history m later) × (final m later ≡ m)
idle_always h [] = (tt, refl)
idle_always {a} {m} h (c ∷ cs) =
    let i = h c in
    let (again, e) = idle_always h cs in
    ((i.answer_is, subst (λ k. Again a (history k cs)) (sym i.memory_is) again), ap (λ k. final k cs) i.memory_is ∙ e)

-- After Same or Different every press is idle.
idle_settled : {C : ℕ} {s : Progress} {m : Memory} {v : Verdict} {c : Call} {r : Reply} {p : Pressed}
    → ((B : ℕ) → rounds C B s.left s.right ≡ ended v s.left s.right)
    → m ≡ concluded C s.total (ended v s.left s.right) → Answered C s m c r p → Idle (shows (ended v s.left s.right)) m p
idle_settled h e (turned_down why) = record { answer_is = inl (why, refl); memory_is = refl }
idle_settled {C} {s} {m} {v} {c} h e (made q) =
    let o = ended v s.left s.right in
    rw (h c.budget)
    (record { answer_is = inr refl; memory_is = ap (λ n. concluded C n o) (add-zero _ ∙ ap (λ k. k.session.total) e) ∙ sym e })

module _ {C : ℕ} {t u : Term} {start : Memory} (left_holds : Contains C t start.left) (right_holds : Contains C u start.right) where
  pub settled_stays : {spent : ℕ} {m : Memory} {a : Shown} → Stopped C t u start spent m a → Decided a.verdict → (later : List Call)
      → Again (with_spent 0 a) (history m later) × (final m later ≡ m)
  settled_stays h d later =
      let o = rounds C h.budget t u in
      let total = start.session.total + o.spent in
      let settled : Decided o.verdict = subst Decided (verdict_is h) d in
      let stands = stands_concluded left_holds right_holds h.budget total in
      rw (h.memory_is, ap (with_spent 0) h.shown_is)
      (idle_always (λ c. idle_settled (rounds_again at_once C h.budget t u settled C) refl (answered stands c)) later)

-- The same words stand at the start of workspaces of any two lengths.
same-words : (C C' : ℕ) (ws : List ℕ) → take (length ws) (padded C ws) ≡ take (length ws) (padded C' ws)
same-words C C' ws = take-append_seam ws _ ∙ sym (take-append_seam ws _)

module _ {C : ℕ} {t u : Term} {start : Memory} {spent : ℕ} {m : Memory} {a : Shown} (h : Stopped C t u start spent m a) where
  -- A press on the first terms in workspaces at least as long, with what was spent for a budget or more, gives the same.
  pub settled_on_first_terms : Decided a.verdict → (C' : ℕ) (m' : Memory) (c : Call) → C ≤ C' → Contains C' t m'.left → Contains C' u m'.right
      → spent ≤ c.budget → (a' : Shown) → (press m' c).answer ≡ shown a' → (a' ≡ with_spent spent a) × SameTerms a (press m' c).memory m
  settled_on_first_terms d C' m' c wide lh rh enough a' = by (answered (stands_first m' lh rh) c)
    where
      by : {x : Reply} {p : Pressed} → Answered C' (record { total = m'.session.total; left = t; right = u }) m' c x p
          → p.answer ≡ shown a' → (a' ≡ with_spent spent a) × SameTerms a p.memory m
      by (turned_down why) e = absurd (refused≢shown e)
      by (made fits) e =
          let o = rounds C h.budget t u in
          let enough' : o.spent ≤ c.budget = subst (λ n. n ≤ c.budget) (ap (λ a. a.spent) h.shown_is) enough in
          let same : rounds C' c.budget t u ≡ o = rounds_stable at_once C h.budget t u (subst Decided (verdict_is h) d) C' c.budget wide enough' in (
            sym (shown_injective e) ∙ ap shows same ∙ sym h.shown_is,
            rw (same, h.memory_is, left_is h, right_is h) (same-words C' C (words o.left), same-words C' C (words o.right)),
          )

  -- Another list that gives Same or Different agrees.
  pub settled_agree : {C' : ℕ} {start' : Memory} {spent' : ℕ} {m' : Memory} {a' : Shown} → Stopped C' t u start' spent' m' a'
      → Decided a.verdict → Decided a'.verdict → (with_spent spent a ≡ with_spent spent' a') × SameTerms a m m'
  settled_agree {C'} {start'} h' d d' =
      let o = rounds C h.budget t u in
      let o' = rounds C' h'.budget t u in
      let e : o ≡ o' = rounds-agree at_once C h.budget C' h'.budget t u (subst Decided (verdict_is h) d) (subst Decided (verdict_is h') d') in (
        h.shown_is ∙ ap shows e ∙ sym h'.shown_is,
        rw (left_is h, right_is h, h.memory_is, h'.memory_is, ← e) (same-words C C' (words o.left), same-words C C' (words o.right)),
      )

  pub settled_same : a.verdict ≡ Same → (w : Term) × Reaches t w × Reaches u w × (m.left ≡ words w ++ replicate (C - size w) 0)
      × (m.right ≡ words w ++ replicate (C - size w) 0) × (a.left ≡ size w) × (a.right ≡ size w)
  settled_same e =
      let o = rounds C h.budget t u in
      let equal : o.left ≡ o.right = rounds-same C h.budget t u (sym (verdict_is h) ∙ e) in
      let (f, g) = reached (walked at_once C h.budget t u) in (
        o.left,
        f,
        subst (Reaches u) (sym equal) g,
        ap (λ k. k.left) h.memory_is,
        ap (λ k. k.right) h.memory_is ∙ ap (λ k. padded C (words k)) (sym equal),
        left_is h,
        right_is h ∙ ap size (sym equal),
      )

  pub settled_different : a.verdict ≡ Different → Joined t u → ⊥
  settled_different e =
      let v : (rounds C h.budget t u).verdict ≡ Different = sym (verdict_is h) ∙ e in
      subst (λ k. Exact k t u) v (verdicts_exact at_once same_sound C h.budget t u (inr v))

  -- The two terms that stand there are not one.
  settled_unequal : a.verdict ≡ Different → (rounds C h.budget t u).left ≡ (rounds C h.budget t u).right → ⊥
  settled_unequal e q =
      let (f, g) = reached (walked at_once C h.budget t u) in
      settled_different e ((church_rosser t u).1 ((rounds C h.budget t u).left, f, subst (Reaches u) (sym q) g))

  -- Their words are the first words of the workspaces.
  left_words : take a.left m.left ≡ words (rounds C h.budget t u).left
  left_words = rw (left_is h, h.memory_is) (take-append_seam (words (rounds C h.budget t u).left) _)

  right_words : take a.right m.right ≡ words (rounds C h.budget t u).right
  right_words = rw (right_is h, h.memory_is) (take-append_seam (words (rounds C h.budget t u).right) _)

  pub settled_first_difference : Contains C t start.left → Contains C u start.right → a.verdict ≡ Different
      → FirstDifference a.position (take a.left m.left) (take a.right m.right)
  settled_first_difference lh rh e =
      let o = rounds C h.budget t u in
      let (f, g) = walk_accepted (walked at_once C h.budget t u) in
      rw (position_is h, left_words, right_words)
      ((shown_exact o).4 (sym (verdict_is h) ∙ e) (f lh.holds.accepted) (g rh.holds.accepted) (settled_unequal e))

  pub settled_no_position : (a.verdict ≡ Different → ⊥) → a.position ≡ 0
  settled_no_position other = position_is h ∙ (shown_exact (rounds C h.budget t u)).5 (λ e. other (verdict_is h ∙ e))
