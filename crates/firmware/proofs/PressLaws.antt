-- What C sees of a press: a session in words, of which a press reads only the total, and lengths and a position that are at most those of a workspace.
use Prim.Native.Nat.{ℕ, ◌≤◌}
use mathlib.Core.Path.{◌≡◌, refl, sym, ◌∙◌, ap, subst}
use mathlib.Core.Bool.{Bool, true, false, cond}
use mathlib.Core.List.{List, [], ◌∷◌}
use mathlib.Core.Option.{Option, some, none}
use native.Mathlib.Omega.{arith}
use lib.ListN.{length, get_or}
use borrow.Author.Tests.{ne_eqb}
use Rattle.calculus.specs.Term.{Term}
use Rattle.calculus.specs.Words.{words, size, workspace_most}
use Rattle.calculus.specs.Workspace.{sized, term_at}
use Rattle.calculus.specs.Refusal.{WrongWorkspace, OverBudget}
use Rattle.calculus.specs.Comparison.{compare}
use Rattle.calculus.specs.Rounds.{Verdict, Same, Different, Budget, Full, verdict_number, Shown, shown_position, shows, rounds}
use Rattle.calculus.proofs.WorkspaceLaws.{sized_most}
use Rattle.claim.specs.State.{Session, affordable}
use Rattle.claim.specs.Answer.{shown, Memory, Call, Pressed}
use Rattle.claim.specs.Press.{refuse, conclude, press_terms, press}
use Rattle.claim.proofs.Workspaces.{holds_fits}
use Rattle.claim.proofs.PressLaws.{shown_injective, press_passed, passed, holds_passed}
use Rattle.turn.proofs.CompareLaws.{compared_agrees}
use Rattle.firmware.specs.Numbers.{verdict_numbered, SessionInWords}
use Rattle.firmware.specs.Calls.{answer_seen, PressExit, pressed_seen, press_seen}

numbered : (v : Verdict) → verdict_numbered (verdict_number v) ≡ v
numbered Same = refl
numbered Different = refl
numbered Budget = refl
numbered Full = refl

pub session_in_words : SessionInWords
session_in_words =
    record {
      words_of = λ n l r v. refl;
      session-of = λ n l r w. refl;
      of_a_verdict = numbered;
      of_none = λ w h. rw (ne_eqb w 0 (λ e. omega arith), ne_eqb w 1 (λ e. omega arith), ne_eqb w 2 (λ e. omega arith));
      again = λ s. ap (λ v. record { total = s.total; left = s.left; right = s.right; verdict = v }) (numbered s.verdict);
    }

module _ (session answer left right : List ℕ) (c : Call) where
  abbrev on : Session → Memory
  on s = record { left = left; right = right; session = s }

  abbrev tested : (fits affords : Bool) → Option Term → Option Term → Session → Pressed
  tested fits affords t u s = cond fits (cond affords (press_terms (on s) c t u) (refuse (on s) c OverBudget)) (refuse (on s) c WrongWorkspace)

  total_seen : (fits affords : Bool) (t u : Option Term) (s s' : Session) → s.total ≡ s'.total
      → pressed_seen session answer (tested fits affords t u s) ≡ pressed_seen session answer (tested fits affords t u s')
  total_seen false y t u s s' e = refl
  total_seen true false t u s s' e = refl
  total_seen true true none u s s' e = refl
  total_seen true true (some t) none s s' e = refl
  total_seen true true (some t) (some u) s s' e = rw e

  total_read : (s s' : Session) → s.total ≡ s'.total → pressed_seen session answer (press (on s) c) ≡ pressed_seen session answer (press (on s') c)
  unfolding press
  total_read s s' e =
      let fits = sized (length left ∷ length right ∷ length c.scratch ∷ []) in
      let affords = affordable c.budget s'.total in
      rw (ap (affordable c.budget) e) (total_seen fits affords (term_at left c.left_length) (term_at right c.right_length) s s' e)

  -- What a press from any session with the total that the words have leaves, as C sees it.
  pub press-seen : {p : Pressed} (s : Session) {seen : ℕ × List ℕ × List ℕ} → p ≡ press (on s) c → s.total ≡ get_or session 0 0
      → seen ≡ answer_seen session answer p.answer p.memory.session
      → ◌≡◌ {A = PressExit} (seen, p.memory.left, p.memory.right, p.scratch) (press_seen session answer left right c)
  press-seen {p} s all total e =
      ap (λ x. (x, p.memory.left, p.memory.right, p.scratch)) e ∙ ap (pressed_seen session answer) all ∙ total_read s _ total

-- The position that is shown is within the left term.
position_within : (v : Verdict) (t u : Term) → shown_position v (compare t u) ≤ size t
position_within Same t u = omega arith
position_within Different t u = (compared_agrees (words t) (words u)).left_has
position_within Budget t u = omega arith
position_within Full t u = omega arith

-- Lengths and position that a press keeps and shows.
abbrev Within : Pressed → Shown → Type 0
Within p a =
    ((p.memory.session.left ≤ workspace_most) × (p.memory.session.right ≤ workspace_most))
    × ((a.left ≤ workspace_most) × ((a.right ≤ workspace_most) × (a.position ≤ workspace_most)))

pub lengths_within : (m : Memory) (c : Call) {p : Pressed} {a : Shown} → p ≡ press m c → p.answer ≡ shown a → Within p a
lengths_within m c {p} {a} all e =
    let (t, u, h) = passed m c (sym (ap (λ q. q.answer) all) ∙ e) in
    let o = rounds (length m.left) c.budget t u in
    let made = all ∙ press_passed h in
    let shown_is : a ≡ shows o = shown_injective (sym e ∙ ap (λ q. q.answer) made) in
    let (l, r) = holds_passed h in
    let most : length m.left ≤ workspace_most = sized_most (length m.left) (length m.right ∷ length c.scratch ∷ []) h.size_passes in
    let left_fits : size o.left ≤ workspace_most = omega (arith, holds_fits l) in
    let right_fits : size o.right ≤ workspace_most = omega (arith, holds_fits r) in
    subst (λ q. Within q a) (sym made)
    (subst (λ b. Within (conclude (length m.left) m.session o) b) (sym shown_is)
    ((left_fits, right_fits), (left_fits, (right_fits, omega (arith, position_within o.verdict o.left o.right)))))
