-- The rule of two presses ("A press"): two presses end where one press with the first's spent and the second's budget for a budget ends.
use Prim.Native.Nat.{ℕ, ◌+◌, ◌≤◌}
use mathlib.Core.Path.{◌≡◌, sym, ◌∙◌, ap, subst}
use mathlib.Core.Bool.{true, and-eq-true_iff}
use mathlib.Core.List.{List}
use native.Mathlib.Nat.{add_assoc}
use native.Mathlib.Omega.{arith}
use lib.Dec.{leb}
use lib.ListN.{length}
use borrow.Author.Tests.{leb-true, le-leb}
use Rattle.calculus.specs.Term.{Term}
use Rattle.calculus.specs.Words.{size}
use Rattle.calculus.specs.Workspace.{term_at}
use Rattle.calculus.specs.Rounds.{Outcome, Shown, shows, with_spent, at_once, after, rounds}
use Rattle.claim.specs.State.{budget_limit, total_limit, affordable}
use Rattle.claim.specs.Answer.{shown, Memory, Call}
use Rattle.claim.specs.Press.{conclude, press}
use Rattle.claim.specs.Claim.{together, TwoPresses}
use Rattle.calculus.proofs.RoundsLaws.{rounds-add}
use Rattle.claim.proofs.Workspaces.{term_at-size}
use Rattle.claim.proofs.PressLaws.{shown_injective, concluded, Passed, press_passed, passed, holds_passed}

-- The budgets of two presses that were afforded one after the other are afforded at once.
afforded_together : (first second total : ℕ) → affordable second (total + first) ≡ true → first + second ≤ budget_limit
    → affordable (first + second) total ≡ true
afforded_together first second total h k =
    let (_, g) = (and-eq-true_iff (leb second budget_limit) (leb (total + first + second) total_limit)).0 h in
    let sum : total + first + second ≤ total_limit = leb-true _ _ g in
    rw (le-leb (first + second) budget_limit k) (le-leb (total + (first + second)) total_limit (omega arith))

-- Both presses, where the first has passed on t and u.
module _ {m : Memory} {c : Call} {t u : Term} (h : Passed m c t u) (d : Call) where
  abbrev C : ℕ
  C = length m.left

  abbrev o : Outcome
  o = rounds C c.budget t u

  abbrev o' : Outcome
  o' = rounds C d.budget o.left o.right

  abbrev next : Memory
  next = (conclude C m.session o).memory

  module _ {a' : Shown} (left_is : d.left_length ≡ size o.left) (right_is : d.right_length ≡ size o.right)
      (second : (press next d).answer ≡ shown a') (fits : o.spent + d.budget ≤ budget_limit)
      (scratch : List ℕ) (same-scratch : length scratch ≡ length c.scratch)
    where
      -- The second press is made on the terms that the first ended in.
      passed_next : Passed next d o.left o.right
      passed_next =
          let (_, _, q) = passed next d second in
          let (hl, hr) = holds_passed h in
          record {
            size_passes = q.size_passes;
            budget_passes = q.budget_passes;
            left-term = ap (term_at next.left) left_is ∙ term_at-size hl;
            right-term = ap (term_at next.right) right_is ∙ term_at-size hr;
          }

      press-next : press next d ≡ conclude C next.session o'
      press-next =
          subst (λ n. press next d ≡ conclude n next.session (rounds n d.budget o.left o.right)) (holds_passed h).0.length_is
          (press_passed passed_next)

      passed_together : Passed m (together c scratch o.spent d.budget) t u
      passed_together =
          record {
            size_passes = rw same-scratch h.size_passes;
            budget_passes = afforded_together o.spent d.budget m.session.total passed_next.budget_passes fits;
            left-term = h.left-term;
            right-term = h.right-term;
          }

      press-together : press m (together c scratch o.spent d.budget) ≡ conclude C m.session (after o.spent o')
      press-together = press_passed passed_together ∙ ap (conclude C m.session) (rounds-add at_once C c.budget d.budget t u)

      both_presses : ((press m (together c scratch o.spent d.budget)).answer ≡ shown (with_spent (o.spent + a'.spent) a'))
          × ((press m (together c scratch o.spent d.budget)).memory ≡ (press next d).memory)
      both_presses =
          let a'-is : shows o' ≡ a' = shown_injective (sym (ap (λ p. p.answer) press-next) ∙ second) in (
            ap (λ p. p.answer) press-together ∙ ap (λ a. shown (with_spent (o.spent + a.spent) a)) a'-is,
            ap (λ p. p.memory) press-together ∙ ap (λ n. concluded C n o') (sym (add_assoc m.session.total o.spent o'.spent))
                ∙ sym (ap (λ p. p.memory) press-next),
          )

pub two_presses : TwoPresses
two_presses m c d scratch a a' same e dl dr e' fits =
    let (t, u, h) = passed m c e in
    by h (shown_injective (sym e ∙ ap (λ p. p.answer) (press_passed h)))
  where
    by : {t u : Term} → Passed m c t u → a ≡ shows (rounds (length m.left) c.budget t u)
        → ((press m (together c scratch a.spent d.budget)).answer ≡ shown (with_spent (a.spent + a'.spent) a'))
        × ((press m (together c scratch a.spent d.budget)).memory ≡ (press (press m c).memory d).memory)
    by h a-is =
        let first = press_passed h in
        rw (first, a-is)
        (both_presses h d (dl ∙ ap (λ a. a.left) a-is) (dr ∙ ap (λ a. a.right) a-is)
        (subst (λ p. (press p.memory d).answer ≡ shown a') first e') (rw a-is at fits) scratch same)
