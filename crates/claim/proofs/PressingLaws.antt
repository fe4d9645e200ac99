-- What a press does, by the lengths, the budget with the total, and the terms in the workspaces.
use Prim.Native.Nat.{ℕ, ◌+◌}
use mathlib.Core.Path.{◌≡◌, refl, sym, ◌∙◌}
use mathlib.Core.Bool.{Bool, true, false, cond, true≢false, and-eq-true_iff}
use mathlib.Core.List.{List, [], ◌∷◌}
use mathlib.Core.Option.{Option, some, none, none-ne-some}
use lib.Dec.{leb}
use lib.ListN.{length}
use borrow.Author.Tests.{le-leb, leb-true, eq-eqb}
use Rattle.calculus.specs.Term.{Term}
use Rattle.calculus.specs.Words.{workspace_least, workspace_most}
use Rattle.calculus.specs.Workspace.{sized, term_at}
use Rattle.calculus.specs.Refusal.{WrongWorkspace, OverBudget}
use Rattle.calculus.specs.Theorems.{Held}
use Rattle.claim.specs.State.{budget_limit, total_limit, affordable}
use Rattle.claim.specs.Answer.{Memory, Call}
use Rattle.claim.specs.Press.{refuse, press_terms, press}
use Rattle.claim.specs.Pressing.{LengthsFit, Affords, PressingExact}
use Rattle.calculus.proofs.WorkspaceLaws.{sized_least, sized_most, term_at_exact}
use Rattle.claim.proofs.Workspaces.{sized_right, sized_scratch}

-- A test that does not pass.
fails : (b : Bool) → (b ≡ true → ⊥) → b ≡ false
fails true h = absurd (h refl)
fails false h = refl

no_held : (ws : List ℕ) (n : ℕ) → ((t : Term) → Held ws n t → ⊥) → term_at ws n ≡ none
no_held ws n h = by (term_at ws n) refl
  where
    by : (o : Option Term) → term_at ws n ≡ o → term_at ws n ≡ none
    by none e = e
    by (some t) e = absurd (h t ((term_at_exact ws n t).0 e))

-- The tests of lengths, and of budget and total, pass exactly if these fit.
module _ (m : Memory) (c : Call) where
  sizes_pass : LengthsFit m c → sized (length m.left ∷ length m.right ∷ length c.scratch ∷ []) ≡ true
  sizes_pass h =
      rw (
        le-leb workspace_least (length m.left) h.least,
        le-leb (length m.left) workspace_most h.most,
        eq-eqb (length m.right) (length m.left) h.right-length,
        eq-eqb (length c.scratch) (length m.left) h.scratch_length,
      )

  sizes_fit : sized (length m.left ∷ length m.right ∷ length c.scratch ∷ []) ≡ true → LengthsFit m c
  sizes_fit e =
      record {
        least = sized_least (length m.left) (length m.right ∷ length c.scratch ∷ []) e;
        most = sized_most (length m.left) (length m.right ∷ length c.scratch ∷ []) e;
        right-length = sized_right (length m.left) (length m.right) (length c.scratch) e;
        scratch_length = sized_scratch (length m.left) (length m.right) (length c.scratch) e;
      }

  budget_passes : Affords m c → affordable c.budget m.session.total ≡ true
  budget_passes h = rw (le-leb c.budget budget_limit h.budget_fits, le-leb (m.session.total + c.budget) total_limit h.total_fits)

  budget_affords : affordable c.budget m.session.total ≡ true → Affords m c
  budget_affords e =
      let (b, t) = (and-eq-true_iff (leb c.budget budget_limit) (leb (m.session.total + c.budget) total_limit)).0 e in
      record { budget_fits = leb-true c.budget budget_limit b; total_fits = leb-true (m.session.total + c.budget) total_limit t }

pub pressing_exact : PressingExact
unfolding press
pressing_exact m c =
    record {
      wrong-workspace = λ n. rw (fails _ (λ e. n (sizes_fit m c e)));
      over_budget = λ f n. rw (sizes_pass m c f, fails _ (λ e. n (budget_affords m c e)));
      no_left_term = λ f a n. rw (sizes_pass m c f, budget_passes m c a, no_held m.left c.left_length n);
      no_right_term = λ f a t h n. rw (sizes_pass m c f, budget_passes m c a, (term_at_exact m.left c.left_length t).1 h, no_held m.right c.right_length n);
      leaves = λ f a t u h k. rw (sizes_pass m c f, budget_passes m c a, (term_at_exact m.left c.left_length t).1 h, (term_at_exact m.right c.right_length u).1 k);
    }

-- The tests of a press in their order, by what is owed of it alone: the claim about lists rests on nothing else of the definition.
pub press_tests : (m : Memory) (c : Call)
    → press m c
    ≡ cond (sized (length m.left ∷ length m.right ∷ length c.scratch ∷ []))
    (cond (affordable c.budget m.session.total)
    (press_terms m c (term_at m.left c.left_length) (term_at m.right c.right_length))
    (refuse m c OverBudget))
    (refuse m c WrongWorkspace)
press_tests m c = by _ _ _ _ refl refl refl refl
  where
    by : (x y : Bool) (o q : Option Term) → sized (length m.left ∷ length m.right ∷ length c.scratch ∷ []) ≡ x
        → affordable c.budget m.session.total ≡ y → term_at m.left c.left_length ≡ o → term_at m.right c.right_length ≡ q
        → press m c ≡ cond x (cond y (press_terms m c o q) (refuse m c OverBudget)) (refuse m c WrongWorkspace)
    by false y o q s b l r = (pressing_exact m c).wrong-workspace (λ f. true≢false (sym (sizes_pass m c f) ∙ s))
    by true false o q s b l r = (pressing_exact m c).over_budget (sizes_fit m c s) (λ a. true≢false (sym (budget_passes m c a) ∙ b))
    by true true none q s b l r =
        (pressing_exact m c).no_left_term (sizes_fit m c s) (budget_affords m c b) (λ t h. none-ne-some t (sym l ∙ (term_at_exact _ _ t).1 h))
    by true true (some t) none s b l r =
        (pressing_exact m c).no_right_term (sizes_fit m c s) (budget_affords m c b) t ((term_at_exact _ _ t).0 l)
        (λ u h. none-ne-some u (sym r ∙ (term_at_exact _ _ u).1 h))
    by true true (some t) (some u) s b l r =
        (pressing_exact m c).leaves (sizes_fit m c s) (budget_affords m c b) t u ((term_at_exact _ _ t).0 l) ((term_at_exact _ _ u).0 r)
