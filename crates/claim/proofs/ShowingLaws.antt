-- What showing hands back, by the lengths of the workspaces and the terms in them.
use Prim.Native.Nat.{ℕ, ◌≤◌}
use mathlib.Core.Path.{◌≡◌, refl, sym, ◌∙◌, ap₂}
use mathlib.Core.Bool.{Bool, true, false, cond}
use mathlib.Core.List.{List, [], ◌∷◌}
use mathlib.Core.Option.{Option, some, none}
use native.Mathlib.Omega.{arith}
use lib.ListN.{length}
use borrow.Author.Tests.{le-leb, lt-leb, eq-eqb}
use Rattle.calculus.specs.Term.{Term}
use Rattle.calculus.specs.Words.{workspace_least, workspace_most}
use Rattle.calculus.specs.Workspace.{sized, term_at}
use Rattle.calculus.proofs.WorkspaceLaws.{sized_least, sized_most, sized_equal, first_equal, term_at_exact}
use Rattle.claim.specs.Showing.{Part, shorter, show_terms, nothing, show, Showable, ShowingExact}

module _ (ws vs : List ℕ) (l r : ℕ) where
  passing : {t u : Term} → sized (length ws ∷ length vs ∷ []) ≡ true → term_at ws l ≡ some t → term_at vs r ≡ some u → Showable ws vs l r
  passing {t} {u} s e f =
      record {
        least = sized_least (length ws) (length vs ∷ []) s;
        most = sized_most (length ws) (length vs ∷ []) s;
        one_length = sym (first_equal (length ws) (length vs) [] (sized_equal (length ws) (length vs ∷ []) s));
        left-term = (t, (term_at_exact ws l t).0 e);
        right-term = (u, (term_at_exact vs r u).0 f);
      }

  -- By the tests in their order: nothing, or words where all pass.
  abbrev Told : Part → Type 0
  Told part = ((Showable ws vs l r → ⊥) → part ≡ nothing) × (1 ≤ part.count → Showable ws vs l r)

  told : (b : Bool) (x y : Option Term) → sized (length ws ∷ length vs ∷ []) ≡ b → term_at ws l ≡ x → term_at vs r ≡ y
      → Told (cond b (show_terms l r x y) nothing)
  told false x y s e f = (λ n. refl, λ h. absurd (omega arith))
  told true none y s e f = (λ n. refl, λ h. absurd (omega arith))
  told true (some t) none s e f = (λ n. refl, λ h. absurd (omega arith))
  told true (some t) (some u) s e f = (λ n. absurd (n (passing s e f)), λ h. passing s e f)

  passed : Showable ws vs l r → show ws vs l r ≡ shorter l r
  unfolding show
  passed h =
      rw (
        le-leb workspace_least (length ws) h.least,
        le-leb (length ws) workspace_most h.most,
        eq-eqb (length vs) (length ws) (sym h.one_length),
      ) (ap₂ (show_terms l r) ((term_at_exact ws l h.left-term.0).1 h.left-term.1) ((term_at_exact vs r h.right-term.0).1 h.right-term.1))

pub showing_exact : ShowingExact
unfolding show
showing_exact left_at right_at ws vs l r =
    let by_tests = told ws vs l r _ _ _ refl refl refl in
    record {
      refused = by_tests.0;
      passed = by_tests.1;
      left_form = λ h k. passed ws vs l r h ∙ rw (lt-leb r l k);
      right_form = λ h k. passed ws vs l r h ∙ rw (le-leb r l k);
      left_part = λ n. refl;
      right_part = λ n. refl;
      part-words = λ part. refl;
    }
