-- Showing, by its tests in their order.
use Prim.Native.Nat.{ℕ, ◌≤◌}
use mathlib.Core.Path.{◌≡◌, sym, ◌∙◌, ap, ap₂}
use mathlib.Core.Bool.{true, false}
use mathlib.Core.List.{List, [], ◌∷◌}
use lib.ListN.{length}
use Rattle.calculus.specs.Words.{workspace_most}
use Rattle.calculus.specs.Workspace.{sized, term_at}
use Rattle.terms.specs.IsTerm.{is_term}
use Rattle.calculus.proofs.WorkspaceLaws.{sized_most, sized_equal, first_equal, sized_two, held}
use Rattle.claim.specs.Showing.{left, right, nothing, shows_right, shorter, show_terms, show}
use Rattle.press.proofs.PressCode.{not_term, is_held}

module _ (ws vs : List ℕ) (l r : ℕ) where
  pub shows_nothing : sized (length ws ∷ length vs ∷ length ws ∷ []) ≡ false → show ws vs l r ≡ nothing
  unfolding show
  shows_nothing e = rw (sym (sized_two (length ws) (length vs)) ∙ e)

  module _ (passes : sized (length ws ∷ length vs ∷ length ws ∷ []) ≡ true) where
    fits : sized (length ws ∷ length vs ∷ []) ≡ true
    fits = sym (sized_two (length ws) (length vs)) ∙ passes

    by_terms : show ws vs l r ≡ show_terms l r (term_at ws l) (term_at vs r)
    unfolding show
    by_terms = rw fits

    limit : length ws ≤ workspace_most
    limit = sized_most (length ws) (length vs ∷ []) fits

    right_limit : length vs ≤ workspace_most
    right_limit = rw (first_equal (length ws) (length vs) [] (sized_equal (length ws) (length vs ∷ []) fits)) limit

    pub shows_no_left : is_term ws l ≡ false → show ws vs l r ≡ nothing
    shows_no_left e = by_terms ∙ ap (λ t. show_terms l r t (term_at vs r)) (not_term ws l limit e)

    module _ (is-left : is_term ws l ≡ true) where
      pub shows_no_right : is_term vs r ≡ false → show ws vs l r ≡ nothing
      shows_no_right e = by_terms ∙ ap₂ (show_terms l r) (is_held ws l limit is-left).term (not_term vs r right_limit e)

      pub left_fits : l ≤ length ws
      left_fits = (held ws l _ (is_held ws l limit is-left).term).within

      module _ (is_right : is_term vs r ≡ true) where
        pub right_fits : r ≤ length vs
        right_fits = (held vs r _ (is_held vs r right_limit is_right).term).within

        shows-shorter : show ws vs l r ≡ shorter l r
        shows-shorter = by_terms ∙ ap₂ (show_terms l r) (is_held ws l limit is-left).term (is_held vs r right_limit is_right).term

        pub shows_right_form : shows_right l r ≡ true → show ws vs l r ≡ record { side = right; count = r }
        shows_right_form e = shows-shorter ∙ rw e

        pub shows_left_form : shows_right l r ≡ false → show ws vs l r ≡ record { side = left; count = l }
        shows_left_form e = shows-shorter ∙ rw e
