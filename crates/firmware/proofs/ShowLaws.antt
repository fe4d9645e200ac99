-- The part that is shown is told by its length and the lengths that were given.
use Prim.Native.Nat.{ℕ, zero, suc}
use mathlib.Core.Path.{◌≡◌, refl, ◌∙◌, ap}
use mathlib.Core.Bool.{Bool, true, false, cond}
use mathlib.Core.List.{List, [], ◌∷◌}
use mathlib.Core.Option.{Option, some, none, none-ne-some, bind}
use native.Mathlib.Omega.{arith}
use lib.Dec.{eqb}
use lib.ListN.{length}
use lib.Seq.{length-take-le}
use borrow.Author.Tests.{le-leb, ne_eqb}
use Rattle.calculus.specs.Term.{Term}
use Rattle.calculus.specs.Read.{read, items, one_term}
use Rattle.calculus.specs.Workspace.{sized, term_at}
use Rattle.claim.specs.Showing.{Part, Side, left, right, shows_right, show, show_terms, nothing, part_words}
use Rattle.calculus.proofs.WorkspaceLaws.{held}
use Rattle.firmware.specs.Numbers.{side_number}
use Rattle.firmware.specs.Calls.{part_seen}

-- No words are no term.
some_words : (ws : List ℕ) (n : ℕ) {t : Term} → term_at ws n ≡ some t → n ≡ 0 → ⊥
unfolding term_at read items one_term bind
some_words ws zero e h = none-ne-some _ (rw (le-leb 0 (length ws) (omega arith)) at e)
some_words ws (suc n) e h = omega arith

module _ (ws vs : List ℕ) (l r : ℕ) where
  abbrev pub side_told : (count : ℕ) → Side
  side_told n = cond (eqb n 0) left (cond (shows_right l r) right left)

  abbrev Told : Part → Type 0
  Told p = ◌≡◌ {A = Part} (let n = length (part_words ws vs p) in record { side = side_told n; count = n }) p

  shorter_told : {t u : Term} → term_at ws l ≡ some t → term_at vs r ≡ some u → (b : Bool) → shows_right l r ≡ b
      → Told (cond b (record { side = right; count = r }) (record { side = left; count = l }))
  shorter_told e f true h = rw (length-take-le r vs (held vs r _ f).within, ne_eqb r 0 (some_words vs r f), h)
  shorter_told e f false h = rw (length-take-le l ws (held ws l _ e).within, ne_eqb l 0 (some_words ws l e), h)

  terms_told : (x y : Option Term) → term_at ws l ≡ x → term_at vs r ≡ y → Told (show_terms l r x y)
  terms_told none y e f = refl
  terms_told (some t) none e f = refl
  terms_told (some t) (some u) e f = shorter_told e f (shows_right l r) refl

  show_told : Told (show ws vs l r)
  unfolding show
  show_told = by (sized (length ws ∷ length vs ∷ []))
    where
      by : (b : Bool) → Told (cond b (show_terms l r (term_at ws l) (term_at vs r)) nothing)
      by true = terms_told (term_at ws l) (term_at vs r) refl refl
      by false = refl

  -- The words of the part that is shown tell it.
  pub part-seen : {part : List ℕ} {n : ℕ} → part ≡ part_words ws vs (show ws vs l r) → n ≡ side_number (side_told (length part))
      → ◌≡◌ {A = ℕ × ℕ} (n, length part) (part_seen (show ws vs l r))
  part-seen {part} e f =
      ap (λ n. (n, length part)) f ∙ ap (λ part. (side_number (side_told (length part)), length part)) e ∙ ap part_seen show_told
