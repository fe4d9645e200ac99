-- What a word brings, by its kind.
use Prim.Native.Nat.{ℕ, ◌<◌}
use mathlib.Core.Path.{◌≡◌, refl, sym, ◌∙◌, ap}
use mathlib.Core.List.{[], ◌∷◌}
use native.Mathlib.Omega.{arith}
use lib.IntN.{ℤ}
use Rattle.std.specs.Prelude.{Option, Some, None}
use Rattle.calculus.specs.Words.{variable_kind, kind_of, payload_of}
use Rattle.calculus.specs.Skip.{following, arity}
use Rattle.words.specs.Bound.{binding, bound}
use Rattle.walk.specs.Rewritten.{shifting, rewritten, argument_at}
use Rattle.walk.proofs.RewrittenLaws.{rewritten-other, place_other, argument_none}
use Rattle.substitution.specs.Kinds.{Visits}

-- A word of another kind than a variable stands for itself.
pub visits_kept : (k : ℕ) {w d n : ℕ} {z : ℤ} {at : Option ℕ} {word items binders : ℕ} → k ≡ kind_of w → variable_kind < k
    → (at ≡ None) × (word ≡ w) × (items ≡ following k (payload_of w)) × (binders ≡ binding k (payload_of w)) → Visits w d n z at word items binders
visits_kept k {w} {d} {n} {z} is other e =
    let another : kind_of w ≡ variable_kind → ⊥ = λ q. omega (arith, is, q) in
    record {
      argument_is = e.0 ∙ sym (argument_none n d w (place_other n d w another));
      moved = λ q. rewritten-other (shifting z) d w another ∙ ap (λ v. v ∷ []) (sym e.1);
      unchanged = λ j q. e.1;
      items_are = e.2 ∙ ap (λ m. following m (payload_of w)) is;
      binders_are = e.3 ∙ ap (λ m. binding m (payload_of w)) is;
    }

-- A variable.
module _ (w : ℕ) (variable : kind_of w ≡ variable_kind) where
  none_follow : 0 ≡ arity w
  unfolding following
  none_follow = rw variable

  binds_none : 0 ≡ bound w
  unfolding binding
  binds_none = rw variable

  -- An argument stands for it.
  pub visits_argument : {d n j : ℕ} {z : ℤ} → Some j ≡ argument_at n d w → Visits w d n z (Some j) w 0 0
  visits_argument is =
      record {
        argument_is = is;
        moved = λ q. cc;
        unchanged = λ i q. refl;
        items_are = none_follow;
        binders_are = binds_none;
      }

  -- None does.
  pub visits_moved : {d n : ℕ} {z : ℤ} {at : Option ℕ} {word moved items binders : ℕ} → None ≡ argument_at n d w → rewritten (shifting z) d w ≡ moved ∷ []
      → (at ≡ None) × (word ≡ moved) × (items ≡ 0) × (binders ≡ 0) → Visits w d n z at word items binders
  visits_moved is one e =
      record {
        argument_is = e.0 ∙ is;
        moved = λ q. one ∙ ap (λ v. v ∷ []) (sym e.1);
        unchanged = λ i q. let none = e.0 in cc;
        items_are = e.2 ∙ none_follow;
        binders_are = e.3 ∙ binds_none;
      }
