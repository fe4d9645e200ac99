-- What a caller shows and learns, from the terms that it knows to stand in the workspace.
use Prim.Native.Nat.{ℕ, ◌≤◌}
use mathlib.Core.Path.{◌≡◌, sym, ◌∙◌, ap, ap₂}
use mathlib.Core.List.{List, [], ◌∷◌, ◌++◌}
use native.Mathlib.Nat.{add-zero}
use lib.IntN.{ℤ}
use lib.ListN.{length, drop, take-append-drop}
use lib.Seq.{take-append_seam}
use Rattle.calculus.specs.Term.{Sort, Exp, Term, Terms, count}
use Rattle.calculus.specs.Words.{workspace_most, words, size}
use Rattle.calculus.specs.Accepted.{argument_limit, index_limit}
use Rattle.calculus.specs.First.{first_term, first_terms}
use Rattle.calculus.specs.Shift.{shift}
use Rattle.calculus.specs.Substitution.{subst}
use Rattle.calculus.specs.Theorems.{Packable, IndicesWithin}
use Rattle.calculus.specs.Skip.{span}
use Rattle.calculus.proofs.FirstLaws.{span-items, first_term-words, first_terms-words}
use Rattle.walk.specs.Index.{Movable}
use Rattle.walk.specs.Depths.{depths}
use Rattle.walk.specs.Rewritten.{shifting, substituting}
use Rattle.substitution.specs.Results.{Starts, shifted, Shiftable, substituted, Substitutable}
use Rattle.calculus.proofs.MarkedWords.{inside, Every}
use Rattle.substitution.proofs.Traversal.{marked, marked_term, flat, flat_shift, flat_subst, MovableWord, movable_inside}

pub starts_words : {s : Sort} (e : Exp s) {ws : List ℕ} (vs : List ℕ) → ws ≡ words e ++ vs → Packable e → Starts ws e
starts_words e vs q h = record { first = rw q (take-append_seam (words e) vs); packable = h }

pub starts_split : {s : Sort} (e : Exp s) (ws : List ℕ) → Starts ws e → ws ≡ words e ++ drop (size e) ws
starts_split e ws h = sym (take-append-drop (size e) ws) ∙ ap (λ us. us ++ drop (size e) ws) h.first

-- The words that the code finds at the start, each with the binders around it, and what rewriting them gives.
module _ (t : Term) (ws : List ℕ) (h : Starts ws t) where
  pub marked_starts : marked (depths (0 ∷ []) ws) ws ≡ inside 0 t
  marked_starts = ap (λ us. marked (depths (0 ∷ []) us) us) (starts_split t ws h) ∙ marked_term t (drop (size t) ws) h.packable

  pub movable_starts : (z : ℤ) → Movable z 0 t → Every (MovableWord z) (marked (depths (0 ∷ []) ws) ws)
  movable_starts z m = rw marked_starts (movable_inside z 0 t m)

  pub shift_starts : (z : ℤ) → flat (shifting z) (marked (depths (0 ∷ []) ws) ws) ≡ words (shift z 0 t)
  shift_starts z = ap (flat (shifting z)) marked_starts ∙ flat_shift z t

  pub subst_starts : (xs : Terms) → flat (substituting xs) (marked (depths (0 ∷ []) ws) ws) ≡ words (subst xs 0 t)
  subst_starts xs = ap (flat (substituting xs)) marked_starts ∙ flat_subst xs t

-- The arguments end where as many items end.
pub arguments-size : {ws : List ℕ} {body args n : ℕ} → Substitutable ws body args n → span n (drop args ws) ≡ size (first_terms n (drop args ws))
arguments-size {ws} {args = args} {n} h =
    let xs = first_terms n (drop args ws) in
    ap (span n) (starts_split xs (drop args ws) h.args_start)
    ∙ span-items xs (drop (size xs) (drop args ws)) (add-zero (count xs) ∙ h.args_count) h.args_start.packable

-- A term t at position `at`.
module _ (ws : List ℕ) (at : ℕ) (t : Term) (vs : List ℕ) (stands : drop at ws ≡ words t ++ vs) (packable : Packable t) where
  first_at : first_term (drop at ws) ≡ t
  first_at = ap first_term stands ∙ first_term-words t vs packable

  pub shifted_at : (z : ℤ) → shifted ws at z ≡ shift z 0 t
  unfolding shifted
  shifted_at z = ap (shift z 0) first_at

  pub shiftable_at : (z : ℤ) → length ws ≤ workspace_most → Movable z 0 t → Shiftable ws at z
  shiftable_at z short movable =
      record {
        short = short;
        starts = rw first_at (starts_words t vs stands packable);
        movable = rw first_at movable;
      }

-- A body b and the n arguments xs at their positions.
module _
    (ws : List ℕ) (body args n : ℕ) (b : Term) (xs : Terms) (us vs : List ℕ)
    (body_stands : drop body ws ≡ words b ++ us) (body-packable : Packable b)
    (args-stand : drop args ws ≡ words xs ++ vs) (args-packable : Packable xs) (args_count : count xs ≡ n)
  where
    firsts_at : first_terms n (drop args ws) ≡ xs
    firsts_at = ap₂ first_terms (sym args_count) args-stand ∙ first_terms-words xs vs args-packable

    pub substituted-at : substituted ws body args n ≡ subst xs 0 b
    unfolding substituted
    substituted-at = ap₂ (λ ys c. subst ys 0 c) firsts_at (first_at ws body b us body_stands body-packable)

    pub substitutable_at : length ws ≤ workspace_most → n ≤ argument_limit → IndicesWithin index_limit xs → Substitutable ws body args n
    substitutable_at short few indices =
        record {
          short = short;
          few = few;
          body_starts = rw (first_at ws body b us body_stands body-packable) (starts_words b us body_stands body-packable);
          args_start = rw firsts_at (starts_words xs vs args-stand args-packable);
          args_count = rw firsts_at args_count;
          args_indices = rw firsts_at indices;
        }
