-- A walk over words that keeps the binders around each argument that is to come, as the check of a combinator goes.
use Prim.Native.Nat.{ℕ, suc, ◌+◌, ◌*◌, ◌-◌, ◌≤◌, ◌<◌}
use mathlib.Core.Path.{◌≡◌, refl, sym, ap, ◌∙◌}
use mathlib.Core.Bool.{Bool, true, false, cond, ◌&&◌}
use mathlib.Core.List.{List, [], ◌∷◌, ◌++◌, reverse}
use Rattle.std.proofs.lemmas.List.{reverse-append, length-reverse, length-append}
use native.Mathlib.Numerals.{add-one}
use native.Mathlib.Omega.{arith}
use borrow.Author.Tests.{eq-eqb, ne_eqb, lt-ltb, le-ltb}
use lib.Dec.{eqb, ltb}
use lib.ListN.{length, drop, get_or, length-drop}
use lib.Seq.{drop-cons}
use Rattle.calculus.specs.Words.{variable_kind, abstraction_kind, application_kind, word, kind_of, payload_of, workspace_most}
use Rattle.binary.specs.Words.{are_combinators}

-- The first word tells what the others are asked.
pub at_variable : (d w : ℕ) (ds ws : List ℕ) → kind_of w ≡ variable_kind → are_combinators (d ∷ ds) (w ∷ ws) ≡ (ltb (payload_of w) d && are_combinators ds ws)
at_variable d w ds ws e = rw (eq-eqb (kind_of w) variable_kind e)

pub at-abstraction : (d w : ℕ) (ds ws : List ℕ) → w ≡ word abstraction_kind 0 → are_combinators (d ∷ ds) (w ∷ ws) ≡ are_combinators (suc d ∷ ds) ws
at-abstraction d w ds ws e = rw e

pub at-application : (d w : ℕ) (ds ws : List ℕ) → w ≡ word application_kind 0 → are_combinators (d ∷ ds) (w ∷ ws) ≡ are_combinators (d ∷ d ∷ ds) ws
at-application d w ds ws e = rw e

pub at_other : (d w : ℕ) (ds ws : List ℕ) → (kind_of w ≡ variable_kind → ⊥) → (w ≡ word abstraction_kind 0 → ⊥) → (w ≡ word application_kind 0 → ⊥)
    → are_combinators (d ∷ ds) (w ∷ ws) ≡ false
at_other d w ds ws v l a =
    rw (ne_eqb (kind_of w) variable_kind v, ne_eqb w (word abstraction_kind 0) l, ne_eqb w (word application_kind 0) a)

-- Each of them has a word at least.
none_pass : (a b c x : Bool) {p q r : Bool} → p ≡ false → q ≡ false → r ≡ false → cond a (x && p) (cond b q (cond c r false)) ≡ false
none_pass true b c true p q r = p
none_pass true b c false p q r = refl
none_pass false true c x p q r = q
none_pass false false true x p q r = r
none_pass false false false x p q r = refl

pub too_few : (ws ds : List ℕ) → length ws < length ds → are_combinators ds ws ≡ false
too_few [] [] h = absurd (omega arith)
too_few [] (d ∷ ds) h = refl
too_few (w ∷ ws) [] h = absurd (omega arith)
too_few (w ∷ ws) (d ∷ ds) h =
    none_pass (eqb (kind_of w) variable_kind) (eqb w (word abstraction_kind 0)) (eqb w (word application_kind 0)) (ltb (payload_of w) d)
    (too_few ws ds (omega arith)) (too_few ws (suc d ∷ ds) (omega arith)) (too_few ws (d ∷ d ∷ ds) (omega arith))

-- No number is above a bound.
abbrev pub Below : ℕ → List ℕ → Type 0
Below b [] = Unit {0}
Below b (d ∷ ds) = (d ≤ b) × Below b ds

below_next : (b : ℕ) (ds : List ℕ) → Below b ds → Below (b + 1) ds
below_next b [] h = tt
below_next b (d ∷ ds) h = (omega (arith, h.0), below_next b ds h.1)

-- The walk stands at word i under so many binders, with those around each argument that is to come, the next one last: the words from there on tell what all of
-- them tell.
pub record Walking (ws waiting : List ℕ) (i depth : ℕ) : Type 0 where
  pub tells : are_combinators (depth ∷ reverse waiting) (drop i ws) ≡ are_combinators (0 ∷ []) ws
  pub few : length waiting ≤ i
  pub below : Below i (depth ∷ reverse waiting)

reverse_more : (xs : List ℕ) (x : ℕ) → reverse (xs ++ x ∷ []) ≡ x ∷ reverse xs
reverse_more xs x = rw reverse-append

pub walking_start : (ws : List ℕ) → Walking ws [] 0 0
walking_start ws = record { tells = refl; few = omega arith; below = (omega arith, tt) }

module _ {ws waiting : List ℕ} {i depth : ℕ} (v : Walking ws waiting i depth) (more : i < length ws) where
  abbrev w : ℕ
  w = get_or ws i 0

  told : are_combinators (depth ∷ reverse waiting) (w ∷ drop (suc i) ws) ≡ are_combinators (0 ∷ []) ws
  told = ap (are_combinators (depth ∷ reverse waiting)) (sym (drop-cons ws i 0 more)) ∙ v.tells

  module _ (e : kind_of w ≡ variable_kind) where
    pub walking_free : depth ≤ payload_of w → false ≡ are_combinators (0 ∷ []) ws
    walking_free h =
        sym (at_variable depth w (reverse waiting) (drop (suc i) ws) e ∙ ap (λ b. b && are_combinators (reverse waiting) (drop (suc i) ws)) (le-ltb (payload_of w) depth h)) ∙ told

    module _ (bound : payload_of w < depth) where
      others_told : are_combinators (reverse waiting) (drop (suc i) ws) ≡ are_combinators (0 ∷ []) ws
      others_told =
          sym (at_variable depth w (reverse waiting) (drop (suc i) ws) e ∙ ap (λ b. b && are_combinators (reverse waiting) (drop (suc i) ws)) (lt-ltb (payload_of w) depth bound)) ∙ told

      -- No argument is to come.
      pub walking_last : waiting ≡ [] → eqb (i + 1) (length ws) ≡ are_combinators (0 ∷ []) ws
      walking_last z = go (drop (suc i) ws) (length-drop (suc i) ws) (ap (λ ds. are_combinators (reverse ds) (drop (suc i) ws)) (sym z) ∙ others_told)
        where
          go : (rest : List ℕ) → length rest ≡ length ws - suc i → are_combinators [] rest ≡ are_combinators (0 ∷ []) ws → eqb (i + 1) (length ws) ≡ are_combinators (0 ∷ []) ws
          go [] l q = eq-eqb (i + 1) (length ws) (omega (arith, l, more)) ∙ q
          go (x ∷ xs) l q = ne_eqb (i + 1) (length ws) (λ n. omega (arith, l, n)) ∙ q

      pub walking_pops : (rest : List ℕ) (next : ℕ) → waiting ≡ rest ++ next ∷ [] → Walking ws rest (i + 1) next
      walking_pops rest next is =
          let come : reverse waiting ≡ next ∷ reverse rest = ap reverse is ∙ reverse_more rest next in
          record {
            tells = rw (add-one i, ← come) others_told;
            few = omega (arith, v.few, ap length is, length-append rest (next ∷ []));
            below = rw come at (below_next i (reverse waiting) v.below.1);
          }

  pub walking_under : w ≡ word abstraction_kind 0 → Walking ws waiting (i + 1) (depth + 1)
  walking_under e =
      record {
        tells = rw (add-one i, add-one depth) (sym (at-abstraction depth w (reverse waiting) (drop (suc i) ws) e) ∙ told);
        few = omega (arith, v.few);
        below = (omega (arith, v.below.0), below_next i (reverse waiting) v.below.1);
      }

  module _ (e : w ≡ word application_kind 0) where
    both_told : are_combinators (depth ∷ depth ∷ reverse waiting) (drop (suc i) ws) ≡ are_combinators (0 ∷ []) ws
    both_told = sym (at-application depth w (reverse waiting) (drop (suc i) ws) e) ∙ told

    -- More terms are to come than there are words left.
    pub walking_full : length ws ≤ workspace_most → workspace_most ≤ 2 * length waiting → false ≡ are_combinators (0 ∷ []) ws
    walking_full short full =
        sym (too_few (drop (suc i) ws) (depth ∷ depth ∷ reverse waiting) (omega (arith, length-drop (suc i) ws, length-reverse waiting, v.few))) ∙ both_told

    pub walking_pushes : (after : List ℕ) → after ≡ waiting ++ depth ∷ [] → Walking ws after (i + 1) depth
    walking_pushes after is =
        let come : reverse after ≡ depth ∷ reverse waiting = ap reverse is ∙ reverse_more waiting depth in
        record {
          tells = rw (come, add-one i) both_told;
          few = omega (arith, v.few, ap length is, length-append waiting (depth ∷ []));
          below = rw come (omega (arith, v.below.0), below_next i (depth ∷ reverse waiting) v.below);
        }
