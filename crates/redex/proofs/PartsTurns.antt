-- The parts of a redex, by the words at a position of a workspace: what each turn and each branch of the code finds.
use Prim.Native.Nat.{ℕ, zero, suc, ◌+◌, ◌-◌, ◌≤◌, ◌<◌}
use mathlib.Core.Path.{◌≡◌, refl, sym, ◌∙◌, ap}
use mathlib.Core.Bool.{Bool, true, false, cond}
use mathlib.Core.List.{List, [], ◌∷◌}
use native.Mathlib.Nat.{add-zero}
use native.Mathlib.Numerals.{add-one}
use native.Mathlib.Omega.{arith}
use lib.Dec.{eqb}
use borrow.Author.Tests.{eq-eqb, ne_eqb}
use lib.ListN.{length, get_or, drop, drop_of_length-le}
use lib.Seq.{drop-cons, drop-drop, get_or-drop}
use Rattle.calculus.specs.Term.{is_default}
use Rattle.calculus.specs.Words.{abstraction_kind, application_kind, constructor_kind, case_kind, numeral_kind, kind_of, payload_of, tag_of, count_of}
use Rattle.calculus.specs.Skip.{skip, span}
use Rattle.calculus.specs.Contraction.{by_beta}
use Rattle.calculus.proofs.SkipLaws.{skip-drop}
use Rattle.std.specs.Prelude.{Some, None}
use Rattle.std.specs.Prelude as code
use Rattle.redex.specs.declared.Found.{Found}
use Rattle.redex.specs.declared.Found.TheVariants as found
use Rattle.redex.specs.Rules.{nothing, parted, numbered, or_default, branch_body, with_body, case_parts, parts_behind, parts}

pub branch_body_none : (before : code.Option Found) (t n i : ℕ) (ws : List ℕ) → branch_body before zero t n i ws ≡ before
unfolding branch_body
branch_body_none before t n i ws = refl

pub branch_body_past : (before : code.Option Found) (k t n i : ℕ) (ws : List ℕ) → length ws ≤ i → branch_body before k t n i (drop i ws) ≡ before
unfolding branch_body
branch_body_past before zero t n i ws h = refl
branch_body_past before (suc k) t n i ws h = rw (drop_of_length-le ws h)

-- The branch at i, or those behind it.
branch_body-step : (before : code.Option Found) (k t n i : ℕ) (ws : List ℕ) → i < length ws → (k ≡ 0 → ⊥)
    → branch_body before k t n i (drop i ws)
    ≡ cond (is_default (tag_of (payload_of (get_or ws i 0))) (count_of (payload_of (get_or ws i 0))))
    (branch_body (or_default before (i + 1) (k - 1)) (k - 1) t n (i + 1 + span 1 (drop (i + 1) ws)) (drop (i + 1 + span 1 (drop (i + 1) ws)) ws))
    (cond (eqb t (tag_of (payload_of (get_or ws i 0))))
    (cond (eqb n (count_of (payload_of (get_or ws i 0)))) (Some (found.Listed (i + 1) (k - 1))) None)
    (branch_body before (k - 1) t n (i + 1 + span 1 (drop (i + 1) ws)) (drop (i + 1 + span 1 (drop (i + 1) ws)) ws)))
unfolding branch_body
branch_body-step before zero t n i ws h z = absurd (z refl)
branch_body-step before (suc k) t n i ws h z =
    let e : suc k - 1 ≡ k = omega arith in
    rw (drop-cons ws i 0 h, e, ← drop-drop (span 1 (drop (i + 1) ws)) (i + 1) ws, ← skip-drop 1 (drop (i + 1) ws), add-one i)

-- The branch at i is the default; or it is another that has the tag and binds n variables, or another number; or it has another tag.
module _ (before : code.Option Found) (k t n i : ℕ) (ws : List ℕ) (within : i < length ws) (left : k ≡ 0 → ⊥) {default : Bool}
    (told : default ≡ is_default (tag_of (payload_of (get_or ws i 0))) (count_of (payload_of (get_or ws i 0)))) where
  pub branch_body-default : default ≡ true → {j : ℕ} → j ≡ i + 1 + span 1 (drop (i + 1) ws)
      → branch_body before k t n i (drop i ws) ≡ branch_body (or_default before (i + 1) (k - 1)) (k - 1) t n j (drop j ws)
  branch_body-default d q = branch_body-step before k t n i ws within left ∙ rw (← told, d, q)

  pub branch_body_fits : default ≡ false → t ≡ tag_of (payload_of (get_or ws i 0)) → n ≡ count_of (payload_of (get_or ws i 0))
      → branch_body before k t n i (drop i ws) ≡ Some (found.Listed (i + 1) (k - 1))
  branch_body_fits d p q = branch_body-step before k t n i ws within left ∙ rw (← told, d, eq-eqb _ _ p, eq-eqb _ _ q)

  pub branch_body-other : default ≡ false → t ≡ tag_of (payload_of (get_or ws i 0)) → (n ≡ count_of (payload_of (get_or ws i 0)) → ⊥)
      → branch_body before k t n i (drop i ws) ≡ None
  branch_body-other d p q = branch_body-step before k t n i ws within left ∙ rw (← told, d, eq-eqb _ _ p, ne_eqb _ _ q)

  pub branch_body_later : default ≡ false → (t ≡ tag_of (payload_of (get_or ws i 0)) → ⊥) → {j : ℕ} → j ≡ i + 1 + span 1 (drop (i + 1) ws)
      → branch_body before k t n i (drop i ws) ≡ branch_body before (k - 1) t n j (drop j ws)
  branch_body_later d p q = branch_body-step before k t n i ws within left ∙ rw (← told, d, ne_eqb _ _ p, q)

-- How many branches are behind the one that was found: no more than there are.
abbrev pub behind_of : code.Option Found → ℕ
behind_of None = 0
behind_of (Some (found.Listed body left)) = left
behind_of (Some (found.Default body left)) = left

module _ (all : ℕ) where
  behind_cond : (c : Bool) (r x : code.Option Found) → behind_of r ≤ all → behind_of x ≤ all → behind_of (cond c r x) ≤ all
  behind_cond true r x h g = h
  behind_cond false r x h g = g

  behind-default : (before : code.Option Found) (body left : ℕ) → behind_of before ≤ all → left ≤ all → behind_of (or_default before body left) ≤ all
  behind-default None body left h l = l
  behind-default (Some (found.Listed b m)) body left h l = h
  behind-default (Some (found.Default b m)) body left h l = h

  branch_body-within : (before : code.Option Found) (k t n i : ℕ) (ws : List ℕ) → behind_of before ≤ all → k ≤ all → behind_of (branch_body before k t n i ws) ≤ all
  unfolding branch_body
  branch_body-within before zero t n i ws h m = h
  branch_body-within before (suc k) t n i [] h m = h
  branch_body-within before (suc k) t n i (w ∷ ws) h m =
      behind_cond (is_default (tag_of (payload_of w)) (count_of (payload_of w))) _ _
      (branch_body-within (or_default before (i + 1) k) k t n _ (skip 1 ws) (behind-default before (i + 1) k h (omega arith)) (omega arith))
      (behind_cond (eqb t (tag_of (payload_of w))) _ _ (behind_cond (eqb n (count_of (payload_of w))) (Some (found.Listed (i + 1) k)) None (omega arith) (omega arith))
      (branch_body-within before k t n _ (skip 1 ws) h (omega arith)))

pub branch_body-behind : (k t n i : ℕ) (ws : List ℕ) (r : code.Option Found) → r ≡ branch_body None k t n i ws → behind_of r ≤ k
branch_body-behind k t n i ws r e = rw e (branch_body-within k None k t n i ws (omega arith) (omega arith))

-- The words from a position on, by the first, and by the first two.
pub first_word : (i : ℕ) (ws : List ℕ) (j : ℕ) → i < length ws → j ≡ i + 1 → drop i ws ≡ get_or ws i 0 ∷ drop j ws
first_word i ws j h e = rw (e, add-one) (drop-cons ws i 0 h)

pub first_two : (i : ℕ) (ws : List ℕ) → i + 1 < length ws → drop i ws ≡ get_or ws i 0 ∷ get_or ws (i + 1) 0 ∷ drop (i + 2) ws
first_two i ws h = first_word i ws (i + 1) (omega arith) refl ∙ ap (◌∷◌ (get_or ws i 0)) (first_word (i + 1) ws (i + 2) h (omega arith))

-- A case of a constructor, by what its words and the search among its branches say.
pub case_parts_found : (i w v : ℕ) (ws : List ℕ) {p t n j : ℕ} {r x : code.Option Found}
    → p ≡ payload_of w → t ≡ tag_of (payload_of v) → n ≡ count_of (payload_of v) → j ≡ i + 1 + span 1 (drop (i + 1) ws)
    → r ≡ branch_body None p t n j (drop j ws) → r ≡ x → case_parts i w v (drop (i + 1) ws) ≡ with_body (i + 2) n x
unfolding case_parts
case_parts_found i w v ws e₁ e₂ e₃ e₄ e₅ e₆ =
    rw (← e₆, e₅, e₁, e₂, e₃, e₄, ← drop-drop (span 1 (drop (i + 1) ws)) (i + 1) ws, ← skip-drop 1 (drop (i + 1) ws))

-- A numeral needs no word behind it.
pub parts-numeral : (i : ℕ) (ws : List ℕ) → i < length ws → kind_of (get_or ws i 0) ≡ numeral_kind → parts i (drop i ws) ≡ numbered (payload_of (get_or ws i 0))
unfolding parts
parts-numeral i ws h k = rw (drop-cons ws i 0 h, k)

-- By the first word and those behind it: what is no application of an abstraction, what is no case of a constructor, and other words.
behind-applied : (i w : ℕ) (vs : List ℕ) → kind_of w ≡ application_kind → (kind_of (get_or vs 0 0) ≡ abstraction_kind → ⊥) → parts_behind i w vs ≡ nothing
unfolding parts_behind
behind-applied i w [] p q = refl
behind-applied i w (v ∷ vs) p q = rw (p, ne_eqb _ _ q)

behind_stuck : (i w : ℕ) (vs : List ℕ) → kind_of w ≡ case_kind → (kind_of (get_or vs 0 0) ≡ constructor_kind → ⊥) → parts_behind i w vs ≡ nothing
unfolding parts_behind
behind_stuck i w [] p q = refl
behind_stuck i w (v ∷ vs) p q = rw (p, ne_eqb _ _ q)

behind-other : (i w : ℕ) (vs : List ℕ) → (kind_of w ≡ application_kind → ⊥) → (kind_of w ≡ case_kind → ⊥) → parts_behind i w vs ≡ nothing
unfolding parts_behind
behind-other i w [] p q = refl
behind-other i w (v ∷ vs) p q = rw (ne_eqb _ _ p, ne_eqb _ _ q)

module _ (i : ℕ) (ws : List ℕ) (within : i < length ws) where
  parts_first : (kind_of (get_or ws i 0) ≡ numeral_kind → ⊥) → parts i (drop i ws) ≡ parts_behind i (get_or ws i 0) (drop (i + 1) ws)
  unfolding parts
  parts_first m = rw (first_word i ws (i + 1) within refl, ne_eqb _ _ m)

  next_word : get_or (drop (i + 1) ws) 0 0 ≡ get_or ws (i + 1) 0
  next_word = get_or-drop (i + 1) ws 0 0 ∙ ap (λ k. get_or ws k 0) (add-zero (i + 1))

  pub parts-applied : kind_of (get_or ws i 0) ≡ application_kind → (kind_of (get_or ws (i + 1) 0) ≡ abstraction_kind → ⊥) → parts i (drop i ws) ≡ nothing
  parts-applied p q = parts_first (λ e. omega arith) ∙ behind-applied i _ (drop (i + 1) ws) p (λ e. q (ap kind_of (sym next_word) ∙ e))

  pub parts_stuck : kind_of (get_or ws i 0) ≡ case_kind → (kind_of (get_or ws (i + 1) 0) ≡ constructor_kind → ⊥) → parts i (drop i ws) ≡ nothing
  parts_stuck p q = parts_first (λ e. omega arith) ∙ behind_stuck i _ (drop (i + 1) ws) p (λ e. q (ap kind_of (sym next_word) ∙ e))

  pub parts-other : (kind_of (get_or ws i 0) ≡ application_kind → ⊥) → (kind_of (get_or ws i 0) ≡ case_kind → ⊥) → (kind_of (get_or ws i 0) ≡ numeral_kind → ⊥)
      → parts i (drop i ws) ≡ nothing
  parts-other p q m = parts_first m ∙ behind-other i _ (drop (i + 1) ws) p q

-- The two first words are those of an application of an abstraction, or of a case of a constructor.
module _ (i : ℕ) (ws : List ℕ) (within : i + 1 < length ws) where
  pub parts_beta : kind_of (get_or ws i 0) ≡ application_kind → kind_of (get_or ws (i + 1) 0) ≡ abstraction_kind
      → parts i (drop i ws) ≡ parted by_beta (i + 2) (i + 2 + span 1 (drop (i + 2) ws)) 1 1
  unfolding parts parts_behind
  parts_beta p q = rw (first_two i ws within, p, q)

  pub parts_case : kind_of (get_or ws i 0) ≡ case_kind → kind_of (get_or ws (i + 1) 0) ≡ constructor_kind
      → parts i (drop i ws) ≡ case_parts i (get_or ws i 0) (get_or ws (i + 1) 0) (drop (i + 1) ws)
  unfolding parts parts_behind
  parts_case p q = rw (first_two i ws within, p, q, first_word (i + 1) ws (i + 2) within (omega arith))
