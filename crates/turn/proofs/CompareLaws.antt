-- Comparing two terms word by word, from words that are known to be the same on.
use Prim.Native.Nat.{ℕ, suc, ◌≤◌, min}
use mathlib.Core.Path.{◌≡◌, refl, sym, ◌∙◌, ap}
use mathlib.Core.Bool.{Bool, true, false}
use mathlib.Core.List.{List}
use native.Mathlib.Omega.{arith}
use lib.Dec.{leb}
use lib.ListN.{length, take, get_or, length-take}
use lib.Seq.{take_all, get_or-take}
use borrow.Author.Tests.{leb-true, leb-false}
use Rattle.calculus.specs.Comparison.{Comparison, equal, differ, compare_words, position_of}
use Rattle.calculus.proofs.ComparisonLaws.{comparison_exact}
use Rattle.turn.specs.Compare.{Agrees}

pub agrees_none : (ws vs : List ℕ) → Agrees 0 ws vs
agrees_none ws vs = record { left_has = omega arith; right_has = omega arith; same = refl }

-- A list that ends before the first difference is the other one.
within : (p : ℕ) (ws vs : List ℕ) → take p ws ≡ take p vs → (take (suc p) ws ≡ take (suc p) vs → ⊥) → p ≤ length ws
within p ws vs same apart = by (leb p (length ws)) refl
  where
    by : (b : Bool) → leb p (length ws) ≡ b → p ≤ length ws
    by true e = leb-true p (length ws) e
    by false e =
        let short = leb-false p (length ws) e in
        let short' : length vs ≤ p = omega (arith, length-take p ws, length-take p vs, ap length same) in
        absurd (apart (ap (take (suc p)) (sym (take_all p ws (omega arith)) ∙ same ∙ take_all p vs short')))

-- The words before the position where two lists differ are the same.
pub compared_agrees : (ws vs : List ℕ) → Agrees (position_of (compare_words ws vs)) ws vs
compared_agrees ws vs = by (compare_words ws vs) refl
  where
    by : (c : Comparison) → compare_words ws vs ≡ c → Agrees (position_of c) ws vs
    by equal e = agrees_none ws vs
    by (differ p) e =
        let (same, apart) = ((comparison_exact ws vs).1 p).0 e in
        record { left_has = within p ws vs same apart; right_has = within p vs ws (sym same) (λ q. apart (sym q)); same = same }

-- Two lists of which the first i words are the same.
module _ {ws vs : List ℕ} (i : ℕ) (a : Agrees i ws vs) where
  pub compare-other : (get_or ws i 0 ≡ get_or vs i 0 → ⊥) → compare_words ws vs ≡ differ i
  compare-other d =
      ((comparison_exact ws vs).1 i).1
      (a.same, λ e. d (sym (get_or-take (suc i) ws i 0 (omega arith)) ∙ ap (λ us. get_or us i 0) e ∙ get_or-take (suc i) vs i 0 (omega arith)))

  module _ (ended : min (length ws) (length vs) ≤ i) where
    pub compare_equal : length ws ≡ length vs → compare_words ws vs ≡ equal
    compare_equal e = (comparison_exact ws vs).0.1 (sym (take_all i ws (omega arith)) ∙ a.same ∙ take_all i vs (omega arith))

    ended_there : i ≡ min (length ws) (length vs)
    ended_there = omega (arith, a.left_has, a.right_has)

    pub compare_longer : (length ws ≡ length vs → ⊥) → compare_words ws vs ≡ differ (min (length ws) (length vs))
    compare_longer d =
        ((comparison_exact ws vs).1 i).1
        (a.same, λ e. d (omega (arith, a.left_has, a.right_has, length-take (suc i) ws, length-take (suc i) vs, ap length e)))
        ∙ ap differ ended_there
