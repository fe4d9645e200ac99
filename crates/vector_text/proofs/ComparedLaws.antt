-- Comparing words, one place after the other.
use Rattle.std.proofs.Common.{ℕ, zero, suc, ◌+◌, ◌≤◌, ◌<◌, ◌≡◌, refl, Bool, true, false, List, [], ◌∷◌, length, get_or, arith, eqb, eq-eqb, eqb-true, add-zero, zero-add, add-suc, suc-add}
use Rattle.std.specs.Bool.{Decides}
use Rattle.std.proofs.lemmas.Bool.Decides.{same_from_decides}
use Rattle.std.specs.List.{EachIndex}
use borrow.Author.Tests.{le-leb, lt-leb}
use Rattle.vector_text.specs.Compared.{word_at, agree, are_words}

-- Words agree where each is the one that is due.
pub each_agrees : (due : ℕ → ℕ) (i : ℕ) (ws : List ℕ) → EachIndex ws (λ k. get_or ws k 0 ≡ due (i + k)) → agree due i ws ≡ true
unfolding agree
each_agrees due i [] h = refl
each_agrees due i (w ∷ ws) h =
    let here : w ≡ due i = rw add-zero at (h 0 (omega arith)) in
    let rest : agree due (suc i) ws ≡ true = each_agrees due (suc i) ws (λ k below. rw (suc-add, ← add-suc) (h (suc k) (omega arith))) in
    rw (eq-eqb w (due i) here, rest)

pub agree_each : (due : ℕ → ℕ) (i : ℕ) (ws : List ℕ) → agree due i ws ≡ true → EachIndex ws (λ k. get_or ws k 0 ≡ due (i + k))
unfolding agree
agree_each due i [] e k h = absurd (omega arith)
agree_each due i (w ∷ ws) e zero h = let here : eqb w (due i) ≡ true = grind arith in rw add-zero (eqb-true w (due i) here)
agree_each due i (w ∷ ws) e (suc k) h =
    let rest : agree due (suc i) ws ≡ true = grind arith in
    rw (add-suc, ← suc-add) (agree_each due (suc i) ws rest k (omega arith))

-- A test of all words.
pub agree_test : (due : ℕ → ℕ) (ws : List ℕ) (b : Bool) → Decides b (EachIndex ws (λ k. get_or ws k 0 ≡ due k)) → b ≡ agree due 0 ws
agree_test due ws b h =
    same_from_decides b (agree due 0 ws) h ((λ e k below. simp zero-add at (agree_each due 0 ws e k below)), (λ f. each_agrees due 0 ws (λ k below. rw zero-add (f k below))))

module _ (ws list : List ℕ) (count tail : ℕ) where
  pub too_few : length ws < count → are_words ws list count tail ≡ false
  unfolding are_words
  too_few h = rw (lt-leb count (length ws) h)

  pub by_places : {b : Bool} → count ≤ length ws → agree (word_at list count tail) 0 ws ≡ b → are_words ws list count tail ≡ b
  unfolding are_words
  by_places h e = rw (le-leb count (length ws) h) e
