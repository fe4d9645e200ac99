-- A single word rewritten, by what it is.
use Prim.Native.Nat.{ℕ, ◌-◌, ◌≤◌, ◌<◌}
use mathlib.Core.Path.{◌≡◌, refl, sym, ◌∙◌, ap}
use mathlib.Core.Bool.{Bool, true, false, cond}
use mathlib.Core.List.{[], ◌∷◌}
use native.Mathlib.Decide.{ℕ_discrete}
use native.Mathlib.Omega.{arith}
use borrow.Author.Tests.{lt-ltb, le-ltb, ltb-true, ltb-false, ne_eqb}
use lib.Dec.{eqb, ltb}
use lib.IntN.{ℤ}
use lib.ListN.{length}
use Rattle.std.specs.Prelude.{Some, None}
use Rattle.calculus.specs.Term.{Term}
use Rattle.calculus.specs.Words.{variable_kind, kind_of, payload_of, word, words}
use Rattle.calculus.specs.Shift.{move}
use Rattle.calculus.proofs.WordLaws.{word_of_parts}
use Rattle.walk.specs.Rewritten.{shifting, rewritten, place, argument_at}

pub rewritten_variable : (f : ℕ → ℕ → Term) (d w : ℕ) → kind_of w ≡ variable_kind → rewritten f d w ≡ words (f d (payload_of w))
unfolding rewritten
rewritten_variable f d w h = rw h

pub rewritten-other : (f : ℕ → ℕ → Term) (d w : ℕ) → (kind_of w ≡ variable_kind → ⊥) → rewritten f d w ≡ w ∷ []
unfolding rewritten
rewritten-other f d w h = rw (ne_eqb (kind_of w) variable_kind h)

-- The word of a variable, from its kind and payload.
pub variable_word : (w : ℕ) → kind_of w ≡ variable_kind → word variable_kind (payload_of w) ≡ w
variable_word w h = ap (λ k. word k (payload_of w)) (sym h) ∙ word_of_parts w

pub shifting_free : (z : ℤ) (d w : ℕ) → kind_of w ≡ variable_kind → d ≤ payload_of w
    → rewritten (shifting z) d w ≡ word variable_kind (move z (payload_of w)) ∷ []
shifting_free z d w h g = rw (rewritten_variable (shifting z) d w h, le-ltb (payload_of w) d g)

pub shifting-bound : (z : ℤ) (d w : ℕ) → kind_of w ≡ variable_kind → payload_of w < d → rewritten (shifting z) d w ≡ w ∷ []
shifting-bound z d w h g = rw (rewritten_variable (shifting z) d w h, lt-ltb (payload_of w) d g, variable_word w h)

-- A shift keeps the number of words.
pub shifting-length : (z : ℤ) (d w : ℕ) → length (rewritten (shifting z) d w) ≡ 1
shifting-length z d w = go (ℕ_discrete (kind_of w) variable_kind)
  where
    go : Dec (kind_of w ≡ variable_kind) → length (rewritten (shifting z) d w) ≡ 1
    go (yes v) = ap length (rewritten_variable (shifting z) d w v)
    go (no v) = ap length (rewritten-other (shifting z) d w v)

-- Which argument, if any, stands for a word.
pub place-argument : (n d w : ℕ) → kind_of w ≡ variable_kind → d ≤ payload_of w → payload_of w - d < n → place n d w ≡ n - 1 - (payload_of w - d)
unfolding place
place-argument n d w h g l = rw (h, le-ltb (payload_of w) d g, lt-ltb (payload_of w - d) n l)

pub place_past : (n d w : ℕ) → kind_of w ≡ variable_kind → d ≤ payload_of w → n ≤ payload_of w - d → place n d w ≡ n
unfolding place
place_past n d w h g l = rw (h, le-ltb (payload_of w) d g, le-ltb (payload_of w - d) n l)

pub place-bound : (n d w : ℕ) → kind_of w ≡ variable_kind → payload_of w < d → place n d w ≡ n
unfolding place
place-bound n d w h g = rw (h, lt-ltb (payload_of w) d g)

pub place_other : (n d w : ℕ) → (kind_of w ≡ variable_kind → ⊥) → place n d w ≡ n
unfolding place
place_other n d w h = rw (ne_eqb (kind_of w) variable_kind h)

-- The argument that stands for a word is told by its place.
pub argument_stands : (n d w : ℕ) {j : ℕ} → place n d w ≡ j → j < n → argument_at n d w ≡ Some j
argument_stands n d w {j} e l = rw (e, lt-ltb j n l)

pub argument_none : (n d w : ℕ) → place n d w ≡ n → argument_at n d w ≡ None
argument_none n d w e = rw (e, le-ltb n n (omega arith))

pub argument_place : (n d w : ℕ) {j : ℕ} → argument_at n d w ≡ Some j → (j ≡ place n d w) × (j < n)
argument_place n d w {j} e = go (ltb (place n d w) n) refl e
  where
    go : (b : Bool) → ltb (place n d w) n ≡ b → cond b (Some (place n d w)) None ≡ Some j → (j ≡ place n d w) × (j < n)
    go true t f = let p : j ≡ place n d w = cc in (p, omega (arith, ltb-true (place n d w) n t))
    go false t f = cc

-- A place is below n or n.
pub place_most : (n d w : ℕ) → place n d w ≤ n
unfolding place
place_most n d w = go (eqb (kind_of w) variable_kind) (ltb (payload_of w) d) (ltb (payload_of w - d) n)
  where
    go : (x y z : Bool) → cond x (cond y n (cond z (n - 1 - (payload_of w - d)) n)) n ≤ n
    go true true z = omega arith
    go true false true = omega arith
    go true false false = omega arith
    go false y z = omega arith

pub no_argument : (n d w : ℕ) → argument_at n d w ≡ None → place n d w ≡ n
no_argument n d w e = go (ltb (place n d w) n) refl e
  where
    go : (b : Bool) → ltb (place n d w) n ≡ b → cond b (Some (place n d w)) None ≡ None → place n d w ≡ n
    go true t f = cc
    go false t f = omega (arith, ltb-false (place n d w) n t, place_most n d w)

-- None of no arguments stands for a word.
pub none_of_none : (d w : ℕ) → argument_at 0 d w ≡ None
none_of_none d w = argument_none 0 d w (omega (arith, place_most 0 d w))
