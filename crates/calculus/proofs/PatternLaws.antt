-- The tests for tags are exact; and the default has payload 0.
use Prim.Native.Nat.{ℕ}
use mathlib.Core.Path.{◌≡◌, refl}
use mathlib.Core.Bool.{Bool, true, false, ◌||◌, and-eq-true_iff}
use mathlib.Core.Logic.{inl, inr}
use native.Mathlib.Omega.{arith}
use lib.Dec.{leb, eqb}
use borrow.Author.Tests.{leb-true, le-leb, eqb-true, eqb-false}
use Rattle.calculus.specs.Term.{is_default}
use Rattle.calculus.specs.Words.{tag_of, count_of}
use Rattle.calculus.specs.Accepted.{tag_limit, argument_limit, IsTag, Tagged, Pattern}
use Rattle.calculus.proofs.DefaultLaws.{default_told, default_not}
use Rattle.calculus.specs.Pattern.{is_tag, is_tagged, is_pattern}

pub tag_passes : (t : ℕ) → IsTag t → is_tag t ≡ true
tag_passes t h = (and-eq-true_iff _ _).1 (le-leb 1 t h.0, le-leb t tag_limit h.1)

pub tag_fits : (t : ℕ) → is_tag t ≡ true → IsTag t
tag_fits t h = let both = (and-eq-true_iff (leb 1 t) (leb t tag_limit)).0 h in (leb-true 1 t both.0, leb-true t tag_limit both.1)

pub tagged_passes : (t n : ℕ) → Tagged t n → is_tagged t n ≡ true
tagged_passes t n h = (and-eq-true_iff _ _).1 (tag_passes t h.0, le-leb n argument_limit h.1)

pub tagged_fits : (t n : ℕ) → is_tagged t n ≡ true → Tagged t n
tagged_fits t n h = let both = (and-eq-true_iff (is_tag t) (leb n argument_limit)).0 h in (tag_fits t both.0, leb-true n argument_limit both.1)

pub pattern_passes : (t n : ℕ) → Pattern t n → is_pattern t n ≡ true
pattern_passes t n (inl h) = rw h
pattern_passes t n (inr h) = rw (tagged_passes t n h) (either (is_default t n))
  where
    either : (b : Bool) → (b || true) ≡ true
    either true = refl
    either false = refl

pub pattern_fits : (t n : ℕ) → is_pattern t n ≡ true → Pattern t n
pattern_fits t n = go (is_default t n) refl
  where
    go : (b : Bool) → is_default t n ≡ b → (b || is_tagged t n) ≡ true → Pattern t n
    go true d h = inl d
    go false d h = inr (tagged_fits t n h)

pub default-payload : (p : ℕ) → is_default (tag_of p) (count_of p) ≡ eqb p 0
default-payload p = go (eqb p 0) refl
  where
    go : (b : Bool) → eqb p 0 ≡ b → is_default (tag_of p) (count_of p) ≡ b
    go true e = let z = eqb-true p 0 e in default_told (tag_of p) (count_of p) (omega arith) (omega arith)
    go false e = default_not (tag_of p) (count_of p) (λ z. eqb-false p 0 e (omega (arith, z.0, z.1)))
