-- The default: what tells it, and the tags and counts that an accepted term may have.
use Prim.Native.Nat.{ℕ, ◌≤◌}
use mathlib.Core.Path.{◌≡◌, refl, sym, ◌∙◌}
use mathlib.Core.Bool.{Bool, true, false, false≢true, and-eq-true_iff}
use mathlib.Core.Logic.{inl, inr, ⊎_elim}
use native.Mathlib.Omega.{arith}
use lib.Dec.{eqb}
use borrow.Author.Tests.{eqb-true}
use Rattle.calculus.specs.Term.{is_default}
use Rattle.calculus.specs.Accepted.{tag_limit, argument_limit, Pattern}
use Rattle.calculus.specs.Theorems.{TagsExact}

pub default_is : (t n : ℕ) → is_default t n ≡ true → (t ≡ 0) × (n ≡ 0)
default_is t n h = let both = (and-eq-true_iff (eqb t 0) (eqb n 0)).0 h in (eqb-true t 0 both.0, eqb-true n 0 both.1)

pub default_told : (t n : ℕ) → t ≡ 0 → n ≡ 0 → is_default t n ≡ true
default_told t n e f = rw (e, f)

pub default_not : (t n : ℕ) → ((t ≡ 0) × (n ≡ 0) → ⊥) → is_default t n ≡ false
default_not t n h = go (is_default t n) refl
  where
    go : (q : Bool) → is_default t n ≡ q → q ≡ false
    go true e = absurd (h (default_is t n e))
    go false e = refl

pub not_default : (t n : ℕ) → is_default t n ≡ false → (t ≡ 0) × (n ≡ 0) → ⊥
not_default t n h z = false≢true (sym h ∙ default_told t n z.0 z.1)

pub pattern_limits : (t n : ℕ) → Pattern t n → (t ≤ tag_limit) × (n ≤ argument_limit)
pattern_limits t n (inl h) = let is = default_is t n h in (omega arith, omega arith)
pattern_limits t n (inr h) = (h.0.1, h.1)

pub tags_exact : TagsExact
tags_exact t n = (
  (λ h. (h.0.0, h.0.1, h.1), λ h. ((h.0, h.1), h.2)),
  (
    λ h. ⊎_elim (λ d. inl (default_is t n d)) (λ k. inr (k.0.0, k.0.1, k.1)) h,
    λ h. ⊎_elim (λ z. inl (default_told t n z.0 z.1)) (λ k. inr ((k.0, k.1), k.2)) h,
  ),
)
