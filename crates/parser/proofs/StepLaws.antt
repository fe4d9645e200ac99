-- Which byte does what.
use Prim.Native.Nat.{ℕ, ◌+◌}
use mathlib.Core.Path.{◌≡◌, refl, ◌∙◌}
use mathlib.Core.Bool.{false}
use mathlib.Core.Option.{Option, some, none, bind}
use native.Mathlib.Omega.{arith}
use borrow.Author.Tests.{le-leb}
use Rattle.notation.specs.Grammar.{zero_digit, closing}
use Rattle.notation.specs.Reader.{Sign, sign, digit_byte, State, Begun, settle, on_begun, step}
use Rattle.notation.proofs.SignLaws.{Is, a_digit, a_gap, an_opening, a_closing, a_lambda, no_sign, sign_is}

other_sign : {b : ℕ} {s : Sign} (σ : State) → Is b s → digit_byte b ≡ false → (b ≡ closing → ⊥) → bind (settle σ) (on_begun s) ≡ step s σ
unfolding step
other_sign {b} σ (a_digit d e h) x y = let z = rw (e, le-leb zero_digit (zero_digit + d) (omega arith), le-leb (zero_digit + d) (zero_digit + 9) (omega arith)) at x in cc
other_sign σ (a_gap e) x y = refl
other_sign σ (an_opening e) x y = refl
other_sign σ (a_closing e) x y = absurd (y e)
other_sign σ (a_lambda e) x y = refl
other_sign σ no_sign x y = refl

pub step_other : (b : ℕ) (σ : State) → digit_byte b ≡ false → (b ≡ closing → ⊥) → bind (settle σ) (on_begun (sign b)) ≡ step (sign b) σ
step_other b σ x y = other_sign σ (sign_is b) x y

pub settled_none : (b : ℕ) (σ : State) → none ≡ settle σ → digit_byte b ≡ false → (b ≡ closing → ⊥) → none ≡ step (sign b) σ
unfolding bind
settled_none b σ e x y = rw (← e) at (step_other b σ x y)

pub settled_some : (b : ℕ) (σ : State) (g : Begun) {o : Option State} → some g ≡ settle σ → o ≡ on_begun (sign b) g → digit_byte b ≡ false → (b ≡ closing → ⊥)
    → o ≡ step (sign b) σ
unfolding bind
settled_some b σ g e q x y = q ∙ (rw (← e) at (step_other b σ x y))
