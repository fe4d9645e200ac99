-- Each byte of the grammar is its sign, and a sign tells its byte.
use Prim.Native.Nat.{ℕ, ◌+◌, ◌-◌, ◌≤◌}
use mathlib.Core.Path.{◌≡◌, refl, ap}
use mathlib.Core.Bool.{Bool, true, false, cond, ◌&&◌}
use native.Mathlib.Omega.{arith}
use lib.Dec.{eqb, leb}
use borrow.Author.Tests.{leb-true, le-leb, eqb-true, ne_eqb}
use Rattle.notation.specs.Grammar.{space, opening, closing, zero_digit, backslash}
use Rattle.notation.specs.Reader.{Sign, digit, gap, opens, closes, lambda, other, sign}

pub sign-digit : (d : ℕ) → d ≤ 9 → sign (zero_digit + d) ≡ digit d
unfolding sign
sign-digit d h =
    rw (
      ne_eqb (zero_digit + d) space (λ e. omega arith),
      ne_eqb (zero_digit + d) opening (λ e. omega arith),
      ne_eqb (zero_digit + d) closing (λ e. omega arith),
      ne_eqb (zero_digit + d) backslash (λ e. omega arith),
      le-leb zero_digit (zero_digit + d) (omega arith),
      le-leb (zero_digit + d) (zero_digit + 9) (omega arith),
    )
    (let q : (zero_digit + d) - zero_digit ≡ d = omega arith in ap digit q)

pub data Is : ℕ → Sign → Type 0 where
  a_digit : {b : ℕ} (d : ℕ) → b ≡ zero_digit + d → d ≤ 9 → Is b (digit d)
  a_gap : {b : ℕ} → b ≡ space → Is b gap
  an_opening : {b : ℕ} → b ≡ opening → Is b opens
  a_closing : {b : ℕ} → b ≡ closing → Is b closes
  a_lambda : {b : ℕ} → b ≡ backslash → Is b lambda
  no_sign : {b : ℕ} → Is b other

is_eqb : (b c : ℕ) {s u : Sign} → (b ≡ c → Is b s) → Is b u → Is b (cond (eqb b c) s u)
is_eqb b c {s} {u} p q = go (eqb b c) refl
  where
    go : (x : Bool) → eqb b c ≡ x → Is b (cond x s u)
    go true r = p (eqb-true b c r)
    go false r = q

is_digit : (b : ℕ) (x y : Bool) → leb zero_digit b ≡ x → leb b (zero_digit + 9) ≡ y → Is b (cond (x && y) (digit (b - zero_digit)) other)
is_digit b true true p q = let h = leb-true zero_digit b p in let g = leb-true b (zero_digit + 9) q in a_digit {b = b} (b - zero_digit) (omega arith) (omega arith)
is_digit b true false p q = no_sign
is_digit b false y p q = no_sign

pub sign_is : (b : ℕ) → Is b (sign b)
unfolding sign
sign_is b = is_eqb b space a_gap (is_eqb b opening an_opening (is_eqb b closing a_closing (is_eqb b backslash a_lambda (is_digit b _ _ refl refl))))
