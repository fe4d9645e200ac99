-- Bits that are all 0, from their bytes.
use Prim.Native.Nat.{ℕ, zero, suc, ◌+◌, ◌*◌, ◌-◌, ◌/◌, ◌%◌, ◌^◌, ◌≤◌, ◌<◌}
use mathlib.Core.Path.{◌≡◌, refl, sym, ap, ap₂, ◌∙◌}
use mathlib.Core.Bool.{Bool, true, false, not, ◌&&◌}
use mathlib.Core.List.{List, [], ◌∷◌, ◌++◌, append-nil}
use native.Mathlib.Decide.{dec_le}
use native.Mathlib.Nat.{one-le-pow, mod-eq_of_lt}
use native.Mathlib.Numerals.{add-one}
use native.Mathlib.Omega.{arith}
use borrow.Author.Tests.{lt-ltb, le-ltb, eq-eqb, ne_eqb}
use lib.Dec.{eqb, ltb}
use lib.Pow.{pow-add, shl-shr}
use lib.ListN.{length, drop, get_or, drop_of_length-le}
use lib.Seq.{drop-cons, drop-drop, drop-append-le, get_or-drop}
use Rattle.std.specs.List.{list_all}
use Rattle.encoding.specs.Bytes.{byte_bits, digits, unpacked, number}
use Rattle.encoding.specs.Encoded.{all_zero}
use Rattle.encoding.proofs.BytesLaws.{length_digits, number_digits, drop-unpacked, length-unpacked}
use Rattle.bits.proofs.WindowLaws.{AllBytes}

all_zero_append : (xs ys : List Bool) → all_zero (xs ++ ys) ≡ (all_zero xs && all_zero ys)
all_zero_append [] ys = refl
all_zero_append (true ∷ xs) ys = refl
all_zero_append (false ∷ xs) ys = all_zero_append xs ys

all_zero_number : (bs : List Bool) → all_zero bs ≡ eqb (number (length bs) bs) 0
all_zero_number [] = refl
all_zero_number (true ∷ bs) = sym (ne_eqb (number (length (true ∷ bs)) (true ∷ bs)) 0 (λ e. omega (arith, one-le-pow (length bs) 2 (omega arith))))
all_zero_number (false ∷ bs) = let e : number (length bs) bs ≡ 0 * 2 ^ length bs + number (length bs) bs = omega arith in all_zero_number bs ∙ ap (λ n. eqb n 0) e

-- The lowest digits of a number are 0 where it is a multiple.
all_zero_digits : (k n : ℕ) → all_zero (digits k n) ≡ eqb (n % 2 ^ k) 0
all_zero_digits k n =
    all_zero_number (digits k n)
    ∙ ap (λ m. eqb m 0) (ap₂ number (length_digits k n) (sym (append-nil (digits k n))) ∙ number_digits k n [])

drop-digits : (j k n : ℕ) → drop j (digits (j + k) n) ≡ digits k n
drop-digits zero k n = ap (λ m. digits m n) {x = 0 + k} {y = k} (omega arith)
drop-digits (suc j) k n = let e : suc j + k ≡ suc (j + k) = omega arith in rw e (drop-digits j k n)

zero_bytes : (xs : List ℕ) → AllBytes xs → all_zero (unpacked xs) ≡ list_all (λ b. eqb b 0) xs
zero_bytes [] f = refl
zero_bytes (x ∷ xs) f =
    all_zero_append (digits byte_bits x) (unpacked xs)
    ∙ ap₂ ◌&&◌ (all_zero_digits byte_bits x ∙ ap (λ n. eqb n 0) (mod-eq_of_lt (f 0).fits)) (zero_bytes xs (λ i. f (suc i)))

module _ (i : ℕ) (xs : List ℕ) (inside : i < length xs) where
  -- The bits from a byte's place on are those of the byte, and then those behind it.
  byte_first : unpacked (drop i xs) ≡ digits byte_bits (get_or xs i 0) ++ unpacked (drop (i + 1) xs)
  byte_first = rw add-one (ap unpacked (drop-cons xs i 0 inside))

-- A byte's first bits left out of 256.
pub power_shifted : (r : ℕ) → r ≤ byte_bits → 256 / 2 ^ r ≡ 2 ^ (byte_bits - r)
power_shifted r h =
    let d : byte_bits - r + r ≡ byte_bits = omega arith in
    ap (λ n. 2 ^ n / 2 ^ r) (sym d) ∙ ap (λ n. n / 2 ^ r) (pow-add 2 (byte_bits - r) r) ∙ shl-shr (2 ^ (byte_bits - r)) r

-- Bits past a count.
module _ (xs : List ℕ) (count : ℕ) where
  lent : count ≤ byte_bits * length xs → (not (ltb (byte_bits * length xs) count) && all_zero (drop count (unpacked xs))) ≡ all_zero (drop count (unpacked xs))
  lent h = rw (le-ltb (byte_bits * length xs) count h)

  missing : byte_bits * length xs < count → (not (ltb (byte_bits * length xs) count) && all_zero (drop count (unpacked xs))) ≡ false
  missing h = rw (lt-ltb (byte_bits * length xs) count h)

  -- No byte is behind the count's whole bytes.
  pub padding_ends : count / byte_bits ≡ length xs → eqb (count % byte_bits) 0 ≡ (not (ltb (byte_bits * length xs) count) && all_zero (drop count (unpacked xs)))
  padding_ends e =
      elim (dec_le count (byte_bits * length xs)) [
        | yes h ↦
            let none : drop count (unpacked xs) ≡ [] = drop_of_length-le (unpacked xs) (omega (arith, length-unpacked xs)) in
            eq-eqb (count % byte_bits) 0 (omega arith) ∙ sym (lent h ∙ ap all_zero none)
        | no h ↦ ne_eqb (count % byte_bits) 0 (omega arith) ∙ sym (missing (omega arith))
      ]

  -- Fewer bytes are lent than the count has whole.
  pub padding_missing : length xs < count / byte_bits → eqb (count / byte_bits) (length xs) ≡ (not (ltb (byte_bits * length xs) count) && all_zero (drop count (unpacked xs)))
  padding_missing h = ne_eqb (count / byte_bits) (length xs) (omega arith) ∙ sym (missing (omega arith))

  -- A byte is behind them, whose first bits are before the count.
  module _ (inside : count / byte_bits < length xs) (f : AllBytes xs) {byte : ℕ} (here : byte ≡ get_or xs (count / byte_bits) 0) where
    abbrev behind : List ℕ
    behind = drop (count / byte_bits + 1) xs

    past : drop count (unpacked xs) ≡ digits (byte_bits - count % byte_bits) byte ++ unpacked behind
    past =
        let r = count % byte_bits in
        let e : byte_bits * (count / byte_bits) + r ≡ count = omega arith in
        let d : r + (byte_bits - r) ≡ byte_bits = omega arith in
        ap (λ n. drop n (unpacked xs)) (sym e)
        ∙ sym (drop-drop r (byte_bits * (count / byte_bits)) (unpacked xs))
        ∙ ap (drop r) (drop-unpacked (count / byte_bits) xs ∙ byte_first (count / byte_bits) xs inside ∙ ap (λ b. digits byte_bits b ++ unpacked behind) (sym here))
        ∙ drop-append-le r (digits byte_bits byte) (unpacked behind) (omega (arith, length_digits byte_bits byte))
        ∙ ap (λ bs. bs ++ unpacked behind) (ap (λ k. drop r (digits k byte)) (sym d) ∙ drop-digits r (byte_bits - r) byte)

    answer : (not (ltb (byte_bits * length xs) count) && all_zero (drop count (unpacked xs))) ≡ (eqb (byte % (256 / 2 ^ (count % byte_bits))) 0 && list_all (λ b. eqb b 0) behind)
    answer =
        lent (omega arith)
        ∙ ap all_zero past
        ∙ all_zero_append (digits (byte_bits - count % byte_bits) byte) (unpacked behind)
        ∙ ap₂ ◌&&◌
        (all_zero_digits (byte_bits - count % byte_bits) byte ∙ ap (λ n. eqb (byte % n) 0) (sym (power_shifted (count % byte_bits) (omega arith))))
        (zero_bytes behind (λ i. rw (get_or-drop (count / byte_bits + 1) xs i 0) (f (count / byte_bits + 1 + i))))

    pub padding_broken : (byte % (256 / 2 ^ (count % byte_bits)) ≡ 0 → ⊥) → eqb (byte % (256 / 2 ^ (count % byte_bits))) 0 ≡ (not (ltb (byte_bits * length xs) count) && all_zero (drop count (unpacked xs)))
    padding_broken n = let e = ne_eqb (byte % (256 / 2 ^ (count % byte_bits))) 0 n in sym (answer ∙ ap (λ b. b && list_all (λ b. eqb b 0) behind) e ∙ sym e)

    pub padding_kept : byte % (256 / 2 ^ (count % byte_bits)) ≡ 0 → list_all (λ b. eqb b 0) behind ≡ (not (ltb (byte_bits * length xs) count) && all_zero (drop count (unpacked xs)))
    padding_kept e = sym (answer ∙ ap (λ b. b && list_all (λ b. eqb b 0) behind) (eq-eqb (byte % (256 / 2 ^ (count % byte_bits))) 0 e))
