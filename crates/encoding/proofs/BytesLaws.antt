-- Bits as digits of numbers, and in bytes: the digits of a number and the number of digits are inverse, and so are the bits of bytes and the bytes of bits.
use Prim.Native.Nat.{ℕ, zero, suc, ◌+◌, ◌*◌, ◌-◌, ◌/◌, ◌%◌, ◌^◌, ◌≤◌, ◌<◌}
use mathlib.Core.Path.{◌≡◌, refl, sym, ap, ap₂, ◌∙◌}
use mathlib.Core.Bool.{Bool, true, false}
use mathlib.Core.List.{List, [], ◌∷◌, ◌++◌}
use native.Mathlib.Nat.{zero-add, suc-add, zero-sub, sub-zero, suc-sub-suc, add-mul, mul_assoc, pow-succ', two-pow-succ, one-le-pow, zero-div, mul-add-div_right, mod-eq_of_lt}
use native.Mathlib.Numerals.{one-add}
use native.Mathlib.Omega.{arith}
use lib.Dec.{eqb}
use lib.ListN.{length, take, drop, replicate, length-drop, replicate-append-replicate}
use lib.Seq.{drop-nil, drop-append-add}
use lib.Pow.{pow-add, high, mod-pow-add}
use borrow.Author.Tests.{eqb-true, eqb-false}
use Rattle.encoding.specs.Bytes.{byte_bits, digits, unpacked, digit, number, packed, Bytes}

pub length_digits : (k n : ℕ) → length (digits k n) ≡ k
length_digits zero n = refl
length_digits (suc k) n = ap suc (length_digits k n)

-- The test of a digit gives the digit.
digit-eqb : (x : ℕ) → digit (eqb (x % 2) 1) ≡ x % 2
digit-eqb x = go (eqb (x % 2) 1) refl
  where
    go : (b : Bool) → eqb (x % 2) 1 ≡ b → digit b ≡ x % 2
    go true e = sym (eqb-true (x % 2) 1 e)
    go false e = let odd-not = eqb-false (x % 2) 1 e in omega arith

pub number_digits : (k n : ℕ) (rest : List Bool) → number k (digits k n ++ rest) ≡ n % 2 ^ k
number_digits zero n rest = omega arith
number_digits (suc k) n rest = rw (digit-eqb (n / 2 ^ k), number_digits k n rest) (sym (rw one-add at (mod-pow-add n 1 k)))

pub number_below : (k : ℕ) (bs : List Bool) → number k bs < 2 ^ k
number_below zero bs = omega arith
number_below (suc k) [] = one-le-pow (suc k) 2 (omega arith)
number_below (suc k) (true ∷ bs) = omega (arith, two-pow-succ k, number_below k bs)
number_below (suc k) (false ∷ bs) = omega (arith, two-pow-succ k, number_below k bs)

-- Higher digits do not matter.
digits_high : (k c n : ℕ) → digits k (c * 2 ^ k + n) ≡ digits k n
digits_high zero c n = refl
digits_high (suc k) c n =
    let p = 2 ^ k in
    let doubled : c * 2 ^ suc k ≡ c * 2 * p = ap (λ q. c * q) (pow-succ' 2 k) ∙ sym (mul_assoc c 2 p) in
    let quotient : (c * 2 * p + n) / p ≡ c * 2 + n / p = mul-add-div_right (one-le-pow k 2 (omega arith)) (c * 2) n in
    let same : (c * 2 * p + n) / p % 2 ≡ n / p % 2 = omega arith in
    rw (doubled, same, digits_high k (c * 2) n)

digits_zero : (k : ℕ) → digits k 0 ≡ replicate k false
digits_zero zero = refl
digits_zero (suc k) = rw (zero-div, digits_zero k)

digit_first : (k : ℕ) (b : Bool) {n : ℕ} → n < 2 ^ k → eqb ((digit b * 2 ^ k + n) / 2 ^ k % 2) 1 ≡ b
digit_first k b h = rw (high (digit b) k h) (go b)
  where
    go : (b : Bool) → eqb (digit b % 2) 1 ≡ b
    go true = refl
    go false = refl

-- The first k bits, and 0 for those that are missing.
pub digits_number : (k : ℕ) (bs : List Bool) → digits k (number k bs) ≡ take k bs ++ replicate (k - length bs) false
digits_number zero bs = rw zero-sub
digits_number (suc k) [] = rw sub-zero (digits_zero (suc k))
digits_number (suc k) (b ∷ bs) =
    rw (digit_first k b (number_below k bs), digits_high k (digit b) (number k bs), suc-sub-suc) (ap (λ cs. b ∷ cs) (digits_number k bs))

pub number-nil : (k : ℕ) → number k [] ≡ 0
number-nil zero = refl
number-nil (suc k) = refl

-- Bits that are missing are 0.
pub number-padded : (k m : ℕ) (bs : List Bool) → number k (bs ++ replicate m false) ≡ number k bs
number-padded zero m bs = refl
number-padded (suc k) zero [] = refl
number-padded (suc k) (suc m) [] = omega (arith, number-padded k m [], number-nil k)
number-padded (suc k) m (b ∷ bs) = ap (λ n. digit b * 2 ^ k + n) (number-padded k m bs)

-- The first j digits stand above the next k.
pub number_split : (j k : ℕ) (bs : List Bool) → number (j + k) bs ≡ number j bs * 2 ^ k + number k (drop j bs)
number_split zero k bs = rw zero-add (omega arith)
number_split (suc j) k [] = rw (number-nil (suc j + k), number-nil k) (omega arith)
number_split (suc j) k (b ∷ bs) =
    rw (suc-add, number_split j k bs, pow-add 2 j k, add-mul) (omega (arith, mul_assoc (digit b) (2 ^ j) (2 ^ k)))

pub length-unpacked : (bytes : List ℕ) → length (unpacked bytes) ≡ byte_bits * length bytes
length-unpacked [] = refl
length-unpacked (b ∷ bs) = omega (arith, length-unpacked bs)

pub length-packed : (n : ℕ) (bs : List Bool) → length (packed n bs) ≡ n
length-packed zero bs = refl
length-packed (suc n) bs = ap suc (length-packed n (drop byte_bits bs))

pub bytes_packed : (n : ℕ) (bs : List Bool) → Bytes (packed n bs)
bytes_packed zero bs = tt
bytes_packed (suc n) bs = (number_below byte_bits bs, bytes_packed n (drop byte_bits bs))

pub drop-unpacked : (k : ℕ) (bytes : List ℕ) → drop (byte_bits * k) (unpacked bytes) ≡ unpacked (drop k bytes)
drop-unpacked zero bytes = refl
drop-unpacked (suc k) [] = drop-nil (byte_bits * suc k)
drop-unpacked (suc k) (b ∷ bs) =
    let e : byte_bits * suc k ≡ byte_bits + byte_bits * k = omega arith in
    ap (λ n. drop n (unpacked (b ∷ bs))) e ∙ drop-append-add (digits byte_bits b) (unpacked bs) (byte_bits * k) ∙ drop-unpacked k bs

pub packed-unpacked : (bytes : List ℕ) → Bytes bytes → packed (length bytes) (unpacked bytes) ≡ bytes
packed-unpacked [] h = refl
packed-unpacked (b ∷ bs) h = ap₂ (λ n ns. n ∷ ns) (number_digits byte_bits b (unpacked bs) ∙ mod-eq_of_lt h.0) (packed-unpacked bs h.1)

-- Bits filled up after the first k of them and after the rest are filled up once.
filled_twice : (k m : ℕ) (bs : List Bool)
    → (take k bs ++ replicate (k - length bs) false) ++ (drop k bs ++ replicate (m - length (drop k bs)) false) ≡ bs ++ replicate (k + m - length bs) false
filled_twice zero m bs = rw (zero-sub, zero-add)
filled_twice (suc k) m [] = simp sub-zero (replicate-append-replicate (suc k) m false)
filled_twice (suc k) m (b ∷ bs) = rw (suc-sub-suc, suc-add, suc-sub-suc) (ap (λ cs. b ∷ cs) (filled_twice k m bs))

pub unpacked-packed : (n : ℕ) (bs : List Bool) → length bs ≤ byte_bits * n → unpacked (packed n bs) ≡ bs ++ replicate (byte_bits * n - length bs) false
unpacked-packed zero [] h = refl
unpacked-packed zero (b ∷ bs) h = absurd (omega arith)
unpacked-packed (suc n) bs h =
    let e : byte_bits + byte_bits * n ≡ byte_bits * suc n = omega arith in
    ap₂ (λ cs ds. cs ++ ds) (digits_number byte_bits bs) (unpacked-packed n (drop byte_bits bs) (omega (arith, length-drop byte_bits bs)))
    ∙ filled_twice byte_bits (byte_bits * n) bs
    ∙ ap (λ k. bs ++ replicate (k - length bs) false) e

-- What is left of bits with zeros after them is what is left of the bits, with zeros after it.
drop-padded : (k m : ℕ) (bs : List Bool) → (l : ℕ) × (drop k (bs ++ replicate m false) ≡ drop k bs ++ replicate l false)
drop-padded zero m bs = (m, refl)
drop-padded (suc k) zero [] = (0, refl)
drop-padded (suc k) (suc m) [] = let r = drop-padded k m [] in (r.0, rw drop-nil at r.1)
drop-padded (suc k) m (b ∷ bs) = drop-padded k m bs

pub packed-padded : (n m : ℕ) (bs : List Bool) → packed n (bs ++ replicate m false) ≡ packed n bs
packed-padded zero m bs = refl
packed-padded (suc n) m bs =
    let r = drop-padded byte_bits m bs in
    ap₂ (λ b ns. b ∷ ns) (number-padded byte_bits m bs) (ap (packed n) r.1 ∙ packed-padded n r.0 (drop byte_bits bs))
