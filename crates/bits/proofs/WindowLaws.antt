-- Windows: the numbers of bytes in a row, and of a window whose first bits are left out.
use Prim.Native.Nat.{ℕ, zero, suc, ◌+◌, ◌*◌, ◌-◌, ◌/◌, ◌%◌, ◌^◌, ◌≤◌, ◌<◌}
use mathlib.Core.Path.{◌≡◌, refl, sym, ap, ◌∙◌}
use mathlib.Core.Bool.{Bool, false}
use mathlib.Core.List.{List, [], ◌∷◌, ◌++◌}
use native.Mathlib.Decide.{dec_lt}
use native.Mathlib.Nat.{mod-eq_of_lt, add-zero, add_comm, add-mul, mul_assoc}
use native.Mathlib.Numerals.{add-one}
use native.Mathlib.Omega.{arith}
use lib.Count.{count_leading_zeros}
use lib.Dec.{eqb}
use lib.ListN.{replicate, length, set, take, drop, get_or, drop_of_length-le, get_or-eq_default}
use lib.Pow.{pow-add, low, shl_lt}
use lib.Seq.{drop-cons, drop-drop, get_or-drop}
use mir.Syntax.{w8}
use mir.Val.{Fits}
use Rattle.std.proofs.Common.{lit<}
use Rattle.std.proofs.lemmas.List.{length-take, length-set, get_or-set_same, get_or-set_other}
use Rattle.std.specs.Int.{w64, from_be_bytes}
use Rattle.encoding.specs.Bytes.{byte_bits, digits, unpacked, digit, number}
use Rattle.encoding.proofs.BytesLaws.{number_digits, number-nil, number_below, number_split, drop-unpacked}
use Rattle.bits.specs.Runs.{window_bits, run}
use Rattle.bits.proofs.RunLaws.{leading_run}

-- Every element is a byte, those past the end included.
abbrev pub AllBytes : List ℕ → Type 0
AllBytes xs = (i : ℕ) → Fits w8 (get_or xs i 0)

first_byte : (k b : ℕ) (xs : List ℕ) → b < 2 ^ byte_bits → number (byte_bits + k) (unpacked (b ∷ xs)) ≡ b * 2 ^ k + number k (unpacked xs)
first_byte k b xs h =
    number_split byte_bits k (unpacked (b ∷ xs))
    ∙ ap (λ n. n * 2 ^ k + number k (unpacked xs)) (number_digits byte_bits b (unpacked xs) ∙ mod-eq_of_lt h)

-- The next byte, and those behind it.
pub number_step : (k at : ℕ) (xs : List ℕ) → AllBytes xs
    → number (byte_bits + k) (unpacked (drop at xs)) ≡ get_or xs at 0 * 2 ^ k + number k (unpacked (drop (at + 1) xs))
number_step k at xs f = rw add-one (go (dec_lt at (length xs)))
  where
    go : Dec (at < length xs) → number (byte_bits + k) (unpacked (drop at xs)) ≡ get_or xs at 0 * 2 ^ k + number k (unpacked (drop (suc at) xs))
    go (yes h) = ap (λ ys. number (byte_bits + k) (unpacked ys)) (drop-cons xs at 0 h) ∙ first_byte k (get_or xs at 0) (drop (suc at) xs) (f at).fits
    go (no h) =
        ap (λ ys. number (byte_bits + k) (unpacked ys)) (drop_of_length-le xs {i = at} (omega arith))
        ∙ number-nil (byte_bits + k)
        ∙ omega (arith, ap (λ n. n * 2 ^ k) (get_or-eq_default xs 0 {n = at} (omega arith)), ap (λ ys. number k (unpacked ys)) (drop_of_length-le xs {i = suc at} (omega arith)), number-nil k)

-- A window goes on with what follows it.
pub number_more : (i at : ℕ) (xs : List ℕ) → AllBytes xs
    → number (byte_bits * (i + 1)) (unpacked (drop at xs)) ≡ number (byte_bits * i) (unpacked (drop at xs)) * 256 + get_or xs (at + i) 0
number_more i at xs f =
    let e : byte_bits * (i + 1) ≡ byte_bits * i + byte_bits = omega arith in
    let place : drop (byte_bits * i) (unpacked (drop at xs)) ≡ unpacked (drop (at + i) xs) = drop-unpacked i (drop at xs) ∙ ap unpacked (drop-drop i at xs) in
    let byte : number byte_bits (unpacked (drop (at + i) xs)) ≡ get_or xs (at + i) 0 = omega (arith, number_step 0 (at + i) xs f) in
    ap (λ k. number k (unpacked (drop at xs))) e
    ∙ number_split (byte_bits * i) byte_bits (unpacked (drop at xs))
    ∙ ap (λ n. number (byte_bits * i) (unpacked (drop at xs)) * 256 + n) (ap (number byte_bits) place ∙ byte)

-- The number of eight bytes, the first of them highest: a window, if they are those from a position on, with 0 for those past the end.
pub window_is : (at : ℕ) (xs : List ℕ) → AllBytes xs → (window : List ℕ) → ((i : ℕ) → i < 8 → get_or window i 0 ≡ get_or xs (at + i) 0)
    → from_be_bytes w64 window ≡ number window_bits (unpacked (drop at xs))
window_is at xs f window same =
    let next : (i : ℕ) → i < 8 → number (byte_bits * (i + 1)) (unpacked (drop at xs)) ≡ number (byte_bits * i) (unpacked (drop at xs)) * 256 + get_or window i 0 =
    λ i h. number_more i at xs f ∙ ap (λ n. number (byte_bits * i) (unpacked (drop at xs)) * 256 + n) (sym (same i h)) in
    omega (arith, next 0 (lit< tt), next 1 (lit< tt), next 2 (lit< tt), next 3 (lit< tt), next 4 (lit< tt), next 5 (lit< tt), next 6 (lit< tt), next 7 (lit< tt))

-- Zeros, and past their end the default.
zero_at : (n i : ℕ) → get_or (replicate {A = ℕ} n 0) i 0 ≡ 0
zero_at zero i = refl
zero_at (suc n) zero = refl
zero_at (suc n) (suc i) = zero_at n i

number-take : (k : ℕ) (bs : List Bool) → number k (take k bs) ≡ number k bs
number-take zero bs = refl
number-take (suc k) [] = refl
number-take (suc k) (b ∷ bs) = ap (λ n. digit b * 2 ^ k + n) (number-take k bs)

take-shorter : (n m : ℕ) (bs : List Bool) → m ≤ n → take n (take m bs) ≡ take m bs
take-shorter zero zero bs h = refl
take-shorter zero (suc m) bs h = absurd (omega arith)
take-shorter (suc n) zero bs h = refl
take-shorter (suc n) (suc m) [] h = refl
take-shorter (suc n) (suc m) (b ∷ bs) h = ap (λ cs. b ∷ cs) (take-shorter n m bs (omega arith))

-- The first bits of a window left out.
shifted : (s m : ℕ) (bs : List Bool) → number (s + m) bs * 2 ^ s % 2 ^ (s + m) ≡ number (s + m) (take m (drop s bs))
shifted s m bs =
    let ys = drop s bs in
    let small : number m ys * 2 ^ s < 2 ^ (s + m) = rw (add_comm s m) (shl_lt m s (number_below m ys)) in
    let high : number (s + m) bs * 2 ^ s ≡ number s bs * 2 ^ (s + m) + number m ys * 2 ^ s =
    rw (number_split s m bs, add-mul, mul_assoc, sym (pow-add 2 m s), add_comm m s) in
    let whole : number (s + m) (take m ys) ≡ number m ys * 2 ^ s =
    rw (add_comm s m) (number_split m s (take m ys) ∙ rw (number-take m ys, drop_of_length-le (take m ys) {i = m} (omega (arith, length-take m ys)), number-nil s) (add-zero _)) in
    ap (λ n. n % 2 ^ (s + m)) high ∙ low (number s bs) (s + m) small ∙ sym whole

-- Its leading ones.
pub window_run : (s : ℕ) (bs : List Bool) → s < byte_bits
    → count_leading_zeros window_bits (2 ^ window_bits - 1 - number window_bits bs * 2 ^ s % 2 ^ window_bits) ≡ run (take (window_bits - s) (drop s bs))
window_run s bs h =
    let m = window_bits - s in
    let e : s + m ≡ window_bits = omega arith in
    ap (λ n. count_leading_zeros window_bits (2 ^ window_bits - 1 - n)) (rw e at (shifted s m bs))
    ∙ leading_run window_bits (take m (drop s bs))
    ∙ ap run (take-shorter window_bits m (drop s bs) (omega arith))

-- The digit at a place.
digit_at : (k n j : ℕ) (rest : List Bool) → j < k → get_or (digits k n ++ rest) j false ≡ eqb (n / 2 ^ (k - 1 - j) % 2) 1
digit_at zero n j rest h = absurd (omega arith)
digit_at (suc k) n zero rest h = let e : k ≡ suc k - 1 - 0 = omega arith in ap (λ m. eqb (n / 2 ^ m % 2) 1) e
digit_at (suc k) n (suc j) rest h =
    let e : k - 1 - j ≡ suc k - 1 - suc j = omega arith in digit_at k n j rest (omega arith) ∙ ap (λ m. eqb (n / 2 ^ m % 2) 1) e

-- The bit at a place, from its byte.
pub bit_at : (at : ℕ) (xs : List ℕ) → at < byte_bits * length xs
    → eqb (get_or xs (at / byte_bits) 0 / 2 ^ (7 - at % byte_bits) % 2) 1 ≡ get_or (unpacked xs) at false
bit_at at xs h =
    let k = at / byte_bits in
    let e : byte_bits * k + at % byte_bits ≡ at = omega arith in
    sym (digit_at byte_bits (get_or xs k 0) (at % byte_bits) (unpacked (drop (suc k) xs)) (omega arith))
    ∙ ap (λ ys. get_or (unpacked ys) (at % byte_bits) false) (sym (drop-cons xs k 0 (omega arith)))
    ∙ ap (λ bs. get_or bs (at % byte_bits) false) (sym (drop-unpacked k xs))
    ∙ get_or-drop (byte_bits * k) (unpacked xs) (at % byte_bits) false
    ∙ ap (λ i. get_or (unpacked xs) i false) e

-- The ones that a window shows.
pub window_ones : (at : ℕ) (xs : List ℕ)
    → count_leading_zeros window_bits (2 ^ window_bits - 1 - number window_bits (unpacked (drop (at / byte_bits) xs)) * 2 ^ (at % byte_bits) % 2 ^ window_bits)
    ≡ run (take (window_bits - at % byte_bits) (drop at (unpacked xs)))
window_ones at xs =
    let e : byte_bits * (at / byte_bits) + at % byte_bits ≡ at = omega arith in
    window_run (at % byte_bits) (unpacked (drop (at / byte_bits) xs)) (omega arith)
    ∙ ap (λ bs. run (take (window_bits - at % byte_bits) bs))
    (ap (drop (at % byte_bits)) (sym (drop-unpacked (at / byte_bits) xs)) ∙ drop-drop (at % byte_bits) (byte_bits * (at / byte_bits)) (unpacked xs) ∙ ap (λ i. drop i (unpacked xs)) e)

-- The first i elements of a window are those of what is put into it, and 0 stands behind them.
pub record Put (rest window : List ℕ) (i : ℕ) : Type 0 where
  pub long : length window ≡ 8
  pub first : (k : ℕ) → k < i → get_or window k 0 ≡ get_or rest k 0
  pub behind : (k : ℕ) → i ≤ k → get_or window k 0 ≡ 0

pub put_none : (rest : List ℕ) → Put rest (replicate {A = ℕ} 8 0) 0
put_none rest = record { long = refl; first = λ k h. absurd (omega (arith, h)); behind = λ k h. zero_at 8 k }

pub put_next : {rest window : List ℕ} {i : ℕ} → Put rest window i → i < 8 → Put rest (set window i (get_or rest i 0)) (i + 1)
put_next {rest} {window} {i} p h =
    record {
      long = length-set window i _ ∙ p.long;
      first = λ k l. go k l (dec_lt k i);
      behind = λ k l. get_or-set_other window i k _ 0 (λ e. omega (arith, l, e)) ∙ p.behind k (omega (arith, l));
    }
  where
    go : (k : ℕ) → k < i + 1 → Dec (k < i) → get_or (set window i (get_or rest i 0)) k 0 ≡ get_or rest k 0
    go k l (yes m) = get_or-set_other window i k _ 0 (λ e. omega (arith, m, e)) ∙ p.first k m
    go k l (no m) = let e : k ≡ i = omega (arith, l, m) in rw e (get_or-set_same window i _ 0 (omega (arith, p.long, h)))

-- All of it is put: every element is one of it, or 0 past its end.
pub put_all : {rest window : List ℕ} {i : ℕ} → Put rest window i → length rest ≤ i → (k : ℕ) → get_or window k 0 ≡ get_or rest k 0
put_all {rest} {window} {i} p h k = go (dec_lt k i)
  where
    go : Dec (k < i) → get_or window k 0 ≡ get_or rest k 0
    go (yes m) = p.first k m
    go (no m) = p.behind k (omega (arith, m)) ∙ sym (get_or-eq_default rest 0 {n = k} (omega (arith, m, h)))
