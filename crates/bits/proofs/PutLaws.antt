-- Ones put behind the bits that stand in bytes.
use Prim.Native.Nat.{ℕ, zero, suc, ◌+◌, ◌*◌, ◌-◌, ◌/◌, ◌%◌, ◌^◌, ◌≤◌, ◌<◌}
use mathlib.Core.Path.{◌≡◌, refl, sym, ap, ap₂, ◌∙◌}
use mathlib.Core.Bool.{Bool, true, false}
use mathlib.Core.List.{List, [], ◌∷◌, ◌++◌, append_assoc, append-nil}
use native.Mathlib.Decide.{dec_lt}
use native.Mathlib.Nat.{pow-suc, sub-zero}
use native.Mathlib.Omega.{arith}
use lib.ListN.{length, take, drop, get_or, set, replicate, drop_of_length-le, length-append, length-replicate, length-drop, replicate-append-replicate, take-append-drop}
use lib.Pow.{pow_mono}
use lib.Seq.{drop-append-le, take-append-le, take-length, drop-append_seam, length-take-le, get_or-set_same}
use Rattle.encoding.specs.Bytes.{byte_bits, unpacked, digit, number, packed, Bytes}
use Rattle.encoding.specs.Encoded.{all_zero}
use Rattle.encoding.proofs.BytesLaws.{number-nil, number_below, length-packed, length-unpacked, packed-unpacked, unpacked-packed, packed-padded}
use Rattle.encoding.proofs.EncodedLaws.{zeros, all_zeros}
use Rattle.bits.proofs.WindowLaws.{AllBytes}
use Rattle.bits.proofs.ZeroLaws.{power_shifted}

-- Bits behind others, in one number.
number_append : (k : ℕ) (ds es : List Bool) → length ds ≤ k → number k (ds ++ es) ≡ number k ds + number (k - length ds) es
number_append k [] es h = rw (sub-zero k) (omega (arith, number-nil k))
number_append zero (d ∷ ds) es h = absurd (omega arith)
number_append (suc k) (d ∷ ds) es h =
    let e : suc k - suc (length ds) ≡ k - length ds = omega arith in rw e (omega (arith, number_append k ds es (omega arith)))

number_first : (k : ℕ) (ds es : List Bool) → k ≤ length ds → number k (ds ++ es) ≡ number k ds
number_first zero ds es h = refl
number_first (suc k) [] es h = absurd (omega arith)
number_first (suc k) (d ∷ ds) es h = ap (λ n. digit d * 2 ^ k + n) (number_first k ds es (omega arith))

number_ones : (m k : ℕ) → k ≤ m → number m (replicate k true) ≡ 2 ^ m - 2 ^ (m - k)
number_ones m zero h = rw (sub-zero m) (omega (arith, number-nil m))
number_ones zero (suc k) h = absurd (omega arith)
number_ones (suc m) (suc k) h =
    let e : suc m - suc k ≡ m - k = omega arith in
    rw e (omega (arith, number_ones m k (omega arith), pow-suc 2 m, pow_mono {i = m - k} {j = m} (omega arith)))

-- What is added to the byte.
abbrev pub added : (at count : ℕ) → ℕ
added at count = 256 / 2 ^ (at % byte_bits) - 256 / 2 ^ (at % byte_bits + count)

added_is : (at count : ℕ) → at < byte_bits → at + count ≤ byte_bits → added at count ≡ 2 ^ (byte_bits - at) - 2 ^ (byte_bits - at - count)
added_is at count h g =
    let r : at % byte_bits ≡ at = omega arith in
    let e : byte_bits - (at + count) ≡ byte_bits - at - count = omega arith in
    rw (r, power_shifted at (omega arith), power_shifted (at + count) g, e)

first_byte : (at count : ℕ) (ds : List Bool) → length ds ≡ at → at < byte_bits → at + count ≤ byte_bits
    → number byte_bits ds + added at count ≡ number byte_bits (ds ++ replicate count true)
first_byte at count ds l h g =
    sym (number_append byte_bits ds (replicate count true) (omega arith)
    ∙ ap (λ m. number byte_bits ds + m) (rw l (number_ones (byte_bits - at) count (omega arith) ∙ sym (added_is at count h g))))

packed_below : (n : ℕ) (bs : List Bool) (i : ℕ) → get_or (packed n bs) i 0 < 256
packed_below zero bs i = omega arith
packed_below (suc n) bs zero = number_below byte_bits bs
packed_below (suc n) bs (suc i) = packed_below n (drop byte_bits bs) i

-- One byte.
pub put_byte : (n at count : ℕ) (ds : List Bool) → length ds ≡ at → at < byte_bits * n → at % byte_bits + count ≤ byte_bits
    → set (packed n ds) (at / byte_bits) (get_or (packed n ds) (at / byte_bits) 0 + added at count) ≡ packed n (ds ++ replicate count true)
put_byte zero at count ds l h g = absurd (omega arith)
put_byte (suc n) at count ds l h g =
    elim (dec_lt at byte_bits) [
      | yes s ↦
          let z : at / byte_bits ≡ 0 = omega arith in
          let none : drop byte_bits ds ≡ [] = drop_of_length-le ds {i = byte_bits} (omega arith) in
          let none_more : drop byte_bits (ds ++ replicate count true) ≡ [] =
          drop_of_length-le (ds ++ replicate count true) {i = byte_bits} (omega (arith, length-append ds (replicate count true), length-replicate count true)) in
          rw z (ap₂ (λ m bs. m ∷ packed n bs) (first_byte at count ds l s (omega arith)) (none ∙ sym none_more))
      | no s ↦
          let q : at / byte_bits ≡ suc ((at - byte_bits) / byte_bits) = omega arith in
          let r : (at - byte_bits) % byte_bits ≡ at % byte_bits = omega arith in
          let behind = packed n (drop byte_bits ds) in
          let k = (at - byte_bits) / byte_bits in
          rw q
          (ap₂ (λ m bs. m ∷ bs) (sym (number_first byte_bits ds (replicate count true) (omega arith)))
          (ap (λ m. set behind k (get_or behind k 0 + (256 / 2 ^ m - 256 / 2 ^ (m + count)))) (sym r)
          ∙ put_byte n (at - byte_bits) count (drop byte_bits ds) (omega (arith, length-drop byte_bits ds)) (omega arith) (omega arith)
          ∙ ap (packed n) (sym (drop-append-le byte_bits ds (replicate count true) (omega arith)))))
    ]

-- Bytes as the code has them.
bytes_all : (xs : List ℕ) → AllBytes xs → Bytes xs
bytes_all [] f = tt
bytes_all (x ∷ xs) f = ((f 0).fits, bytes_all xs (λ i. f (suc i)))

-- Bytes whose bits from a position on are 0 are those of the bits before it.
pub packed_start : (xs : List ℕ) (at : ℕ) → AllBytes xs → all_zero (drop at (unpacked xs)) ≡ true → xs ≡ packed (length xs) (take at (unpacked xs))
packed_start xs at f z =
    sym (packed-unpacked xs (bytes_all xs f))
    ∙ ap (packed (length xs)) (sym (take-append-drop at (unpacked xs)) ∙ ap (λ bs. take at (unpacked xs) ++ bs) (all_zeros (drop at (unpacked xs)) z))
    ∙ packed-padded (length xs) (length (drop at (unpacked xs))) (take at (unpacked xs))

-- What stands in such bytes.
module _ (n : ℕ) (ds : List Bool) (fits : length ds ≤ byte_bits * n) where
  pub packed-bits : take (length ds) (unpacked (packed n ds)) ≡ ds
  packed-bits = ap (take (length ds)) (unpacked-packed n ds fits) ∙ take-append-le (length ds) ds (replicate (byte_bits * n - length ds) false) (omega arith) ∙ take-length ds

  pub packed-rest : all_zero (drop (length ds) (unpacked (packed n ds))) ≡ true
  packed-rest =
      ap (λ bs. all_zero (drop (length ds) bs)) (unpacked-packed n ds fits)
      ∙ ap all_zero (drop-append_seam ds (replicate (byte_bits * n - length ds) false))
      ∙ zeros (byte_bits * n - length ds)

pub added_least : (at count : ℕ) → at % byte_bits + count ≤ byte_bits → 256 / 2 ^ (at % byte_bits + count) ≤ 256 / 2 ^ (at % byte_bits)
added_least at count within =
    rw (power_shifted (at % byte_bits + count) within, power_shifted (at % byte_bits) (omega arith))
    (pow_mono {i = byte_bits - (at % byte_bits + count)} {j = byte_bits - at % byte_bits} (omega arith))

-- What `put_in_byte` does, and how far it reaches.
module _ (xs : List ℕ) (at count : ℕ) (inside : at < byte_bits * length xs) (within : at % byte_bits + count ≤ byte_bits)
    (z : all_zero (drop at (unpacked xs)) ≡ true) (f : AllBytes xs) where
  abbrev start : List Bool
  start = take at (unpacked xs)

  start_length : length start ≡ at
  start_length = length-take-le at (unpacked xs) (omega (arith, length-unpacked xs))

  pub put_is : set xs (at / byte_bits) (get_or xs (at / byte_bits) 0 + added at count) ≡ packed (length xs) (start ++ replicate count true)
  put_is =
      ap (λ ys. set ys (at / byte_bits) (get_or ys (at / byte_bits) 0 + added at count)) (packed_start xs at f z)
      ∙ put_byte (length xs) at count start start_length inside within

  pub put_fits : get_or xs (at / byte_bits) 0 + added at count < 256
  put_fits =
      let e = ap (λ ys. get_or ys (at / byte_bits) 0) put_is in
      let same = get_or-set_same xs (at / byte_bits) (get_or xs (at / byte_bits) 0 + added at count) 0 (omega arith) in
      rw (sym same, e) (packed_below (length xs) (start ++ replicate count true) (at / byte_bits))

-- So many ones put from a position on.
abbrev pub put : (xs : List ℕ) (from done : ℕ) → List Bool
put xs from done = take from (unpacked xs) ++ replicate done true

-- None of them.
pub put_none : (xs : List ℕ) (from done : ℕ) → done ≡ 0 → all_zero (drop from (unpacked xs)) ≡ true → AllBytes xs → xs ≡ packed (length xs) (put xs from done)
put_none xs from done none z f = packed_start xs from f z ∙ ap (packed (length xs)) (rw none (sym (append-nil (take from (unpacked xs)))))

module _ (xs : List ℕ) (from done : ℕ) (fits : from + done ≤ byte_bits * length xs) where
  put-length : length (put xs from done) ≡ from + done
  put-length =
      length-append (take from (unpacked xs)) (replicate done true)
      ∙ omega (arith, length-take-le from (unpacked xs) (omega (arith, length-unpacked xs)), length-replicate done true)

  module _ {bytes : List ℕ} {at : ℕ} (here : at ≡ from + done) (so_far : bytes ≡ packed (length xs) (put xs from done)) where
    pub bytes_length : length bytes ≡ length xs
    bytes_length = ap length so_far ∙ length-packed (length xs) (put xs from done)

    room : length (put xs from done) ≤ byte_bits * length xs
    room = omega (arith, put-length)

    reached : at ≡ length (put xs from done)
    reached = here ∙ sym put-length

    pub rest_zero : all_zero (drop at (unpacked bytes)) ≡ true
    rest_zero = rw (so_far, reached) (packed-rest (length xs) (put xs from done) room)

    pub put-more : (k : ℕ) {after : List ℕ} → after ≡ packed (length bytes) (take at (unpacked bytes) ++ replicate k true)
        → after ≡ packed (length xs) (put xs from (done + k))
    put-more k e =
        let start : take at (unpacked bytes) ≡ put xs from done = rw (so_far, reached) (packed-bits (length xs) (put xs from done) room) in
        e
        ∙ ap₂ (λ n bs. packed n (bs ++ replicate k true)) bytes_length start
        ∙ ap (packed (length xs))
        (append_assoc (take from (unpacked xs)) (replicate done true) (replicate k true)
        ∙ ap (λ bs. take from (unpacked xs) ++ bs) (replicate-append-replicate done k true))
