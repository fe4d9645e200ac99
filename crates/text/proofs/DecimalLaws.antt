-- The digits of a number, as a loop finds them from the lowest on; and that they are the number's.
use Prim.Native.Nat.{ℕ, zero, suc, ◌+◌, ◌-◌, ◌*◌, ◌/◌, ◌%◌, ◌^◌, ◌≤◌, ◌<◌}
use mathlib.Core.Path.{◌≡◌, refl, sym, ◌∙◌, ap, ap₂}
use mathlib.Core.Bool.{Bool, true, false}
use mathlib.Core.List.Memᴰ
use mathlib.Core.List.{List, [], ◌∷◌, ◌++◌, append_assoc, Memᴰ}
use mathlib.Core.Logic.{⊎_elim}
use native.Mathlib.Nat.{pow-suc, div-lt_iff_lt-mul}
use native.Mathlib.Omega.{arith}
use lib.ListN.{length, length-append, take, drop, set, length-drop, take-append-drop}
use lib.Seq.{take_all, length-take-le, drop_at}
use lib.Dec.{ltb}
use borrow.Author.Tests.{ltb-true, ltb-false, lt-ltb, le-ltb}
use Rattle.text.specs.Decimal.{digit, digits_most, digits, decimal, worth, DecimalExact}
use Rattle.words.specs.Placed.{Placed}
use Rattle.words.proofs.PlacedLaws.{drop-set, sets_end}

-- One digit more is kept in `text`, and others are left.
pub digits-next : (text : List ℕ) (i n : ℕ) → 0 < i → i ≤ length text → 10 ≤ n
    → digits (i - 1) (n / 10) ++ drop (i - 1) (set text (i - 1) (n % 10 + 48)) ≡ digits i n ++ drop i text
unfolding digits
digits-next text zero n p h t = absurd (omega arith)
digits-next text (suc k) n p h t =
    let e : suc k - 1 ≡ k = omega arith in
    rw (e, le-ltb n 10 t, digits, drop-set text k (n % 10 + 48) h, append_assoc)

-- The last digit is kept.
pub digits_last : (text : List ℕ) (i n : ℕ) → 0 < i → i ≤ length text → n < 10
    → drop (i - 1) (set text (i - 1) (n % 10 + 48)) ≡ digits i n ++ drop i text
unfolding digits
digits_last text zero n p h t = absurd (omega arith)
digits_last text (suc k) n p h t =
    let e : suc k - 1 ≡ k = omega arith in
    let f : n % 10 ≡ n = omega arith in
    rw (e, f, lt-ltb n 10 t, digits, drop-set text k (n + 48) h)

-- The digits at the end of the slice, and the part from where they start.
pub kept_placed : (n from : ℕ) (before after : List ℕ) → from ≤ digits_most → length before ≡ digits_most → length after ≡ digits_most
    → take from after ≡ take from before → drop from after ≡ decimal n → Placed before from (decimal n) after digits_most
kept_placed n from before after l h g p q =
    let e : from + length (decimal n) ≡ digits_most = omega (arith, ap length q, length-drop from after) in
    record { slice = sym (take-append-drop from after) ∙ ap₂ ◌++◌ p q ∙ sym (sets_end (decimal n) before from (omega arith)); position = sym e }

pub kept_part : (n : ℕ) {from : ℕ} {before after : List ℕ} → Placed before from (decimal n) after digits_most → length before ≡ digits_most
    → take (digits_most - from) (drop from after) ≡ decimal n
kept_part n {from} {before} p h =
    let e : length (take from before) ≡ from = length-take-le from before (omega (arith, p.position)) in
    rw (p.slice, sets_end (decimal n) before from (omega (arith, p.position)), drop_at (take from before) (decimal n) from e)
    (take_all (digits_most - from) (decimal n) (omega (arith, p.position)))

-- No number has more digits than are kept.
length_digits : (k n : ℕ) → length (digits k n) ≤ k
unfolding digits
length_digits zero n = omega arith
length_digits (suc k) n = go (ltb n 10) refl (length_digits k (n / 10))
  where
    go : (b : Bool) → ltb n 10 ≡ b → length (digits k (n / 10)) ≤ k → length (digits (suc k) n) ≤ suc k
    go true e h = rw (e, digits) (omega arith)
    go false e h = rw (e, digits) (omega (arith, length-append (digits k (n / 10)) (digit (n % 10) ∷ [])))

pub length-decimal : (n : ℕ) → length (decimal n) ≤ digits_most
unfolding decimal
length-decimal n = length_digits digits_most n

worth-append : (ahead : ℕ) (ds : List ℕ) (d : ℕ) → worth ahead (ds ++ (d ∷ [])) ≡ worth ahead ds * 10 + (d - 48)
unfolding worth
worth-append ahead [] d = refl
worth-append ahead (e ∷ ds) d = worth-append (ahead * 10 + (e - 48)) ds d

digits-worth : (k n : ℕ) → n < 10 ^ k → worth 0 (digits k n) ≡ n
unfolding worth digits
digits-worth zero n h = omega arith
digits-worth (suc k) n h = go (ltb n 10) refl (digits-worth k (n / 10))
  where
    go : (b : Bool) → ltb n 10 ≡ b → (n / 10 < 10 ^ k → worth 0 (digits k (n / 10)) ≡ n / 10) → worth 0 (digits (suc k) n) ≡ n
    go true e ih = rw (e, digits) (omega (arith, ltb-true n 10 e))
    go false e ih =
        let less : n / 10 < 10 ^ k = (div-lt_iff_lt-mul {k = 10} (omega arith)).1 (rw pow-suc at h) in
        rw (e, digits, worth-append) (omega (arith, ih less))

digits_bytes : (k n d : ℕ) → Memᴰ d (digits k n) → (48 ≤ d) × (d ≤ 57)
unfolding digits
digits_bytes zero n d m = absurd (Memᴰ.not-nil m)
digits_bytes (suc k) n d m = go (ltb n 10) refl (digits_bytes k (n / 10) d) m
  where
    one : (e : ℕ) → e < 10 → Memᴰ d (digit e ∷ []) → (48 ≤ d) × (d ≤ 57)
    one e l h = ⊎_elim (λ q. (omega arith, omega arith)) (λ k. absurd (Memᴰ.not-nil k)) (Memᴰ.cases_cons h)

    go : (b : Bool) → ltb n 10 ≡ b → (Memᴰ d (digits k (n / 10)) → (48 ≤ d) × (d ≤ 57))
        → Memᴰ d (elim b [ true ↦ digit n ∷ [] | false ↦ digits k (n / 10) ++ (digit (n % 10) ∷ []) ]) → (48 ≤ d) × (d ≤ 57)
    go true e ih h = one n (ltb-true n 10 e) h
    go false e ih h = ⊎_elim ih (one (n % 10) (omega arith)) (Memᴰ.append_cases (digits k (n / 10)) h)

-- The first digit of a number above 0 is not 0.
abbrev Starts : List ℕ → Type 0
Starts ds = (d : ℕ) × (rest : List ℕ) × (ds ≡ d ∷ rest) × (48 < d)

digits_start : (k n : ℕ) → 0 < n → n < 10 ^ k → Starts (digits k n)
unfolding digits
digits_start zero n p h = absurd (omega arith)
digits_start (suc k) n p h = go (ltb n 10) refl (digits_start k (n / 10))
  where
    go : (b : Bool) → ltb n 10 ≡ b → (0 < n / 10 → n / 10 < 10 ^ k → Starts (digits k (n / 10))) → Starts (digits (suc k) n)
    go true e ih = rw (e, digits) (digit n, [], refl, omega arith)
    go false e ih =
        let less : n / 10 < 10 ^ k = (div-lt_iff_lt-mul {k = 10} (omega arith)).1 (rw pow-suc at h) in
        let s = ih (omega (arith, ltb-false n 10 e)) less in
        rw (e, digits) (s.0, s.1 ++ (digit (n % 10) ∷ []), ap (λ ds. ds ++ (digit (n % 10) ∷ [])) s.2, s.3)

digits_zero : digits digits_most 0 ≡ 48 ∷ []
unfolding digits
digits_zero = refl

pub decimal_exact : DecimalExact
unfolding decimal
decimal_exact n h =
    record {
      some_digit = some n h;
      each_digit = digits_bytes digits_most n;
      worth_is = digits-worth digits_most n (omega arith);
      no_leading_zero = alone n h;
    }
  where
    starts : (m : ℕ) → suc m < 2 ^ 64 → Starts (digits digits_most (suc m))
    starts m h = digits_start digits_most (suc m) (omega arith) (omega arith)

    some : (n : ℕ) → n < 2 ^ 64 → 1 ≤ length (digits digits_most n)
    some zero h = omega (arith, ap length digits_zero)
    some (suc m) h = let s = starts m h in omega (arith, ap length s.2)

    alone : (n : ℕ) → n < 2 ^ 64 → (rest : List ℕ) → digits digits_most n ≡ 48 ∷ rest → rest ≡ []
    alone zero h rest e = cc digits_zero
    alone (suc m) h rest e = let s = starts m h in let q : 48 ≡ s.0 = cc s.2 in absurd (omega (arith, s.3))
