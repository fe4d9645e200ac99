-- The bits of words, put one word after the other.
use Prim.Native.Nat.{ℕ, zero, suc, ◌+◌, ◌*◌, ◌^◌, ◌≤◌, ◌<◌}
use mathlib.Core.Path.{◌≡◌, refl, sym, ap, ap₂, ◌∙◌}
use mathlib.Core.Bool.{Bool, true, false, cond, false≢true}
use mathlib.Core.List.{List, [], ◌∷◌, ◌++◌, append_assoc, append-nil}
use native.Mathlib.Numerals.{add-one}
use native.Mathlib.Omega.{arith}
use lib.Dec.{eqb}
use lib.ListN.{length, take, drop, get_or, replicate, length-append, length-replicate}
use mir.Syntax.{w32}
use mir.Val.{Fits}
use borrow.Author.Tests.{eqb-true, eqb-false, ne_eqb}
use Rattle.std.specs.Prelude.{sum_by}
use Rattle.std.proofs.lemmas.List.Sums.{sum_by-cons}
use Rattle.words.specs.declared.kind.Kind.{Kind}
use Rattle.words.specs.declared.kind.Kind.TheVariants as kind
use Rattle.words.specs.Types.{kind_number, kind_for}
use Rattle.calculus.specs.Words.{variable_kind, abstraction_kind, workspace_most, kind_of, payload_of}
use Rattle.encoding.specs.Bytes.{byte_bits, unpacked, packed}
use Rattle.encoding.specs.Encoded.{all_zero}
use Rattle.encoding.proofs.BytesLaws.{length-packed, length-unpacked, packed-padded}
use Rattle.bits.specs.Runs.{position_bound}
use Rattle.bits.proofs.WindowLaws.{AllBytes}
use Rattle.bits.proofs.PutLaws.{packed_start, packed-bits, packed-rest}
use Rattle.binary.specs.Words.{word_bits, words_bits}

-- The bits of a word, by its kind.
variable_bits : (k p : ℕ) → k ≡ variable_kind → word_bits k p ≡ replicate (p + 1) true ++ (false ∷ [])
unfolding word_bits
variable_bits k p e = rw (e, add-one)

pub abstraction-bits : (k p : ℕ) → k ≡ abstraction_kind → word_bits k p ≡ false ∷ false ∷ []
unfolding word_bits
abstraction-bits k p e = rw e

other-bits : (k p : ℕ) → (k ≡ variable_kind → ⊥) → (k ≡ abstraction_kind → ⊥) → word_bits k p ≡ false ∷ true ∷ []
unfolding word_bits
other-bits k p v a = rw (ne_eqb k variable_kind v, ne_eqb k abstraction_kind a)

-- How many they are.
pub variable_length : (k p : ℕ) → k ≡ variable_kind → length (word_bits k p) ≡ p + 2
variable_length k p e =
    ap length (variable_bits k p e) ∙ length-append (replicate (p + 1) true) (false ∷ []) ∙ omega (arith, length-replicate (p + 1) true)

pub other_length : (k p : ℕ) → (k ≡ variable_kind → ⊥) → length (word_bits k p) ≡ 2
unfolding word_bits
other_length k p v = rw (ne_eqb k variable_kind v) (go (eqb k abstraction_kind))
  where
    go : (b : Bool) → length (cond b (false ∷ false ∷ []) (false ∷ true ∷ [])) ≡ 2
    go true = refl
    go false = refl

most_bits : (k p : ℕ) → length (word_bits k p) ≤ p + 2
most_bits k p = go (eqb k variable_kind) refl
  where
    go : (b : Bool) → eqb k variable_kind ≡ b → length (word_bits k p) ≤ p + 2
    go true e = omega (arith, variable_length k p (eqb-true k variable_kind e))
    go false e = omega (arith, other_length k p (eqb-false k variable_kind e))

-- Each kind is told by its number.
back : (k : Kind) → kind_for (kind_number k) ≡ k
back kind.Variable = refl
back kind.Abstraction = refl
back kind.Application = refl
back kind.Constructor = refl
back kind.Case = refl
back kind.Branch = refl
back kind.Numeral = refl
back kind.Unassigned = refl

pub told : {k l : Kind} {n : ℕ} → kind_number k ≡ n → n ≡ kind_number l → k ≡ l
told e f = sym (back _) ∙ ap kind_for (e ∙ f) ∙ back _

-- The bits of words are counted word by word.
abbrev pub bits_at : ℕ → ℕ
bits_at w = length (word_bits (kind_of w) (payload_of w))

pub sum-bits : (ws : List ℕ) → sum_by bits_at ws ≡ length (words_bits ws)
sum-bits [] = refl
sum-bits (w ∷ ws) =
    sum_by-cons bits_at w ws ∙ ap (λ n. bits_at w + n) (sum-bits ws) ∙ sym (length-append (word_bits (kind_of w) (payload_of w)) (words_bits ws))

-- The words before a position, and one more.
words_more : (ws : List ℕ) (i : ℕ) → i < length ws
    → words_bits (take (i + 1) ws) ≡ words_bits (take i ws) ++ word_bits (kind_of (get_or ws i 0)) (payload_of (get_or ws i 0))
words_more ws i h = rw add-one (go ws i h)
  where
    go : (ws : List ℕ) (i : ℕ) → i < length ws
        → words_bits (take (suc i) ws) ≡ words_bits (take i ws) ++ word_bits (kind_of (get_or ws i 0)) (payload_of (get_or ws i 0))
    go [] i h = absurd (omega arith)
    go (w ∷ ws) zero h = append-nil (word_bits (kind_of w) (payload_of w))
    go (w ∷ ws) (suc i) h =
        ap (λ bs. word_bits (kind_of w) (payload_of w) ++ bs) (go ws i (omega arith))
        ∙ sym (append_assoc (word_bits (kind_of w) (payload_of w)) (words_bits (take i ws)) (word_bits (kind_of (get_or ws i 0)) (payload_of (get_or ws i 0))))

pub length_more : (ws : List ℕ) (i : ℕ) → i < length ws
    → length (words_bits (take (i + 1) ws)) ≡ length (words_bits (take i ws)) + length (word_bits (kind_of (get_or ws i 0)) (payload_of (get_or ws i 0)))
length_more ws i h = ap length (words_more ws i h) ∙ length-append (words_bits (take i ws)) (word_bits (kind_of (get_or ws i 0)) (payload_of (get_or ws i 0)))

pub length-within : (ws : List ℕ) (i : ℕ) → length (words_bits (take i ws)) ≤ length (words_bits ws)
length-within ws zero = omega arith
length-within [] (suc i) = omega arith
length-within (w ∷ ws) (suc i) =
    omega (arith, length-append (word_bits (kind_of w) (payload_of w)) (words_bits (take i ws)), length-append (word_bits (kind_of w) (payload_of w)) (words_bits ws), length-within ws i)

-- Every element is a word of 32 bits, those past the end included.
abbrev pub AllWords : List ℕ → Type 0
AllWords ws = (i : ℕ) → Fits w32 (get_or ws i 0)

pub few_bits : (ws : List ℕ) (i : ℕ) → AllWords ws → length (words_bits (take i ws)) ≤ 2 ^ 30 * i
few_bits ws zero f = omega arith
few_bits [] (suc i) f = omega arith
few_bits (w ∷ ws) (suc i) f =
    omega (arith, (f 0).fits, most_bits (kind_of w) (payload_of w), length-append (word_bits (kind_of w) (payload_of w)) (words_bits (take i ws)), few_bits ws i (λ j. f (suc j)))

pub length_below : (ws : List ℕ) (i : ℕ) → AllWords ws → i ≤ workspace_most → length (words_bits (take i ws)) < position_bound
length_below ws i f h = omega (arith, few_bits ws i f)

-- A 0 that is passed.
less_zero : (at : ℕ) (bs : List Bool) → all_zero (drop at bs) ≡ true → all_zero (drop (suc at) bs) ≡ true
less_zero at [] z = refl
less_zero zero (true ∷ bs) z = absurd (false≢true z)
less_zero zero (false ∷ bs) z = z
less_zero (suc at) (b ∷ bs) z = less_zero at bs z

one_zero : (at : ℕ) (bs : List Bool) → at < length bs → all_zero (drop at bs) ≡ true → take (suc at) bs ≡ take at bs ++ (false ∷ [])
one_zero at [] h z = absurd (omega arith)
one_zero zero (true ∷ bs) h z = absurd (false≢true z)
one_zero zero (false ∷ bs) h z = refl
one_zero (suc at) (b ∷ bs) h z = ap (λ cs. b ∷ cs) (one_zero at bs (omega arith) z)

-- The bits of a word from a position on, where all are 0.
module _ (at : ℕ) (xs : List ℕ) (z : all_zero (drop at (unpacked xs)) ≡ true) where
  abbrev start : List Bool
  start = take at (unpacked xs)

  pub put_variable : {k p n : ℕ} {after : List ℕ} → k ≡ variable_kind → n ≡ p → after ≡ packed (length xs) (start ++ replicate (n + 1) true)
      → after ≡ packed (length xs) (start ++ word_bits k p)
  put_variable {k} {p} {n} v e done =
      done
      ∙ sym (packed-padded (length xs) 1 (start ++ replicate (n + 1) true))
      ∙ ap (packed (length xs)) (append_assoc start (replicate (n + 1) true) (false ∷ []) ∙ ap (λ bs. start ++ bs) (rw e (sym (variable_bits k p v))))

  pub put-abstraction : {k : ℕ} (p : ℕ) → k ≡ abstraction_kind → AllBytes xs → xs ≡ packed (length xs) (start ++ word_bits k p)
  put-abstraction {k} p a f =
      packed_start xs at f z ∙ sym (packed-padded (length xs) 2 start) ∙ ap (λ bs. packed (length xs) (start ++ bs)) (sym (abstraction-bits k p a))

  pub next_zero : all_zero (drop (at + 1) (unpacked xs)) ≡ true
  next_zero = rw add-one (less_zero at (unpacked xs) z)

  pub put_other : {k : ℕ} (p : ℕ) {after : List ℕ} → at < byte_bits * length xs → (k ≡ variable_kind → ⊥) → (k ≡ abstraction_kind → ⊥)
      → after ≡ packed (length xs) (take (at + 1) (unpacked xs) ++ replicate 1 true) → after ≡ packed (length xs) (start ++ word_bits k p)
  put_other {k} p room v a done =
      let passed : take (at + 1) (unpacked xs) ≡ start ++ (false ∷ []) = rw add-one (one_zero at (unpacked xs) (omega (arith, length-unpacked xs)) z) in
      done
      ∙ ap (packed (length xs))
      (ap (λ bs. bs ++ (true ∷ [])) passed ∙ append_assoc start (false ∷ []) (true ∷ []) ∙ ap (λ bs. start ++ bs) (sym (other-bits k p v a)))

-- Bytes that are all 0 have no bits yet.
packed-nil : (n : ℕ) → packed n [] ≡ replicate n 0
packed-nil zero = refl
packed-nil (suc n) = ap (λ bs. 0 ∷ bs) (packed-nil n)

pub put-nothing : {xs : List ℕ} (n : ℕ) → xs ≡ replicate n 0 → xs ≡ packed n []
put-nothing n e = e ∙ sym (packed-nil n)

-- Bytes with the bits of the words before a position.
module _ (ws xs : List ℕ) (fits : length (words_bits ws) ≤ byte_bits * length xs) (i : ℕ) {bytes : List ℕ} (done : bytes ≡ packed (length xs) (words_bits (take i ws))) where
  pub kept-length : length bytes ≡ length xs
  kept-length = ap length done ∙ length-packed (length xs) (words_bits (take i ws))

  room : length (words_bits (take i ws)) ≤ byte_bits * length xs
  room = omega (arith, length-within ws i)

  pub rest_zero : {at : ℕ} → at ≡ length (words_bits (take i ws)) → all_zero (drop at (unpacked bytes)) ≡ true
  rest_zero here = rw (done, here) (packed-rest (length xs) (words_bits (take i ws)) room)

  pub put-more : {at : ℕ} {after : List ℕ} → at ≡ length (words_bits (take i ws)) → i < length ws
      → after ≡ packed (length bytes) (take at (unpacked bytes) ++ word_bits (kind_of (get_or ws i 0)) (payload_of (get_or ws i 0)))
      → after ≡ packed (length xs) (words_bits (take (i + 1) ws))
  put-more {at} here h e =
      let start : take at (unpacked bytes) ≡ words_bits (take i ws) = rw (done, here) (packed-bits (length xs) (words_bits (take i ws)) room) in
      e
      ∙ ap₂ (λ n bs. packed n (bs ++ word_bits (kind_of (get_or ws i 0)) (payload_of (get_or ws i 0)))) kept-length start
      ∙ ap (packed (length xs)) (sym (words_more ws i h))
