-- Words where they stand in bytes.
use Prim.Native.Nat.{ℕ, zero, suc, ◌+◌, ◌*◌, ◌-◌, ◌%◌, ◌≤◌, ◌<◌}
use mathlib.Core.Path.{◌≡◌, refl, sym, ◌∙◌, ap, ap₂}
use mathlib.Core.List.{List, [], ◌∷◌}
use mathlib.Core.Option.{some, none}
use native.Mathlib.Nat.{add-zero}
use native.Mathlib.Omega.{arith}
use lib.ListN.{length, get_or, take, drop}
use lib.Seq.{get_or-drop}
use Rattle.text.specs.Bytes.{word_bytes, words_of}
use Rattle.text.specs.Decode.{word_at, words_from}

pub length-words_from : (n : ℕ) (bytes : List ℕ) (at : ℕ) → length (words_from n bytes at) ≡ n
unfolding words_from
length-words_from zero bytes at = refl
length-words_from (suc n) bytes at = ap suc (length-words_from n bytes (at + word_bytes))

-- The i-th of them.
pub get_d_words_from : (n : ℕ) (bytes : List ℕ) (at i : ℕ) → i < n → get_or (words_from n bytes at) i 0 ≡ word_at bytes (at + word_bytes * i)
unfolding words_from
get_d_words_from zero bytes at i h = absurd (omega arith)
get_d_words_from (suc n) bytes at zero h = let e : at ≡ at + word_bytes * 0 = omega arith in ap (word_at bytes) e
get_d_words_from (suc n) bytes at (suc i) h =
    let e : at + word_bytes + word_bytes * i ≡ at + word_bytes * suc i = omega arith in
    get_d_words_from n bytes (at + word_bytes) i (omega arith) ∙ ap (word_at bytes) e

pub take-words_from : (n j : ℕ) (bytes : List ℕ) (at : ℕ) → n ≤ j → take n (words_from j bytes at) ≡ words_from n bytes at
unfolding words_from
take-words_from zero j bytes at h = refl
take-words_from (suc n) zero bytes at h = absurd (omega arith)
take-words_from (suc n) (suc j) bytes at h = ap (◌∷◌ (word_at bytes at)) (take-words_from n j bytes (at + word_bytes) (omega arith))

pub drop-words_from : (n j : ℕ) (bytes : List ℕ) (at : ℕ) → n ≤ j → drop n (words_from j bytes at) ≡ words_from (j - n) bytes (at + word_bytes * n)
unfolding words_from
drop-words_from zero j bytes at h =
    let e : j ≡ j - 0 = omega arith in
    let f : at ≡ at + word_bytes * 0 = omega arith in
    ap₂ (λ k i. words_from k bytes i) e f
drop-words_from (suc n) zero bytes at h = absurd (omega arith)
drop-words_from (suc n) (suc j) bytes at h =
    let e : j - n ≡ suc j - suc n = omega arith in
    let f : at + word_bytes + word_bytes * n ≡ at + word_bytes * suc n = omega arith in
    drop-words_from n j bytes (at + word_bytes) (omega arith) ∙ ap₂ (λ k i. words_from k bytes i) e f

-- A word further on stands as far from the next word's first byte.
word_at_later : (bytes : List ℕ) (at : ℕ) → word_at bytes (at + word_bytes) ≡ word_at (drop word_bytes bytes) at
word_at_later bytes at =
    let later : (k : ℕ) → get_or bytes (at + word_bytes + k) 0 ≡ get_or (drop word_bytes bytes) (at + k) 0 = λ k.
    let e : at + word_bytes + k ≡ word_bytes + (at + k) = omega arith in
    ap (λ i. get_or bytes i 0) e ∙ sym (get_or-drop word_bytes bytes (at + k) 0) in
    let first : get_or bytes (at + word_bytes) 0 ≡ get_or (drop word_bytes bytes) at 0 = rw (add-zero (at + word_bytes), add-zero at) at (later 0) in
    cc (first, later 1, later 2, later 3)

words_from_later : (n : ℕ) (bytes : List ℕ) (at : ℕ) → words_from n bytes (at + word_bytes) ≡ words_from n (drop word_bytes bytes) at
unfolding words_from
words_from_later zero bytes at = refl
words_from_later (suc n) bytes at = ap₂ ◌∷◌ (word_at_later bytes at) (words_from_later n bytes (at + word_bytes))

-- Bytes of whole words mean the words that stand in them.
pub words_of_whole : (bytes : List ℕ) (n : ℕ) → length bytes ≡ word_bytes * n → words_of bytes ≡ some (words_from n bytes 0)
unfolding words_of words_from
words_of_whole [] zero e = refl
words_of_whole [] (suc n) e = absurd (omega arith)
words_of_whole (a ∷ []) n e = absurd (omega arith)
words_of_whole (a ∷ b ∷ []) n e = absurd (omega arith)
words_of_whole (a ∷ b ∷ c ∷ []) n e = absurd (omega arith)
words_of_whole (a ∷ b ∷ c ∷ d ∷ bs) zero e = absurd (omega arith)
words_of_whole (a ∷ b ∷ c ∷ d ∷ bs) (suc n) e = rw (words_of_whole bs n (omega arith), words_from_later n (a ∷ b ∷ c ∷ d ∷ bs) 0)

-- Bytes that end inside a word mean no words.
pub words_of_part : (bytes : List ℕ) → 0 < length bytes % word_bytes → words_of bytes ≡ none
unfolding words_of
words_of_part [] h = absurd (omega arith)
words_of_part (a ∷ []) h = refl
words_of_part (a ∷ b ∷ []) h = refl
words_of_part (a ∷ b ∷ c ∷ []) h = refl
words_of_part (a ∷ b ∷ c ∷ d ∷ bs) h = rw (words_of_part bs (omega arith))
