-- Reading a line byte by byte: what the bytes ahead still decide.
use Prim.Native.Nat.{ℕ, ◌+◌, ◌*◌, ◌≤◌, ◌<◌}
use mathlib.Core.Path.{◌≡◌, refl}
use mathlib.Core.List.{List, [], ◌∷◌}
use lib.Dec.{eqb}
use lib.ListN.{length, get_or, take, drop, drop_of_length-le}
use lib.Pointwise.{pointwise}
use lib.Seq.{drop-cons}
use Rattle.std.proofs.Common.{arith}
use Rattle.std.proofs.lemmas.Bool.Decides.{nat_tests}
use native.Mathlib.Numerals.{add-one}
use borrow.Author.Tests.{le-leb, lt-leb, lt-ltb, le-ltb}
use Rattle.vector_text.specs.Text.{past_space, starts_with, no_digit, digit_of, number_most, number_read, digits, number_at}

-- A keyword that stands at the start of a text, as std tests it.
eqb_turned : (a b : ℕ) → eqb a b ≡ eqb b a
eqb_turned a b = grind (arith, nat_tests)

pub starts_pointwise : (ks text : List ℕ) → pointwise eqb ks (take (length ks) text) ≡ starts_with ks text
unfolding starts_with
starts_pointwise [] text = refl
starts_pointwise (k ∷ ks) [] = refl
starts_pointwise (k ∷ ks) (b ∷ bs) = rw (eqb_turned k b, starts_pointwise ks bs)

-- A number whose bytes from place i on are still ahead.
module _ (ws : List ℕ) (from value end i : ℕ) where
  pub digits-end : length ws ≤ i → digits from value end (drop i ws) ≡ number_read value from end
  unfolding digits
  digits-end over = rw (drop_of_length-le ws over)

  module _ (inside : i < length ws) (d : ℕ) (is : d ≡ digit_of (get_or ws i 0)) where
    pub digits-stop : no_digit ≤ d → digits from value end (drop i ws) ≡ number_read value from end
    unfolding digits
    digits-stop h = rw (drop-cons ws i 0 inside, ← is, le-leb no_digit d h)

    pub digits_over : d < no_digit → number_most < value → digits from value end (drop i ws) ≡ number_read value from end
    unfolding digits
    digits_over h over = rw (drop-cons ws i 0 inside, ← is, lt-leb no_digit d h, lt-ltb number_most value over)

    pub digits-next : d < no_digit → value ≤ number_most → digits from value end (drop i ws) ≡ digits from (value * 10 + d) (end + 1) (drop (i + 1) ws)
    unfolding digits
    digits-next h fits = rw (drop-cons ws i 0 inside, ← is, lt-leb no_digit d h, le-ltb number_most value fits, add-one end, add-one i)

pub number_of_text : (text : List ℕ) (at from : ℕ) → at ≤ length text → from ≡ past_space text at → number_at text at ≡ digits from 0 from (drop from text)
unfolding number_at
number_of_text text at from h e = rw (le-ltb (length text) at h, e)
