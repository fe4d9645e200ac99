-- An encoding is one term's at most, and passes refusal 12 exactly if it is a term's.
use Prim.Native.Nat.{ℕ, zero, suc, ◌*◌, ◌-◌, ◌≤◌}
use mathlib.Core.Path.{◌≡◌, refl, sym, ap, ◌∙◌}
use mathlib.Core.Bool.{Bool, true, false, not, ◌||◌, true≢false, false≢true}
use mathlib.Core.List.{List, [], ◌∷◌}
use mathlib.Core.Logic.{ite, if_pos, if_neg}
use mathlib.Core.Option.{Option, some, none}
use native.Mathlib.Omega.{arith}
use lib.Dec.{ltb}
use lib.ListN.{length, take, drop, replicate, length-append, length-drop, take-append-drop}
use lib.Seq.{take_at, drop_at, length-take-le}
use borrow.Author.Tests.{ltb-false, le-ltb, not-false}
use Rattle.calculus.specs.Term.{Term}
use Rattle.calculus.specs.Bringing.{is_none}
use Rattle.encoding.specs.Bits.{bits, Combinator}
use Rattle.encoding.specs.Bytes.{byte_bits, unpacked}
use Rattle.encoding.specs.Encoded.{encoded_term, all_zero, wrong_bits, combinator?, is_combinator}
use Rattle.encoding.specs.Theorems.{EncodingOf, EncodingUnique}
use Rattle.encoding.proofs.DecodeLaws.{decode-complete, decode_sound, bits_prefix_free}
use Rattle.encoding.proofs.BytesLaws.{length-unpacked}

pub is-combinator : (t : Term) → Combinator t → is_combinator t ≡ true
is-combinator t h = if_pos (combinator? 0 t) h true false

pub is_no_combinator : (t : Term) → (Combinator t → ⊥) → is_combinator t ≡ false
is_no_combinator t h = if_neg (combinator? 0 t) h true false

pub combinator_is : (t : Term) → is_combinator t ≡ true → Combinator t
combinator_is t q = go (combinator? 0 t) q
  where
    go : (d : Dec (Combinator t)) → ite d true false ≡ true → Combinator t
    go (yes h) e = h
    go (no h) e = absurd (false≢true e)

pub encoding_unique : EncodingUnique
encoding_unique bytes count t u c d = (bits_prefix_free t u _ _ c.pure d.pure (sym c.bits_are ∙ d.bits_are)).0

pub zeros : (n : ℕ) → all_zero (replicate n false) ≡ true
zeros zero = refl
zeros (suc n) = zeros n

pub all_zeros : (bs : List Bool) → all_zero bs ≡ true → bs ≡ replicate (length bs) false
all_zeros [] h = refl
all_zeros (true ∷ bs) h = absurd (false≢true h)
all_zeros (false ∷ bs) h = ap (λ cs. false ∷ cs) (all_zeros bs h)

module _ (t : Term) (bytes : List ℕ) (count : ℕ) (c : EncodingOf t bytes count) where
  pub encoded-term : encoded_term bytes count ≡ some t
  encoded-term = rw (c.bits_are, take_at (bits t) _ count c.counted) (decode-complete t c.pure)

  pub count_fits : count ≤ byte_bits * length bytes
  count_fits = omega (arith, length-unpacked bytes, ap length c.bits_are, length-append (bits t) (replicate (byte_bits * length bytes - count) false))

  pub encoding_right : wrong_bits bytes count ≡ false
  encoding_right = rw (le-ltb (byte_bits * length bytes) count count_fits, encoded-term, c.bits_are, drop_at (bits t) _ count c.counted, zeros)

or_false : (a b : Bool) → (a || b) ≡ false → (a ≡ false) × (b ≡ false)
or_false true b h = absurd (true≢false h)
or_false false b h = (refl, h)

-- What refusal 12 asks, where it is not met.
pub right_bits : (bytes : List ℕ) (count : ℕ) → wrong_bits bytes count ≡ false
    → (count ≤ byte_bits * length bytes) × (all_zero (drop count (unpacked bytes)) ≡ true) × (is_none (encoded_term bytes count) ≡ false)
right_bits bytes count h =
    let p = or_false (ltb (byte_bits * length bytes) count) _ h in
    let q = or_false (not (all_zero (drop count (unpacked bytes)))) _ p.1 in
    (ltb-false (byte_bits * length bytes) count p.0, not-false _ q.0, q.1)

-- Every bit past the count is 0, and the first bits are the term's.
pub encoding_is : (bytes : List ℕ) (count : ℕ) (t : Term) → count ≤ byte_bits * length bytes → all_zero (drop count (unpacked bytes)) ≡ true
    → encoded_term bytes count ≡ some t → EncodingOf t bytes count
encoding_is bytes count t h z e =
    let found = decode_sound (take count (unpacked bytes)) t e in
    let total = length-unpacked bytes in
    let past : length (drop count (unpacked bytes)) ≡ byte_bits * length bytes - count = length-drop count (unpacked bytes) ∙ ap (λ n. n - count) total in
    record {
      pure = found.0;
      counted = ap length found.1 ∙ length-take-le count (unpacked bytes) (omega arith);
      bits_are = sym (take-append-drop count (unpacked bytes)) ∙ cc (all_zeros (drop count (unpacked bytes)) z);
    }

pub encoding_found : (bytes : List ℕ) (count : ℕ) → wrong_bits bytes count ≡ false → (t : Term) × EncodingOf t bytes count
encoding_found bytes count h = go (encoded_term bytes count) refl (right_bits bytes count h)
  where
    go : (o : Option Term) → encoded_term bytes count ≡ o
        → (count ≤ byte_bits * length bytes) × (all_zero (drop count (unpacked bytes)) ≡ true) × (is_none o ≡ false) → (t : Term) × EncodingOf t bytes count
    go none e r = absurd (true≢false r.2)
    go (some t) e r = (t, encoding_is bytes count t r.0 r.1 e)
