-- Encodings ("Binary encodings"): bytes with a bit count beside them, "and every lent bit past the count is 0"; those who exchange them call one a card. What
-- refusals 12 and 13 ask.
use Rattle.std.specs.Prelude.{ℕ, ◌*◌, Bool, true, false, not, ◌&&◌, ◌||◌, List, [], ◌∷◌, ltb, length, take, drop}
use Rattle.std.proofs.Math.Logic.{ite}
use Rattle.std.proofs.Math.Option.{Option, some, none}
use Rattle.std.proofs.Math.Decide.{dec_lt}
use Rattle.calculus.specs.Term.{Term}
use Rattle.calculus.specs.Decide.{everywhere?}
use Rattle.calculus.specs.Bringing.{is_none}
use Rattle.encoding.specs.Bits.{combinators, CombinatorUnder}
use Rattle.encoding.specs.Bytes.{byte_bits, unpacked}
use Rattle.encoding.specs.Decoding.{decode}

-- The term of an encoding, by its first `count` bits.
abbrev pub encoded_term : (bytes : List ℕ) (count : ℕ) → Option Term
encoded_term bytes count = decode (take count (unpacked bytes))

abbrev pub all_zero : List Bool → Bool
all_zero [] = true
all_zero (b ∷ bs) = not b && all_zero bs

-- Refusal 12: the count is past the lent bytes, a lent bit past the count is not 0, or the bits end early or are left over.
abbrev pub wrong_bits : (bytes : List ℕ) (count : ℕ) → Bool
wrong_bits bytes count =
    ltb (byte_bits * length bytes) count || (not (all_zero (drop count (unpacked bytes))) || is_none (encoded_term bytes count))

-- Refusal 13: a term that is not closed or has another kind of word. What is no term meets an earlier refusal.
unfoldable pub combinator? : (d : ℕ) (t : Term) → Dec (CombinatorUnder d t)
combinator? d t =
    everywhere? {P = combinators}
    (record {
      of_variable? = λ d i. dec_lt i d;
      of_constructor? = λ t n. no (λ e. e);
      of_case? = λ bs. no (λ e. e);
      of_branch? = λ t n. no (λ e. e);
      of_numeral? = λ n. no (λ e. e);
    })
    d t

abbrev pub is_combinator : Term → Bool
is_combinator t = ite (combinator? 0 t) true false

abbrev pub no_combinator : Option Term → Bool
no_combinator none = false
no_combinator (some t) = not (is_combinator t)
