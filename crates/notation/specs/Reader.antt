-- How the term of a line is found: over its bytes from the last to the first, so that the words of the term come in prefix order and the number of
-- applications in front of a term is known when its first item has been read. `LineExact` states that it finds the term that the grammar gives,
-- and none where the grammar gives none.
use Rattle.std.specs.Prelude.{ℕ, suc, ◌+◌, ◌*◌, ◌-◌, Bool, cond, ◌&&◌, ◌||◌, List, [], ◌∷◌, ◌++◌, eqb, leb, replicate}
use Rattle.std.proofs.Math.Option.{Option, some, none, bind}
use Rattle.calculus.specs.Term.{Term}
use Rattle.calculus.specs.Accepted.{index_limit}
use Rattle.calculus.specs.Words.{variable_kind, abstraction_kind, application_kind, word}
use Rattle.calculus.specs.Read.{any_term}
use Rattle.notation.specs.Grammar.{space, opening, closing, zero_digit, backslash}

-- What a byte is.
pub data Sign : Type 0 where
  digit : ℕ → Sign
  gap opens closes lambda other : Sign

abbrev pub digit_byte : ℕ → Bool
digit_byte b = leb zero_digit b && leb b (zero_digit + 9)

unfoldable pub sign : ℕ → Sign
sign b =
    cond (eqb b space) gap
    (cond (eqb b opening) opens
    (cond (eqb b closing) closes
    (cond (eqb b backslash) lambda
    (cond (digit_byte b) (digit (b - zero_digit)) other))))

-- What is known of the bytes behind a position: the spaces of the term in which it stands, those of each term around, innermost first, and the words
-- of all items that are read. Either an item has to end here; or a number goes on, with its value and the worth of one more digit; or an item
-- starts here.
pub data State : Type 0 where
  wanted : ℕ → List ℕ → List ℕ → State
  number : (value worth : ℕ) → ℕ → List ℕ → List ℕ → State
  begun : ℕ → List ℕ → List ℕ → State

-- The words of n applications in front of words.
abbrev pub apply : ℕ → List ℕ → List ℕ
apply n ws = replicate n (word application_kind 0) ++ ws

-- Whether digits are an index: it is not too large, and its first digit is its only one or not 0.
unfoldable pub is_index : (value worth : ℕ) → Bool
is_index v p = leb v index_limit && (leb p (v * 10) || eqb p 10)

-- An item that starts at a position.
pub record Begun : Type 0 where
  pub count : ℕ
  pub stack : List ℕ
  pub words : List ℕ

abbrev pub begins : ℕ → List ℕ → List ℕ → Begun
begins n ns ws = record { count = n; stack = ns; words = ws }

-- The item that starts here, if one does; a number that ends here has to be an index.
unfoldable pub settle : State → Option Begun
settle (wanted n ns ws) = none
settle (number v p n ns ws) = cond (is_index v p) (some (begins n ns (word variable_kind v ∷ ws))) none
settle (begun n ns ws) = some (begins n ns ws)

-- A digit is the last of a number, or one more of it.
unfoldable pub on_digit : ℕ → State → Option State
on_digit d (wanted n ns ws) = some (number d 10 n ns ws)
on_digit d (number v p n ns ws) = cond (leb p index_limit) (some (number (d * p + v) (p * 10) n ns ws)) none
on_digit d (begun n ns ws) = none

-- A closing parenthesis ends an item, and the last item of the term inside has to end before it.
unfoldable pub on_close : State → Option State
on_close (wanted n ns ws) = some (wanted 0 (n ∷ ns) ws)
on_close (number v p n ns ws) = none
on_close (begun n ns ws) = none

-- The term around goes on, if there is one.
unfoldable pub popped : List ℕ → List ℕ → Option State
popped [] ws = none
popped (n ∷ ns) ws = some (begun n ns ws)

-- A space, a backslash or an opening parenthesis in front of an item. A backslash or a parenthesis starts an item, and the term that starts behind it
-- is whole: its applications come in front of its words.
unfoldable pub on_begun : Sign → Begun → Option State
on_begun gap b = some (wanted (suc b.count) b.stack b.words)
on_begun lambda b = some (begun 0 b.stack (word abstraction_kind 0 ∷ apply b.count b.words))
on_begun opens b = popped b.stack (apply b.count b.words)
on_begun (digit d) b = none
on_begun closes b = none
on_begun other b = none

unfoldable pub step : Sign → State → Option State
step (digit d) σ = on_digit d σ
step closes σ = on_close σ
step gap σ = bind (settle σ) (on_begun gap)
step lambda σ = bind (settle σ) (on_begun lambda)
step opens σ = bind (settle σ) (on_begun opens)
step other σ = bind (settle σ) (on_begun other)

-- At the end of a line an item has to end.
unfoldable pub scan : List ℕ → Option State
scan [] = some (wanted 0 [] [])
scan (b ∷ bs) = bind (scan bs) (step (sign b))

-- At its start one starts, and no parenthesis is left open.
unfoldable pub finish : List ℕ → List ℕ → Option (List ℕ)
finish [] ws = some ws
finish (n ∷ ns) ws = none

-- The words of the term of a line.
unfoldable pub line_words : List ℕ → Option (List ℕ)
line_words bs = bind (scan bs) (λ σ. bind (settle σ) (λ b. finish b.stack (apply b.count b.words)))

-- The term that these words are, whatever its free numbers: those are refusal 6.
unfoldable pub line_term : List ℕ → Option Term
line_term bs = bind (line_words bs) any_term
