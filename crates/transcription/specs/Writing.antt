-- The records of a term from its words alone, one for each word in turn: what writing puts into a table.
--
-- How many items follow a word tells where its children are; the items still to come are counted level by level, so that each word is known to
-- have a sibling after it or none. As in `Skip`, the functions are total.
use Rattle.std.specs.Prelude.{ℕ, zero, suc, ◌+◌, ◌-◌, cond, List, [], ◌∷◌, eqb, get_or, set}
use Rattle.calculus.specs.Words.{kind_of, payload_of}
use Rattle.calculus.specs.Skip.{arity, span}
use Rattle.storage.specs.Records.{Record, entry}
use Rattle.storage.specs.Payload.{value_of}

-- A link, where there is something that it leads to.
abbrev pub link_if : (number link : ℕ) → ℕ
link_if m l = cond (eqb m 0) 0 l

-- The record at index i of word w, whose item has so many words, where so many siblings come after it.
abbrev pub entry_of : (i siblings w extent : ℕ) → Record
entry_of i m w s = entry (kind_of w) (value_of (kind_of w) (payload_of w)) (link_if (arity w) (suc i)) (link_if m (i + s))

-- One more level, where it has items.
abbrev pub push : ℕ → List ℕ → List ℕ
push zero ks = ks
push (suc k) ks = suc k ∷ ks

-- The records of the words from index i on, where so many items are still to come at each level, the innermost first.
abbrev pub entries : (i : ℕ) (levels words : List ℕ) → List Record
entries i levels [] = []
entries i [] (w ∷ ws) = []
entries i (k ∷ ks) (w ∷ ws) =
    entry_of i (k - 1) w (span 1 (w ∷ ws)) ∷ entries (suc i) (push (arity w) (push (k - 1) ks)) ws

-- The levels that a slice holds from `top` on, with one more on top of them where it has items: where they start then, and the slice.
abbrev pub pushed : (levels : List ℕ) (top items : ℕ) → ℕ × List ℕ
pushed levels top zero = (top, levels)
pushed levels top (suc k) = (top - 1, set levels (top - 1) (suc k))

-- The same with one item less at the innermost of them.
abbrev pub descended : (levels : List ℕ) (top items : ℕ) → ℕ × List ℕ
descended levels top items = let rest = pushed levels (top + 1) (get_or levels top 0 - 1) in pushed rest.1 rest.0 items
