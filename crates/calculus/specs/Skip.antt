-- The extent of the first items of a word list: where they end, found from the words alone. An item is a term or a branch, as in `Read`.
--
-- A word tells how many items follow it, so a count of the items still to come is all that a walk over the words carries. The functions are
-- total: a list that ends too early ends the walk, and a word of no kind is an item by itself.
use Rattle.std.specs.Prelude.{ℕ, zero, suc, ◌+◌, cond, List, [], ◌∷◌, eqb}
use Rattle.calculus.specs.Words.{abstraction_kind, application_kind, constructor_kind, case_kind, branch_kind, kind_of, payload_of, count_of}

-- How many items follow a word, by its kind and payload: the last column of the table.
unfoldable pub following : (kind payload : ℕ) → ℕ
following k p =
    cond (eqb k abstraction_kind) 1
    (cond (eqb k application_kind) 2
    (cond (eqb k constructor_kind) (count_of p)
    (cond (eqb k case_kind) (suc p)
    (cond (eqb k branch_kind) 1
    0))))

abbrev pub arity : ℕ → ℕ
arity w = following (kind_of w) (payload_of w)

-- The words after the first k items.
abbrev pub skip : ℕ → List ℕ → List ℕ
skip k [] = []
skip zero (w ∷ ws) = w ∷ ws
skip (suc k) (w ∷ ws) = skip (arity w + k) ws

-- The number of words of the first k items.
abbrev pub span : ℕ → List ℕ → ℕ
span k [] = 0
span zero (w ∷ ws) = 0
span (suc k) (w ∷ ws) = suc (span (arity w + k) ws)
