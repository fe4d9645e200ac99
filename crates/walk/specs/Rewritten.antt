-- What becomes of a single word where terms are put for variables, and what a function that writes words leaves behind.
use Rattle.std.specs.Prelude.{ℕ, zero, suc, ◌+◌, ◌-◌, cond, List, [], ◌∷◌, ◌++◌, ltb, eqb, ℤ, replicate, Option, Some, None}
use Rattle.calculus.specs.Term.{Term, Terms, var}
use Rattle.calculus.specs.Words.{variable_kind, kind_of, payload_of, words}
use Rattle.calculus.specs.Shift.{shift}
use Rattle.calculus.specs.Substitution.{subst}
use Rattle.calculus.specs.Skip.{arity}
use Rattle.words.specs.Bound.{bound}

-- What shift and substitution put for index i under d binders.
abbrev pub shifting : ℤ → (d i : ℕ) → Term
shifting z d i = shift z d (var i)

abbrev pub substituting : Terms → (d i : ℕ) → Term
substituting xs d i = subst xs d (var i)

-- The words that stand for one word under d binders, where the term `f d i` is put for index i: only a variable changes.
unfoldable pub rewritten : (ℕ → ℕ → Term) → (d w : ℕ) → List ℕ
rewritten f d w = cond (eqb (kind_of w) variable_kind) (words (f d (payload_of w))) (w ∷ [])

-- The words that stand for the first k words of items, given the binders around each of the items.
abbrev pub standing : (ℕ → ℕ → Term) → (k : ℕ) → List ℕ → List ℕ → List ℕ
standing f zero ds ws = []
standing f (suc k) ds [] = []
standing f (suc k) [] (w ∷ ws) = []
standing f (suc k) (d ∷ ds) (w ∷ ws) = rewritten f d w ++ standing f k (replicate (arity w) (d + bound w) ++ ds) ws

-- The place, from the first, of the one of n arguments that stands for a word under d binders, and n where none does: the last argument is
-- index 0.
unfoldable pub place : (n d w : ℕ) → ℕ
place n d w =
    cond (eqb (kind_of w) variable_kind)
    (cond (ltb (payload_of w) d) n
    (cond (ltb (payload_of w - d) n) (n - 1 - (payload_of w - d))
    n))
    n

-- The argument that stands for a word, by its place, if one does.
abbrev pub argument_at : (n d w : ℕ) → Option ℕ
argument_at n d w = cond (ltb (place n d w) n) (Some (place n d w)) None
