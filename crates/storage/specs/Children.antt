-- Refusal 5 ("Numbers for refused calls"): the children of every record, and the root.
use Rattle.std.specs.Prelude.{ℕ, zero, suc, Bool, true, false, cond, not, ◌&&◌, List, [], ◌∷◌, ltb, eqb, length}
use Rattle.std.proofs.Math.Option.{Option, some, none}
use Rattle.calculus.specs.Words.{case_kind, branch_kind, tag_of}
use Rattle.storage.specs.Records.{Record, Table, everyOf}
use Rattle.storage.specs.Values.{numberFits}

-- Refusal 5: wrong number or kind of children, over 15 arguments or branches, root a branch or with a next, branch tags not rising.
--
-- The records of the chain from index i, at most `bound` of them.
abbrev pub chain : Table → (bound i : ℕ) → List Record
chain T zero i = []
chain T (suc k) i = elim (eqb i 0) [ true ↦ [] | false ↦ T.at i ∷ chain T k (T.at i).next ]

-- All of them, from a link: where links name later records, no chain has more records than the table.
abbrev pub chain_from : Table → (link : ℕ) → List Record
chain_from T l = chain T T.n l

abbrev pub children : Table → ℕ → List Record
children T i = chain_from T (T.at i).first

abbrev pub is_branch : Record → Bool
is_branch r = eqb r.kind branch_kind

-- The first of these records, if there is one, has a tag above t.
abbrev pub starts_above : ℕ → List Record → Bool
starts_above t [] = true
starts_above t (r ∷ rs) = ltb t (tag_of r.value)

-- Whether a record may stand in a chain of terms, or of branches, with these records after it: a branch has a tag below that of the next.
abbrev pub may_stand : (branches : Bool) → Record → (after : List Record) → Bool
may_stand false r rs = not (is_branch r)
may_stand true r rs = is_branch r && starts_above (tag_of r.value) rs

abbrev pub chain_fits : (branches : Bool) → List Record → Bool
chain_fits b [] = true
chain_fits b (r ∷ rs) = may_stand b r rs && chain_fits b rs

-- Which they are: of a case a term and then branches, of any other kind terms.
abbrev pub subject_first : List Record → Bool
subject_first [] = true
subject_first (r ∷ rs) = not (is_branch r) && chain_fits true rs

abbrev pub sorts_fit : (kind : ℕ) → List Record → Bool
sorts_fit k rs = cond (eqb k case_kind) (subject_first rs) (chain_fits false rs)

unfoldable pub children_fit : (kind : ℕ) → List Record → Bool
children_fit k rs = numberFits k (length rs) && sorts_fit k rs

-- A declared number of children is their number.
abbrev pub agrees : (declared : Option ℕ) (number : ℕ) → Bool
agrees none m = true
agrees (some k) m = eqb k m

abbrev pub record_fits : Table → ℕ → Bool
record_fits T i = agrees (T.at i).declared (length (children T i)) && children_fit (T.at i).kind (children T i)

unfoldable pub wrong_children : Table → Bool
wrong_children T = not (everyOf T.n (record_fits T) && not (is_branch (T.at T.root)) && eqb (T.at T.root).next 0)
