-- Between a record's value and the payload of its word ("The stored table"): a constructor's and a case's payload tell how many arguments and branches they
-- have, and any other is the record's value.
use Rattle.std.specs.Prelude.{ℕ, ◌-◌, cond, eqb}
use Rattle.calculus.specs.Words.{constructor_kind, case_kind, pack, tag_of}

-- The value: a constructor's tag, 0 for a case, and otherwise the payload.
unfoldable pub value_of : (kind payload : ℕ) → ℕ
value_of k p = cond (eqb k constructor_kind) (tag_of p) (cond (eqb k case_kind) 0 p)

-- The payload, of a record with so many children.
abbrev pub payload : (kind value children : ℕ) → ℕ
payload k v m = cond (eqb k constructor_kind) (pack v m) (cond (eqb k case_kind) (m - 1) v)
