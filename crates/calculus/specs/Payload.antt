-- Which payloads a word of each kind may have ("Terms and words"), wherever it stands: in a workspace or in a table. What an index may be there besides, by the
-- binders around it, is asked of the term; no term of a workspace has an index above the limit (`IndicesBounded`).
use Rattle.std.specs.Prelude.{ℕ, ◌≤◌, ◌≡◌, Bool, true, false, cond, ◌||◌, ◌↔◌, leb, eqb}
use Rattle.calculus.specs.Words.{variable_kind, abstraction_kind, application_kind, constructor_kind, case_kind, branch_kind, numeral_kind, pack, tag_of, count_of}
use Rattle.calculus.specs.Accepted.{tag_limit, argument_limit, branch_limit, numeral_limit, index_limit}
use Rattle.calculus.specs.Pattern.{is_tagged, is_pattern}

-- The last line is for numbers that are no kind.
unfoldable pub payload_fits : (kind payload : ℕ) → Bool
payload_fits k p =
    cond (eqb k variable_kind) (leb p index_limit)
    (cond (eqb k abstraction_kind || eqb k application_kind) (eqb p 0)
    (cond (eqb k constructor_kind) (is_tagged (tag_of p) (count_of p))
    (cond (eqb k case_kind) (leb p branch_limit)
    (cond (eqb k branch_kind) (is_pattern (tag_of p) (count_of p))
    (cond (eqb k numeral_kind) (leb p numeral_limit)
    false)))))

-- The same in numbers and orders.
pub data Payload : (kind payload : ℕ) → Type 0 where
  variable : {p : ℕ} → p ≤ index_limit → Payload variable_kind p
  abstraction : Payload abstraction_kind 0
  application : Payload application_kind 0
  constructor : {t n : ℕ} → 1 ≤ t → t ≤ tag_limit → n ≤ argument_limit → Payload constructor_kind (pack t n)
  case : {p : ℕ} → p ≤ branch_limit → Payload case_kind p
  default : Payload branch_kind 0
  branch : {t n : ℕ} → 1 ≤ t → t ≤ tag_limit → n ≤ argument_limit → Payload branch_kind (pack t n)
  numeral : {p : ℕ} → p ≤ numeral_limit → Payload numeral_kind p

abbrev pub PayloadsExact : Type 0
PayloadsExact = (k p : ℕ) → (payload_fits k p ≡ true) ↔ Payload k p
