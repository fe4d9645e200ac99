-- Refusal 3 ("Numbers for refused calls"): kinds, values, and what records declare.
use Rattle.std.specs.Prelude.{ℕ, suc, Bool, true, cond, not, ◌&&◌, ◌||◌, leb, eqb}
use Rattle.std.proofs.Math.Option.{Option, some, none}
use Rattle.calculus.specs.Words.{variable_kind, application_kind, constructor_kind, case_kind, numeral_kind}
use Rattle.calculus.specs.Accepted.{argument_limit, branch_limit}
use Rattle.calculus.specs.Pattern.{is_tag}
use Rattle.calculus.specs.Payload.{payload_fits}
use Rattle.storage.specs.Records.{Record, Table, everyOf}

-- Refusal 3: a kind above 6, or a value outside its range. A constructor's value is a tag, a case's is 0, and any other is the payload of a word of its kind.
unfoldable pub value_fits : (kind value : ℕ) → Bool
value_fits k v = cond (eqb k constructor_kind) (is_tag v) (cond (eqb k case_kind) (eqb v 0) (payload_fits k v))

-- How many children a kind has; a case has its subject and the branches. The last line is for abstractions and branches.
abbrev pub numberFits : (kind number : ℕ) → Bool
numberFits k m =
    cond (eqb k variable_kind || eqb k numeral_kind) (eqb m 0)
    (cond (eqb k application_kind) (eqb m 2)
    (cond (eqb k constructor_kind) (leb m argument_limit)
    (cond (eqb k case_kind) (leb 1 m && leb m (suc branch_limit))
    (eqb m 1))))

-- A declared number of children is one that the kind has.
abbrev pub declared_fits : (kind : ℕ) (declared : Option ℕ) → Bool
declared_fits k none = true
declared_fits k (some m) = numberFits k m

abbrev pub valued : Record → Bool
valued r = value_fits r.kind r.value && declared_fits r.kind r.declared

unfoldable pub wrong_value : Table → Bool
wrong_value T = not (everyOf T.n (λ i. valued (T.at i)))
