-- What is owed about the refusals of a table's header and records: each statement is a type with a name, and its proof in proofs/ has that type. It says in
-- numbers, orders and relations what passes refusals 1 to 5 and 8 ("The stored table", "Numbers for refused calls").
use Rattle.std.specs.Prelude.{ℕ, suc, ◌+◌, ◌*◌, ◌≤◌, ◌<◌, ◌≡◌, true, false, ◌&&◌, List, [], ◌∷◌, ◌↔◌, length, get_or}
use Rattle.std.proofs.Math.Option.{Option, some, none}
use Rattle.calculus.specs.Words.{variable_kind, abstraction_kind, application_kind, constructor_kind, case_kind, branch_kind, numeral_kind, tag_of, count_of, workspace_most}
use Rattle.calculus.specs.Accepted.{argument_limit, branch_limit, numeral_limit, index_limit, IsTag, Pattern}
use Rattle.calculus.specs.Skip.{following}
use Rattle.calculus.specs.Payload.{payload_fits}
use Rattle.storage.specs.Records.{Record, Table, Stored, view, in_form1}
use Rattle.storage.specs.Header.{wrong_length, wrong_header, too_long}
use Rattle.storage.specs.Payload.{value_of, payload}
use Rattle.storage.specs.Values.{value_fits, numberFits, wrong_value}
use Rattle.storage.specs.Links.{wrong_link}
use Rattle.storage.specs.Children.{wrong_children}

-- The records of a table in form 1: n and the root's index are words of the header, each record is four words, its kind, value, first child and next, and
-- none declares its children.
abbrev pub RecordsExact : Type 0
RecordsExact =
    (ws : List ℕ) (i : ℕ) →
    let T : Table = view (in_form1 ws) in
    (T.n ≡ get_or ws 1 0) × (T.root ≡ get_or ws 2 0) × ((T.at i).kind ≡ get_or ws (4 * i) 0) × ((T.at i).value ≡ get_or ws (4 * i + 1) 0)
    × ((T.at i).first ≡ get_or ws (4 * i + 2) 0) × ((T.at i).next ≡ get_or ws (4 * i + 3) 0) × ((T.at i).declared ≡ none)

-- What passes refusal 1: the header's count n is from 1 to 2,048, and the length is that of n + 1 records.
abbrev pub LengthExact : Type 0
LengthExact =
    (S : Stored) →
    let n : ℕ = get_or S.words 1 0 in
    (wrong_length S ≡ false) ↔ ((1 ≤ n) × (n ≤ workspace_most) × (length S.words ≡ S.form.record_words * (n + 1)))

-- What passes refusal 2, in form 1: the header's first word is 1, its root is from 1 to n, and its last word is 0.
abbrev pub HeaderExact : Type 0
HeaderExact =
    (ws : List ℕ) → (wrong_header (in_form1 ws) ≡ false)
    ↔ ((get_or ws 0 0 ≡ 1) × (1 ≤ get_or ws 2 0) × (get_or ws 2 0 ≤ get_or ws 1 0) × (get_or ws 3 0 ≡ 0))

-- What passes refusal 8: n is at most the length of the workspace.
abbrev pub TooLongExact : Type 0
TooLongExact = (T : Table) (C : ℕ) → (too_long T C ≡ false) ↔ (T.n ≤ C)

-- What passes refusal 3: every record has one of these kinds, with a value in its range, and what it declares, if it does, is a number of children that the
-- kind may have.
pub data Valued : (kind value : ℕ) → Type 0 where
  variable : {v : ℕ} → v ≤ index_limit → Valued variable_kind v
  abstraction : Valued abstraction_kind 0
  application : Valued application_kind 0
  constructor : {v : ℕ} → IsTag v → Valued constructor_kind v
  case : Valued case_kind 0
  branch : {v : ℕ} → Pattern (tag_of v) (count_of v) → Valued branch_kind v
  numeral : {v : ℕ} → v ≤ numeral_limit → Valued numeral_kind v

pub data Declarable : (kind : ℕ) (declared : Option ℕ) → Type 0 where
  nothing : {kind : ℕ} → Declarable kind none
  by_variable : Declarable variable_kind (some 0)
  by_abstraction : Declarable abstraction_kind (some 1)
  by_application : Declarable application_kind (some 2)
  by_constructor : {m : ℕ} → m ≤ argument_limit → Declarable constructor_kind (some m)
  by_case : {m : ℕ} → m ≤ branch_limit → Declarable case_kind (some (suc m))
  by_branch : Declarable branch_kind (some 1)
  by_numeral : Declarable numeral_kind (some 0)

abbrev pub ValuesExact : Type 0
ValuesExact =
    (T : Table) → (wrong_value T ≡ false)
    ↔ ((i : ℕ) → 1 ≤ i → i ≤ T.n → Valued (T.at i).kind (T.at i).value × Declarable (T.at i).kind (T.at i).declared)

-- A word's payload fits its kind exactly if the value in it does and the number of items that follow the word; and of a value and a number of children that
-- fit there is a payload, which has them again. So refusal 3 of records that declare their children is that of their words.
abbrev pub PayloadsAsValues : Type 0
PayloadsAsValues =
    ((k p : ℕ) → (value_fits k (value_of k p) && numberFits k (following k p)) ≡ payload_fits k p)
    × ((k v m : ℕ) → value_fits k v ≡ true → numberFits k m ≡ true → (value_of k (payload k v m) ≡ v) × (following k (payload k v m) ≡ m))

-- What passes refusal 4: every link of a record i, if it is not 0, is greater than i and at most n, and exactly one link names each record.
--
-- What is asked of a link of record i.
abbrev pub Later : Table → (i link : ℕ) → Type 0
Later T i l = (l ≡ 0 → ⊥) → (i < l) × (l ≤ T.n)

-- Where a link stands: in the header, or in record j as its first child or its next.
pub data Link : Type 0 where
  of_header : Link
  first_of next_of : (j : ℕ) → Link

-- The link that stands there names record i.
abbrev pub Names : Table → Link → (i : ℕ) → Type 0
Names T of_header i = T.root ≡ i
Names T (first_of j) i = (1 ≤ j) × (j ≤ T.n) × ((T.at j).first ≡ i)
Names T (next_of j) i = (1 ≤ j) × (j ≤ T.n) × ((T.at j).next ≡ i)

abbrev pub LinksExact : Type 0
LinksExact =
    (T : Table) → (wrong_link T ≡ false)
    ↔ (((i : ℕ) → 1 ≤ i → i ≤ T.n → Later T i (T.at i).first × Later T i (T.at i).next)
    × ((i : ℕ) → 1 ≤ i → i ≤ T.n → (p : Link) × Names T p i × ((q : Link) → Names T q i → q ≡ p)))

-- What passes refusal 5: every record has children that fit its kind, as many as it declares, if it does, and the root is no branch and has no next.
--
-- The records from a link on, each the next of the one before; 0 ends them.
pub data Siblings (T : Table) : (link : ℕ) → List Record → Type 0 where
  no_more : Siblings T 0 []
  one_more : {i : ℕ} {rs : List Record} → 1 ≤ i → i ≤ T.n → Siblings T (T.at i).next rs → Siblings T i (T.at i ∷ rs)

-- A term is a record that is no branch.
abbrev pub IsTerm : Record → Type 0
IsTerm r = r.kind ≡ branch_kind → ⊥

abbrev pub AreTerms : List Record → Type 0
AreTerms [] = Unit {0}
AreTerms (r ∷ rs) = IsTerm r × AreTerms rs

-- Branches whose tags rise.
pub data RisingBranches : List Record → Type 0 where
  no_branch : RisingBranches []
  one_branch : {r : Record} → r.kind ≡ branch_kind → RisingBranches (r ∷ [])
  before : {r s : Record} {rs : List Record} → r.kind ≡ branch_kind → tag_of r.value < tag_of s.value → RisingBranches (s ∷ rs)
      → RisingBranches (r ∷ s ∷ rs)

-- The children that a record of each kind may have.
pub data MayHave : (kind : ℕ) → List Record → Type 0 where
  of_variable : MayHave variable_kind []
  of_abstraction : {r : Record} → IsTerm r → MayHave abstraction_kind (r ∷ [])
  of_application : {r s : Record} → IsTerm r → IsTerm s → MayHave application_kind (r ∷ s ∷ [])
  of_constructor : {rs : List Record} → AreTerms rs → length rs ≤ argument_limit → MayHave constructor_kind rs
  of_case : {r : Record} {rs : List Record} → IsTerm r → RisingBranches rs → length rs ≤ branch_limit → MayHave case_kind (r ∷ rs)
  of_branch : {r : Record} → IsTerm r → MayHave branch_kind (r ∷ [])
  of_numeral : MayHave numeral_kind []

pub record HasChildren (T : Table) (i : ℕ) : Type 0 where
  pub children : List Record
  pub siblings : Siblings T (T.at i).first children
  pub fit : MayHave (T.at i).kind children
  pub declared : (m : ℕ) → (T.at i).declared ≡ some m → length children ≡ m

abbrev pub ChildrenExact : Type 0
ChildrenExact =
    (T : Table) → wrong_value T ≡ false → wrong_link T ≡ false → (wrong_children T ≡ false)
    ↔ (((i : ℕ) → 1 ≤ i → i ≤ T.n → HasChildren T i) × IsTerm (T.at T.root) × ((T.at T.root).next ≡ 0))
