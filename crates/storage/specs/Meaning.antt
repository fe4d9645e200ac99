-- What a table means ("The stored table"). `Means T s i e` says that index i means the expression e: as a term, the record at i; as a list of
-- arguments or of branches, the chain of siblings that starts at i, where 0 is the empty chain. The next sibling of a record is no part of what
-- the record itself means. The children of a record are the chain from its first child; their number is not stored.
--
-- The relation is the definition of what a table means. `meaning` is how loading computes it; `MeaningSound` and `MeaningComplete` state that
-- it follows the relation.
use Rattle.std.specs.Prelude.{ℕ, zero, suc, ◌*◌, ◌≡◌, true, false, cond, ◌&&◌, eqb}
use Rattle.std.proofs.Math.Option.{Option, some, none, map, bind}
use Rattle.calculus.specs.Term.{Sort, term, terms, branches, Exp, var, lam, app, con, case, num, nil, cons, end, branch, Term, Terms, Branches}
use Rattle.calculus.specs.Words.{variable_kind, abstraction_kind, application_kind, constructor_kind, case_kind, branch_kind, numeral_kind, tag_of, count_of}
use Rattle.storage.specs.Records.{Table, OfKind, is_record}

-- The term of a record that is no case, by its kind, its value and the terms that its children mean: the table of the kinds.
pub data Node : (kind value : ℕ) → Terms → Term → Type 0 where
  variable : {v : ℕ} → Node variable_kind v nil (var v)
  abstraction : {b : Term} → Node abstraction_kind 0 (cons b nil) (lam b)
  application : {f a : Term} → Node application_kind 0 (cons f (cons a nil)) (app f a)
  constructor : {v : ℕ} {xs : Terms} → Node constructor_kind v xs (con v xs)
  numeral : {v : ℕ} → Node numeral_kind v nil (num v)

pub data Means (T : Table) : (s : Sort) → ℕ → Exp s → Type 0 where
  plain : {i kind : ℕ} {xs : Terms} {t : Term} → OfKind T kind i → Node kind (T.at i).value xs t → Means T terms (T.at i).first xs
      → Means T term i t
  case_of : {i : ℕ} {e : Term} {bs : Branches} → OfKind T case_kind i → (T.at i).value ≡ 0 → Means T term (T.at i).first e
      → Means T branches (T.at (T.at i).first).next bs → Means T term i (case e bs)
  no_term : Means T terms 0 nil
  a_term : {i : ℕ} {a : Term} {xs : Terms} → Means T term i a → Means T terms (T.at i).next xs → Means T terms i (cons a xs)
  no_branch : Means T branches 0 end
  a_branch : {i : ℕ} {b : Term} {bs : Branches} → OfKind T branch_kind i → Means T terms (T.at i).first (cons b nil)
      → Means T branches (T.at i).next bs → Means T branches i (branch (tag_of (T.at i).value) (count_of (T.at i).value) b bs)

-- `Node` as a function, kind by kind: a variable and a numeral have no child, an abstraction one, an application two, a constructor any number.
abbrev pub leaf_of : Term → Terms → Option Term
leaf_of t nil = some t
leaf_of t (cons a xs) = none

abbrev pub only_one : Terms → Option Term
only_one nil = none
only_one (cons a nil) = some a
only_one (cons a (cons b xs)) = none

abbrev pub application_of : Terms → Option Term
application_of nil = none
application_of (cons f nil) = none
application_of (cons f (cons a nil)) = some (app f a)
application_of (cons f (cons a (cons b xs))) = none

-- Where the value must be 0.
abbrev pub valueless : (value : ℕ) → Option Term → Option Term
valueless zero o = o
valueless (suc v) o = none

unfoldable pub term_of : (kind value : ℕ) → Terms → Option Term
term_of k v xs =
    cond (eqb k variable_kind) (leaf_of (var v) xs)
    (cond (eqb k abstraction_kind) (valueless v (map lam (only_one xs)))
    (cond (eqb k application_kind) (valueless v (application_of xs))
    (cond (eqb k constructor_kind) (some (con v xs))
    (cond (eqb k numeral_kind) (leaf_of (num v) xs)
    none))))

-- What index i means, where `rec` tells what the indices that record i links to mean.
abbrev pub Reading : Type 0
Reading = (s : Sort) → ℕ → Option (Exp s)

unfoldable pub meant_term : Table → Reading → ℕ → Option Term
meant_term T rec i =
    elim (is_record T i) [
      | false ↦ none
      | true ↦ elim (eqb (T.at i).kind case_kind) [
        | true ↦ valueless (T.at i).value
            (bind (rec term (T.at i).first) (λ e. map (case e) (rec branches (T.at (T.at i).first).next)))
        | false ↦ bind (rec terms (T.at i).first) (term_of (T.at i).kind (T.at i).value)
      ]
    ]

unfoldable pub meant_terms : Table → Reading → ℕ → Option Terms
meant_terms T rec i =
    elim (eqb i 0) [ true ↦ some nil | false ↦ bind (rec term i) (λ a. map (cons a) (rec terms (T.at i).next)) ]

unfoldable pub meant_branch : Table → Reading → ℕ → Term → Option Branches
meant_branch T rec i b =
    map (branch (tag_of (T.at i).value) (count_of (T.at i).value) b) (rec branches (T.at i).next)

unfoldable pub meant_branches : Table → Reading → ℕ → Option Branches
meant_branches T rec i =
    elim (eqb i 0) [
      | true ↦ some end
      | false ↦ elim (is_record T i && eqb (T.at i).kind branch_kind)
          [ false ↦ none | true ↦ bind (rec terms (T.at i).first) (λ xs. bind (only_one xs) (meant_branch T rec i)) ]
    ]

-- Term and chain by turns, at most `bound` deep.
unfoldable pub meant : Table → (bound : ℕ) → Reading
meant T zero s i = none
meant T (suc k) term i = meant_term T (meant T k) i
meant T (suc k) terms i = meant_terms T (meant T k) i
meant T (suc k) branches i = meant_branches T (meant T k) i

-- A chain is read at the record that it starts with, and every other link names a later record: so 2 × n deep is enough.
unfoldable pub meaning : Table → Option Term
meaning T = meant T (2 * T.n) term T.root
