-- Writing ("The stored table", "Numbers for refused calls"): the table of a term in form 1, with its records numbered in prefix order from 1, and writing as
-- a function of everything at entry to everything at exit.
use Rattle.std.specs.Prelude.{ℕ, suc, ◌+◌, ◌*◌, cond, List, [], ◌∷◌, ◌++◌, eqb, length}
use Rattle.std.proofs.Math.Option.{Option, some, none}
use Rattle.calculus.specs.Term.{Sort, Exp, var, lam, app, con, case, num, nil, cons, end, branch, Term, count}
use Rattle.calculus.specs.Words.{variable_kind, abstraction_kind, application_kind, constructor_kind, case_kind, branch_kind, numeral_kind, pack, size}
use Rattle.calculus.specs.Workspace.{wrong_workspace, term_at}
use Rattle.calculus.specs.Refusal.{Refusal, WrongLength, WrongWorkspace, NoTerm}
use Rattle.calculus.specs.Bringing.{Result, refused, returned}
use Rattle.storage.specs.Records.{Record, entry, form1, records_words}

-- A link to i, where a list of arguments or branches stands; 0 where it is empty.
abbrev pub link_to : {s : Sort} → ℕ → Exp s → ℕ
link_to i e = cond (eqb (count e) 0) 0 i

-- The records of an expression in prefix order, the first of them at index i. The record of a term has the next sibling x, 0 for none; the
-- siblings in a list are linked to one another, and x is not used. A first child stands right after its parent, and a next sibling right after
-- all that belongs to the one before it.
abbrev pub records : {s : Sort} → (i x : ℕ) → Exp s → List Record
records i x (var v) = entry variable_kind v 0 x ∷ []
records i x (lam b) = entry abstraction_kind 0 (suc i) x ∷ records (suc i) 0 b
records i x (app f a) =
    entry application_kind 0 (suc i) x ∷ (records (suc i) (suc i + size f) f ++ records (suc i + size f) 0 a)
records i x (con t xs) = entry constructor_kind t (link_to (suc i) xs) x ∷ records (suc i) 0 xs
records i x (case e bs) =
    entry case_kind 0 (suc i) x ∷ (records (suc i) (link_to (suc i + size e) bs) e ++ records (suc i + size e) 0 bs)
records i x (num n) = entry numeral_kind n 0 x ∷ []
records i x nil = []
records i x (cons a xs) = records i (link_to (i + size a) xs) a ++ records (i + size a) 0 xs
records i x end = []
records i x (branch t n b bs) =
    entry branch_kind (pack t n) (suc i) (link_to (suc i + size b) bs) ∷ (records (suc i) 0 b ++ records (suc i + size b) 0 bs)

-- The header, and the records with the root at index 1.
abbrev pub table_of : Term → List ℕ
table_of t = form1.header_words (size t) 1 ++ records_words (records 1 0 t)

-- Everything at exit; the workspace is only read.
pub record Written : Type 0 where
  pub answer : Result
  pub table : List ℕ

-- A refusal changes nothing.
abbrev pub refuse_write : (table : List ℕ) → Refusal → Written
refuse_write table why = record { answer = refused why; table = table }

-- Refusal 10 where the workspace holds no term of that length, then refusal 1 where the lent table has another length than the written one.
abbrev pub write_term : (len : ℕ) (table : List ℕ) → Option Term → Written
write_term len table none = refuse_write table NoTerm
write_term len table (some t) =
    cond (eqb (length table) (form1.record_words * (len + 1))) (record { answer = returned len; table = table_of t }) (refuse_write table WrongLength)

unfoldable pub write : (workspace : List ℕ) (len : ℕ) (table : List ℕ) → Written
write workspace len table =
    cond (wrong_workspace (length workspace)) (refuse_write table WrongWorkspace) (write_term len table (term_at workspace len))
