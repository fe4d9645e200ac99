-- What is owed about what tables mean, loading and writing: each statement is a type with a name, and its proof in proofs/ has that type.
use Rattle.std.specs.Prelude.{ℕ, ◌+◌, ◌-◌, ◌*◌, ◌≤◌, ◌≡◌, Bool, true, false, List, [], ◌∷◌, ◌++◌, ◌↔◌, length, replicate}
use Rattle.std.proofs.Math.Option.{some}
use Rattle.calculus.specs.Term.{Sort, term, Exp, Term}
use Rattle.calculus.specs.Words.{words, size}
use Rattle.calculus.specs.Accepted.{Accepted}
use Rattle.calculus.specs.Workspace.{wrong_workspace}
use Rattle.calculus.specs.Refusal.{Refusal, WrongLength, WrongHeader, WrongValue, WrongLink, WrongChildren, WrongFree, WrongWorkspace, TooLong, NoTerm}
use Rattle.calculus.specs.Theorems.{Held}
use Rattle.calculus.specs.Bringing.{refused, returned, FirstMet, NoneMet}
use Rattle.storage.specs.Records.{Table, form1, Stored, view, in_form1, is_record}
use Rattle.storage.specs.Meaning.{Means, meaning}
use Rattle.storage.specs.Header.{wrong_length, wrong_header, too_long}
use Rattle.storage.specs.Values.{wrong_value}
use Rattle.storage.specs.Links.{wrong_link}
use Rattle.storage.specs.Children.{wrong_children}
use Rattle.storage.specs.FreeNumbers.{wrong_free}
use Rattle.storage.specs.Load.{load_stored, load}
use Rattle.storage.specs.PrefixOrder.{InPrefixOrder}
use Rattle.storage.specs.Write.{table_of, Written, write}

-- A table of records, in any form, whose root is one of them and that meets none of refusals 3 to 6.
pub record Sound (T : Table) : Type 0 where
  pub root_inside : is_record T T.root ≡ true
  pub values : wrong_value T ≡ false
  pub links : wrong_link T ≡ false
  pub children-fit : wrong_children T ≡ false
  pub free_numbers : wrong_free T ≡ false

-- It means a term, which is accepted and has as many words as the table has records.
pub record Meant (T : Table) : Type 0 where
  pub meant : Term
  pub means : Means T term T.root meant
  pub accepted : Accepted 0 meant
  pub length_is : size meant ≡ T.n

abbrev pub SoundMeans : Type 0
SoundMeans = (T : Table) → Sound T → Meant T

-- Whatever a table holds, an index means at most one expression of a sort.
abbrev pub MeansUnique : Type 0
MeansUnique = (T : Table) (s : Sort) (i : ℕ) (e g : Exp s) → Means T s i e → Means T s i g → e ≡ g

-- What `meaning` computes is what the table means, and where links name later records it computes all that the table means.
abbrev pub MeaningSound : Type 0
MeaningSound = (T : Table) (t : Term) → meaning T ≡ some t → Means T term T.root t

abbrev pub MeaningComplete : Type 0
MeaningComplete = (T : Table) (t : Term) → wrong_link T ≡ false → Means T term T.root t → meaning T ≡ some t

-- The refusals in the rules' order, 7, 1, 2, 8, 3, 4, 5, 6, each with whether it is met.
abbrev pub in_order : Stored → (C : ℕ) → List (Refusal × Bool)
in_order S C =
    (WrongWorkspace, wrong_workspace C)
    ∷ (WrongLength, wrong_length S)
    ∷ (WrongHeader, wrong_header S)
    ∷ (TooLong, too_long (view S) C)
    ∷ (WrongValue, wrong_value (view S))
    ∷ (WrongLink, wrong_link (view S))
    ∷ (WrongChildren, wrong_children (view S))
    ∷ (WrongFree, wrong_free (view S))
    ∷ []

-- Loading refuses exactly what it must, and a refusal changes nothing; otherwise the workspace holds the term that the table means, with zeros
-- after it, and its length is returned. This holds in every form.
pub record LoadsExactly (S : Stored) (workspace : List ℕ) : Type 0 where
  pub refuses : (why : Refusal) → ((load_stored S workspace).answer ≡ refused why) ↔ FirstMet why (in_order S (length workspace))
  pub unchanged : (why : Refusal) → (load_stored S workspace).answer ≡ refused why → (load_stored S workspace).workspace ≡ workspace
  pub returns : (l : ℕ) → ((load_stored S workspace).answer ≡ returned l) ↔ (NoneMet (in_order S (length workspace)) × ((view S).n ≡ l))
  pub holds : (l : ℕ) → (load_stored S workspace).answer ≡ returned l
      → (t : Term) × Means (view S) term (view S).root t × Accepted 0 t × (size t ≡ l)
      × ((load_stored S workspace).workspace ≡ words t ++ replicate (length workspace - l) 0)

abbrev pub LoadingExact : Type 0
LoadingExact = (S : Stored) (workspace : List ℕ) → LoadsExactly S workspace

-- Writing refuses by 7, then 10, then 1, and leaves the lent table as it was; otherwise this is the table of the term, with its records in prefix order, and
-- their number is returned.
abbrev pub table_kept : (table : List ℕ) → Refusal → Written
table_kept table why = record { answer = refused why; table = table }

pub record WritesExactly (workspace : List ℕ) (len : ℕ) (table : List ℕ) : Type 0 where
  pub wrong-workspace : wrong_workspace (length workspace) ≡ true → write workspace len table ≡ table_kept table WrongWorkspace
  pub no_term : wrong_workspace (length workspace) ≡ false → ((t : Term) → Held workspace len t → ⊥) → write workspace len table ≡ table_kept table NoTerm
  pub wrong-length : wrong_workspace (length workspace) ≡ false → (t : Term) → Held workspace len t → (length table ≡ 4 * (len + 1) → ⊥)
      → write workspace len table ≡ table_kept table WrongLength
  pub leaves : wrong_workspace (length workspace) ≡ false → (t : Term) → Held workspace len t → length table ≡ 4 * (len + 1)
      → write workspace len table ≡ record { answer = returned len; table = table_of t }

abbrev pub WritingExact : Type 0
WritingExact = (workspace : List ℕ) (len : ℕ) (table : List ℕ) → WritesExactly workspace len table

-- Loading what was written gives the term again: for every accepted term that a workspace holds, whatever stands after it there and in the two
-- lent parts that are written to.
abbrev pub LoadAfterWrite : Type 0
LoadAfterWrite =
    (t : Term) (rest table target : List ℕ) → Accepted 0 t → wrong_workspace (length (words t ++ rest)) ≡ false
    → length table ≡ form1.record_words * (size t + 1) → wrong_workspace (length target) ≡ false → size t ≤ length target
    → ((write (words t ++ rest) (size t) table).answer ≡ returned (size t))
    × ((load (write (words t ++ rest) (size t) table).table target).answer ≡ returned (size t))
    × ((load (write (words t ++ rest) (size t) table).table target).workspace ≡ words t ++ replicate (length target - size t) 0)

-- Writing what was loaded gives the table again exactly when its records were in prefix order, whatever the part that is written to held.
abbrev pub WriteAfterLoad : Type 0
WriteAfterLoad =
    (table workspace out : List ℕ) (l : ℕ) → (load table workspace).answer ≡ returned l → length out ≡ length table
    → ((write (load table workspace).workspace l out).answer ≡ returned l)
    × (((write (load table workspace).workspace l out).table ≡ table) ↔ InPrefixOrder (view (in_form1 table)))
