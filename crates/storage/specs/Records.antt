-- A stored table as records ("The stored table"). A record has a kind, a value, its first child and its next sibling; links are indices, and 0 is
-- no record. It may declare how many children it has. What records mean, and what is refused of them, is said of any table of records; a
-- form is a way to keep such a table as words.
use Rattle.std.specs.Prelude.{ℕ, zero, suc, ◌+◌, ◌*◌, ◌≤◌, ◌≡◌, Bool, true, false, ◌&&◌, List, [], ◌∷◌, ◌++◌, leb, eqb, get_or}
use Rattle.std.proofs.Math.Option.{Option, none}
use Rattle.std.proofs.Common.{arith}

pub record Record : Type 0 where
  pub kind : ℕ
  pub value : ℕ
  pub declared : Option ℕ
  pub first : ℕ
  pub next : ℕ

-- A record that declares nothing.
abbrev pub entry : (kind value first next : ℕ) → Record
entry k v f x = record { kind = k; value = v; declared = none; first = f; next = x }

-- n records, numbered from 1, and the index of the root.
pub record Table : Type 0 where
  pub n : ℕ
  pub root : ℕ
  pub at : ℕ → Record

-- Record i is one of the table's and has this kind.
abbrev pub OfKind : Table → (kind i : ℕ) → Type 0
OfKind T kind i = (1 ≤ i) × (i ≤ T.n) × ((T.at i).kind ≡ kind)

-- Whether an index is one of a record.
abbrev pub is_record : Table → ℕ → Bool
is_record T i = leb 1 i && leb i T.n

-- Whether a test holds of every index from 1 to n, and the sum of a function over these indices.
abbrev pub everyOf : ℕ → (ℕ → Bool) → Bool
everyOf zero p = true
everyOf (suc n) p = everyOf n p && p (suc n)

abbrev pub sum_of : ℕ → (ℕ → ℕ) → ℕ
sum_of zero f = 0
sum_of (suc n) f = sum_of n f + f (suc n)

-- A form: its number and how many words a record has; whether the header is one of this form, and the record whose words start at a position; and
-- the words of a header and of a record. Record 0 is the header; in every form it starts with the form's number, n and the root's index, so that
-- a record has three words at least. None has more than four.
pub record Form : Type 0 where
  pub number : ℕ
  pub record_words : ℕ
  pub header_fits : List ℕ → Bool
  pub record_from : List ℕ → (position : ℕ) → Record
  pub header_words : (n root : ℕ) → List ℕ
  pub record_as : Record → List ℕ
  pub three : 3 ≤ record_words
  pub four : record_words ≤ 4

-- A table as words in a form, and its records.
pub record Stored : Type 0 where
  pub form : Form
  pub words : List ℕ

abbrev pub header_count : List ℕ → ℕ
header_count ws = get_or ws 1 0

abbrev pub header_root : List ℕ → ℕ
header_root ws = get_or ws 2 0

abbrev pub record_at : Stored → ℕ → Record
record_at S i = S.form.record_from S.words (S.form.record_words * i)

abbrev pub view : Stored → Table
view S = record { n = header_count S.words; root = header_root S.words; at = record_at S }

-- Form 1: four words a record, its kind, value, first child and next; no record declares its children. The header is 1, n, the root's index, 0.
abbrev pub form1 : Form
form1 =
    record {
      number = 1;
      record_words = 4;
      header_fits = λ ws. eqb (get_or ws 0 0) 1 && eqb (get_or ws 3 0) 0;
      record_from = λ ws p. entry (get_or ws p 0) (get_or ws (p + 1) 0) (get_or ws (p + 2) 0) (get_or ws (p + 3) 0);
      header_words = λ n root. 1 ∷ n ∷ root ∷ 0 ∷ [];
      record_as = λ r. r.kind ∷ r.value ∷ r.first ∷ r.next ∷ [];
      three = omega arith;
      four = omega arith;
    }

abbrev pub in_form1 : List ℕ → Stored
in_form1 ws = record { form = form1; words = ws }

-- The words of records in form 1, one record after the other.
abbrev pub records_words : List Record → List ℕ
records_words [] = []
records_words (r ∷ rs) = form1.record_as r ++ records_words rs

-- What `step` makes of a record from what was made at its first child and at its next sibling; `end` is made at link 0. At most `bound` deep.
unfoldable pub hanging : {A : Type 0} → Table → (end : A) (step : ℕ → A → A → A) (bound link : ℕ) → A
hanging T end step zero l = end
hanging T end step (suc k) l =
    elim (eqb l 0) [
      | true ↦ end
      | false ↦ step l (hanging T end step k (T.at l).first) (hanging T end step k (T.at l).next)
    ]
