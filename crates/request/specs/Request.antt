-- What the verdict program is asked ("The verdict program"): budget, C, the left table's word count, the left table, the right count, the right
-- table. Missing or surplus bytes, or a count above 8,196, are no request.
use Rattle.std.specs.Prelude.{ℕ, ◌+◌, ◌*◌, cond, ◌&&◌, List, [], ◌∷◌, leb, length, take, drop}
use Rattle.std.proofs.Math.Option.{Option, some, none, bind}
use Rattle.calculus.specs.Words.{workspace_most}
use Rattle.storage.specs.Records.{form1}
use Rattle.text.specs.Bytes.{word_bytes, words_of}

pub record Request : Type 0 where
  pub budget : ℕ
  pub C : ℕ
  pub left : List ℕ
  pub right : List ℕ

-- The most words of a table: a header, and as many records as a workspace has words.
abbrev pub table_limit : ℕ
table_limit = form1.record_words * (workspace_most + 1)

-- The most bytes of a request: budget, C, and two tables behind their counts.
abbrev pub input_most : ℕ
input_most = word_bytes * (4 + 2 * table_limit)

-- A table stands behind its word count: what is made of the table and the words after it.
abbrev pub counted : {A : Type 0} → List ℕ → (List ℕ → List ℕ → Option A) → Option A
counted [] k = none
counted (n ∷ ws) k = cond (leb n table_limit && leb n (length ws)) (k (take n ws) (drop n ws)) none

-- Nothing stands behind the right table.
abbrev pub complete : (budget C : ℕ) → (left right rest : List ℕ) → Option Request
complete budget C left right [] = some (record { budget = budget; C = C; left = left; right = right })
complete budget C left right (w ∷ ws) = none

abbrev pub request_of : List ℕ → Option Request
request_of [] = none
request_of (budget ∷ []) = none
request_of (budget ∷ C ∷ ws) = counted ws (λ left rest. counted rest (complete budget C left))

-- The request that bytes are, if they are one.
unfoldable pub request : List ℕ → Option Request
request bytes = bind (words_of bytes) request_of
