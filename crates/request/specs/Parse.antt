-- Where the parts of a request stand in the bytes.
use Rattle.std.specs.Prelude.{ℕ, ◌+◌, ◌*◌, ◌≤◌, ◌≡◌, cond, ◌&&◌, List, leb, length, Some, None}
use Rattle.std.specs.Prelude as code_option
use Rattle.std.proofs.Math.Option.{Option, some, none}
use Rattle.request.specs.declared.Table.{Table}
use Rattle.request.specs.declared.Request as code
use Rattle.text.specs.Bytes.{word_bytes}
use Rattle.text.specs.Decode.{word_at, words_from}
use Rattle.request.specs.Request.{Request, table_limit, request}

-- The position after a table.
abbrev pub end : Table → ℕ
end t = t.at + word_bytes * t.words

-- The table whose word count stands at a position: none where a byte of it is missing, or the count is above its limit.
unfoldable pub table_at : List ℕ → (at : ℕ) → code_option.Option Table
table_at bytes at =
    let t : Table = record { at = at + word_bytes; words = word_at bytes at } in
    cond (leb t.at (length bytes) && (leb t.words table_limit && leb (end t) (length bytes))) (Some t) None

abbrev pub words_of_table : List ℕ → Table → List ℕ
words_of_table bytes t = words_from t.words bytes t.at

-- The request that the parts in the bytes are.
abbrev pub request_in : List ℕ → code_option.Option code.Request → Option Request
request_in bytes (Some r) =
    some (record { budget = r.budget; C = r.c; left = words_of_table bytes r.left; right = words_of_table bytes r.right })
request_in bytes None = none

-- A table stands inside the bytes and has no more words than a table may have.
pub record Stands (bytes : List ℕ) (t : Table) : Type 0 where
  pub few : t.words ≤ table_limit
  pub inside : end t ≤ length bytes

abbrev pub Standing : List ℕ → code_option.Option code.Request → Type 0
Standing bytes (Some r) = Stands bytes r.left × Stands bytes r.right
Standing bytes None = Unit {0}

-- The parts are those of the request that the bytes are.
pub record Parses (bytes : List ℕ) (p : code_option.Option code.Request) : Type 0 where
  pub meaning : request_in bytes p ≡ request bytes
  pub standing : Standing bytes p
