-- The workspaces that a request's two tables are loaded into.
use Rattle.std.specs.Prelude.{ℕ, suc, List}
use Rattle.calculus.specs.Words.{workspace_most}
use Rattle.request.specs.declared.Table.{Table}
use Rattle.request.specs.Request.{Request}
use Rattle.request.specs.Parse.{words_of_table}

-- A workspace is lent by at most one word more than it may have.
abbrev pub lent_most : ℕ
lent_most = suc workspace_most

-- The request for workspaces of C words, of two tables that stand in the bytes.
abbrev pub request_for : List ℕ → (budget C : ℕ) → (left right : Table) → Request
request_for bytes budget C left right =
    record { budget = budget; C = C; left = words_of_table bytes left; right = words_of_table bytes right }
