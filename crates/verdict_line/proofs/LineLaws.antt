-- What is printed fits, and the line of a workspace that is lent in part.
use Prim.Native.Nat.{ℕ, ◌≤◌, ◌<◌, min}
use mathlib.Core.Path.{◌≡◌, sym, ◌∙◌}
use mathlib.Core.Bool.{and-false}
use mathlib.Core.List.{List}
use mathlib.Core.Option.{some}
use native.Mathlib.Omega.{arith}
use native.Mathlib.Decide.{dec_lt}
use lib.Seq.{length-sets}
use borrow.Author.Tests.{lt-leb}
use lib.ListN.{length, replicate, length-replicate}
use Rattle.calculus.specs.Words.{workspace_most}
use Rattle.calculus.specs.Refusal.{WrongWorkspace, number}
use Rattle.calculus.specs.Bringing.{refused}
use Rattle.storage.specs.Load.{load_stored, load}
use Rattle.request.specs.Request.{Request, request}
use Rattle.words.specs.Placed.{Placed}
use Rattle.verdict_text.specs.Line.{refuses, printed_most}
use Rattle.verdict_text.proofs.LineLaws.{line_length}
use Rattle.verdict_line.specs.Line.{judged, printed}
use Rattle.verdict_line.specs.Judge.{lent_most}

-- What is printed fits where it is put.
pub printed_fits : {before after : List ℕ} (bytes : List ℕ) {r : ℕ} → Placed before 0 (printed bytes) after r → length before ≡ printed_most → r ≤ length after
unfolding printed
printed_fits {before} bytes p size =
    rw (p.slice, length-sets) (omega (arith, p.position, line_length (judged (request bytes))))

-- A workspace above the limit is refused, whatever its length.
too_large : (table ws : List ℕ) → workspace_most < length ws → (load table ws).answer ≡ refused WrongWorkspace
unfolding load_stored
too_large table ws h = rw (lt-leb (length ws) workspace_most h, and-false)

too_large_line : (q : Request) → workspace_most < q.C → judged (some q) ≡ refuses (number WrongWorkspace)
too_large_line q h = rw (too_large q.left (replicate q.C 0) (rw length-replicate h))

-- So a request is judged by the words that are lent.
pub judged_lent : (budget C : ℕ) (left right : List ℕ)
    → judged (some (record { budget = budget; C = C; left = left; right = right }))
    ≡ judged (some (record { budget = budget; C = min C lent_most; left = left; right = right }))
judged_lent budget C left right = go (dec_lt C lent_most)
  where
    go : Dec (C < lent_most)
        → judged (some (record { budget = budget; C = C; left = left; right = right }))
        ≡ judged (some (record { budget = budget; C = min C lent_most; left = left; right = right }))
    go (yes h) = let e : min C lent_most ≡ C = omega arith in rw e
    go (no h) =
        too_large_line (record { budget = budget; C = C; left = left; right = right }) (omega arith)
        ∙ sym (too_large_line (record { budget = budget; C = min C lent_most; left = left; right = right }) (omega arith))
