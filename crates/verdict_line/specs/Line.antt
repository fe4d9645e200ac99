-- What the verdict program prints for the bytes that it reads ("The verdict program"): left is loaded, then right, then one press with a fresh session.
use Rattle.std.specs.Prelude.{ℕ, List, replicate}
use Rattle.std.proofs.Math.Option.{Option, some, none}
use Rattle.calculus.specs.Refusal.{number}
use Rattle.claim.specs.State.{fresh}
use Rattle.claim.specs.Press.{press}
use Rattle.claim.specs.Answer as press
use Rattle.calculus.specs.Bringing.{Result, refused, returned}
use Rattle.storage.specs.Load.{load}
use Rattle.request.specs.Request.{Request, request}
use Rattle.verdict_text.specs.Line.{Line, input, refuses, shows, line_bytes}

abbrev pub line_of : press.Answer → Line
line_of (press.refused why) = refuses (number why)
line_of (press.shown a) = shows a

-- The press on what loading left, with workspaces and scratch of C words.
abbrev pub pressed : (C budget : ℕ) → (left right : List ℕ) → (left_length right_length : ℕ) → Line
pressed C budget left right l r =
    line_of
    (press
    (record { left = left; right = right; session = fresh })
    (record { scratch = replicate C 0; left_length = l; right_length = r; budget = budget })
    ).answer

abbrev pub loaded_right : (C budget : ℕ) → (left : List ℕ) → (l : ℕ) → (right : List ℕ) → Result → Line
loaded_right C budget left l right (refused why) = refuses (number why)
loaded_right C budget left l right (returned r) = pressed C budget left right l r

abbrev pub loaded_left : Request → (left : List ℕ) → Result → Line
loaded_left q left (refused why) = refuses (number why)
loaded_left q left (returned l) =
    let loaded = load q.right (replicate q.C 0) in loaded_right q.C q.budget left l loaded.workspace loaded.answer

abbrev pub judged : Option Request → Line
judged none = input
judged (some q) = let loaded = load q.left (replicate q.C 0) in loaded_left q loaded.workspace loaded.answer

-- What the program prints for the bytes that it reads.
unfoldable pub printed : List ℕ → List ℕ
printed bytes = line_bytes (judged (request bytes))
