-- Importing an encoding into a workspace ("Binary encodings", "Numbers for refused calls"), as a function of everything at entry to everything at exit;
-- the encoding is only read.
use Rattle.std.specs.Prelude.{ℕ, Bool, List, [], ◌∷◌, length}
use Rattle.calculus.specs.Workspace.{wrong_workspace}
use Rattle.calculus.specs.Refusal.{Refusal, WrongWorkspace, TooLong, WrongBits, NoCombinator}
use Rattle.calculus.specs.Bringing.{Brought, bring, longer_than}
use Rattle.encoding.specs.Encoded.{encoded_term, wrong_bits, no_combinator}

-- The refusals in the order in which importing checks them, 7, 12, 8, 13, each with whether it is met, by the encoding and the length C of the workspace.
abbrev pub import_checks : (bytes : List ℕ) (count C : ℕ) → List (Refusal × Bool)
import_checks bytes count C =
    (WrongWorkspace, wrong_workspace C)
    ∷ (WrongBits, wrong_bits bytes count)
    ∷ (TooLong, longer_than C (encoded_term bytes count))
    ∷ (NoCombinator, no_combinator (encoded_term bytes count))
    ∷ []

unfoldable pub import : (bytes : List ℕ) (count : ℕ) (workspace : List ℕ) → Brought
import bytes count workspace = bring (import_checks bytes count (length workspace)) (encoded_term bytes count) workspace
