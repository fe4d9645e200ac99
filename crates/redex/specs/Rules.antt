-- The rule of a redex and where its parts stand, found from the words alone: the rule's body, the arguments that replace together, their number, and
-- how many items of the redex are left behind the body. A redex is an application word and behind it an abstraction word, a case word and behind it a
-- constructor word with a branch for it, or the word of a numeral. The branch is the one of the constructor's tag, if it binds as many variables as there
-- are arguments, or the default where no other has the tag.
--
-- The functions are total. They take the words of a workspace from the position `at` on.
use Rattle.std.specs.Prelude.{ℕ, zero, suc, ◌+◌, cond, List, [], ◌∷◌, eqb, Some, None}
use Rattle.std.specs.Prelude as code
use Rattle.std.specs.Option.{option_or}
use Rattle.std.proofs.Math.Option.{Option, some, none}
use Rattle.calculus.specs.Term.{is_default}
use Rattle.calculus.specs.Words.{abstraction_kind, application_kind, constructor_kind, case_kind, numeral_kind, kind_of, payload_of, tag_of, count_of}
use Rattle.calculus.specs.Skip.{skip, span}
use Rattle.calculus.specs.Contraction.{Rule, by_beta, by_case, by_numeral}
use Rattle.redex.specs.declared.Found.{Found}
use Rattle.redex.specs.declared.Found.TheVariants as found

-- The rule and where the parts stand, the numeral, or that there is no redex.
pub data Parts : Type 0 where
  nothing : Parts
  parted : (rule : Rule) (body args count left : ℕ) → Parts
  numbered : (numeral : ℕ) → Parts

abbrev pub rule_of_parts : Parts → Option Rule
rule_of_parts nothing = none
rule_of_parts (parted rule body args count left) = some rule
rule_of_parts (numbered n) = some by_numeral

-- What was found, or else the default with this body.
abbrev pub or_default : code.Option Found → (body left : ℕ) → code.Option Found
or_default before body left = option_or before (Some (found.Default body left))

-- Among k branches, the body of the first that lists the tag, if it binds n variables, and the number of branches behind it; where none lists it, what
-- was found before them, or else the first default among them.
unfoldable pub branch_body : (before : code.Option Found) (k tag n at : ℕ) → List ℕ → code.Option Found
branch_body before zero t n at ws = before
branch_body before (suc k) t n at [] = before
branch_body before (suc k) t n at (w ∷ ws) =
    cond (is_default (tag_of (payload_of w)) (count_of (payload_of w)))
    (branch_body (or_default before (at + 1) k) k t n (at + 1 + span 1 ws) (skip 1 ws))
    (cond (eqb t (tag_of (payload_of w)))
    (cond (eqb n (count_of (payload_of w))) (Some (found.Listed (at + 1) k)) None)
    (branch_body before k t n (at + 1 + span 1 ws) (skip 1 ws)))

-- The parts of a case by the body that a search among the branches found; the default takes no argument.
abbrev pub with_body : (args n : ℕ) → code.Option Found → Parts
with_body args n None = nothing
with_body args n (Some (found.Listed body left)) = parted by_case body args n left
with_body args n (Some (found.Default body left)) = parted by_case body args 0 left

-- The parts of a case of a constructor, by its word, the constructor's word and the words from there on.
unfoldable pub case_parts : (at w v : ℕ) → List ℕ → Parts
case_parts at w v vs =
    with_body (at + 2) (count_of (payload_of v))
    (branch_body None (payload_of w) (tag_of (payload_of v)) (count_of (payload_of v)) (at + 1 + span 1 vs) (skip 1 vs))

-- The parts by the first word and the words behind it: the first of these tells whether there are any.
unfoldable pub parts_behind : (at w : ℕ) → List ℕ → Parts
parts_behind at w [] = nothing
parts_behind at w (v ∷ vs) =
    cond (eqb (kind_of w) application_kind)
    (cond (eqb (kind_of v) abstraction_kind) (parted by_beta (at + 2) (at + 2 + span 1 vs) 1 1) nothing)
    (cond (eqb (kind_of w) case_kind) (cond (eqb (kind_of v) constructor_kind) (case_parts at w v (v ∷ vs)) nothing) nothing)

unfoldable pub parts : ℕ → List ℕ → Parts
parts at [] = nothing
parts at (w ∷ ws) = cond (eqb (kind_of w) numeral_kind) (numbered (payload_of w)) (parts_behind at w ws)
