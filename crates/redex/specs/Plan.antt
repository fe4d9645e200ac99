-- The plan of a contraction: its rule and positions in the workspace, found once and tied to the next term by one law (`rest`).
--
-- The next term's words are those before the redex, those that its rule puts, and the words of the workspace from `end` on. Beta and case put what
-- stands for the words of a body before `stop`: where the body of a beta redex ends with its argument's index, under no binder, the argument stands
-- first from `end` on and `stop` is before that index. A numeral puts its entry of the library.
use Rattle.std.specs.Prelude.{ℕ, ◌+◌, ◌-◌, ◌≤◌, ◌<◌, ◌≡◌, List, [], ◌∷◌, ◌++◌, length, get_or, drop}
use Rattle.std.proofs.Math.Option.{some}
use Rattle.std.proofs.Math.Seq.{slice}
use Rattle.calculus.specs.Words.{abstraction_kind, application_kind, numeral_kind, kind_of, workspace_most, words, size}
use Rattle.calculus.specs.Accepted.{numeral_limit}
use Rattle.calculus.specs.Numeral.{numeral}
use Rattle.calculus.specs.Skip.{span}
use Rattle.calculus.specs.First.{first_terms}
use Rattle.calculus.specs.Contraction.{Rule as CalculusRule, by_beta, by_case, by_numeral}
use Rattle.calculus.specs.Position.{step_at}
use Rattle.words.specs.Limits.{payload_bound}
use Rattle.walk.specs.Rewritten.{substituting, standing}
use Rattle.substitution.specs.Results.{Substitutable, Replaced}
use Rattle.substitution.specs.declared.Body.{Body}
use Rattle.redex.specs.declared.Rule.{Rule}
use Rattle.redex.specs.declared.Rule.TheVariants as rule
use Rattle.redex.specs.declared.Redex.{Redex}
use Rattle.redex.specs.Held.{held, Holds}
use Rattle.redex.specs.Rules.{parted, parts}
use Rattle.redex.specs.Next.{next, next_from, HoldsRedex}

-- The words that stand for those of a body before `stop`.
abbrev pub substituted_words : List ℕ → Body → List ℕ
substituted_words ws b = standing (substituting (first_terms b.count (drop b.args ws))) (b.stop - b.start) (0 ∷ []) (drop b.start ws)

-- The words that a rule puts.
abbrev pub put_by : List ℕ → Rule → List ℕ
put_by ws (rule.Beta b) = substituted_words ws b
put_by ws (rule.Case b) = substituted_words ws b
put_by ws (rule.Numeral n) = words (numeral n)

abbrev pub contractum : List ℕ → Redex → List ℕ
contractum ws r = put_by ws r.rule

-- The rule of the calculus that a plan names.
abbrev pub rule_of : Rule → CalculusRule
rule_of (rule.Beta b) = by_beta
rule_of (rule.Case b) = by_case
rule_of (rule.Numeral n) = by_numeral

-- A body that may be substituted into: it and its arguments stand in the workspace.
pub record Substituting (ws : List ℕ) (b : Body) : Type 0 where
  pub substitutable : Substitutable ws b.start b.args b.count
  pub from : b.start ≤ b.stop
  pub to : b.stop ≤ b.start + span 1 (drop b.start ws)
  pub after_is : (i : ℕ) → b.start ≤ i → i < b.stop → Replaced ws b.start b.count i → b.after ≡ b.args + span b.count (drop b.args ws)
  pub small : span 1 (drop b.start ws) + span b.count (drop b.args ws) ≤ workspace_most

-- What a rule puts may be put.
abbrev pub Puttable : List ℕ → Rule → Type 0
Puttable ws (rule.Beta b) = Substituting ws b
Puttable ws (rule.Case b) = Substituting ws b
Puttable ws (rule.Numeral n) = n ≤ numeral_limit

pub record Plans (ws : List ℕ) (n : ℕ) (r : Redex) : Type 0 where
  pub redex : HoldsRedex ws n r.at
  pub rule_is : step_at r.at (held ws n) ≡ some (rule_of r.rule, next ws n r.at)
  pub puttable : Puttable ws r.rule
  pub ends : r.end ≤ n
  pub rest : next_from ws n r.at ≡ contractum ws r ++ slice r.end n ws
  pub length_is : r.length ≡ size (next ws n r.at)

-- A word of the held term stands at the position, and the room serves a walk over the term.
pub record At (ws : List ℕ) (n at : ℕ) (room : List ℕ) : Type 0 where
  pub holds : Holds ws n
  pub within : at < n
  pub room_fits : n ≤ length room

-- A numeral of the held term stands at a position.
pub record Numbered (ws : List ℕ) (n at : ℕ) : Type 0 where
  pub holds : Holds ws n
  pub within : at < n
  pub numeral : kind_of (get_or ws at 0) ≡ numeral_kind

-- An application of an abstraction stands there.
pub record Applied (ws : List ℕ) (n at : ℕ) (room : List ℕ) : Type 0 where
  pub place : At ws n at room
  pub further : at + 1 < length ws
  pub application : kind_of (get_or ws at 0) ≡ application_kind
  pub abstraction : kind_of (get_or ws (at + 1) 0) ≡ abstraction_kind

-- The end of an argument, which is not told where it occurs once and that is the word before it, under no binder.
pub data EndTold (ws : List ℕ) (args times last after : ℕ) : Type 0 where
  walked : after ≡ args + span 1 (drop args ws) → EndTold ws args times last after
  stays : times ≡ 1 → last ≡ 0 → get_or ws (args - 1) 0 ≡ 0 → after ≡ args → EndTold ws args times last after

-- A case of a constructor stands there, and one of its branches was selected: its body, the end and the number of the arguments that it takes (the
-- default takes none), and how many branches are left behind that one.
pub record Selected (ws : List ℕ) (n at left body after count : ℕ) (room : List ℕ) : Type 0 where
  pub place : At ws n at room
  pub parts_are : parts at (drop at ws) ≡ parted by_case body (at + 2) count left
  pub after_is : after ≡ at + 2 + span count (drop (at + 2) ws)
  pub few : left ≤ payload_bound
