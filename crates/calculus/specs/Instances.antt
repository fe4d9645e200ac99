-- What the owed types suppose, met by terms written out: no hypothesis of `Theorems` is empty.
use Rattle.std.specs.Prelude.{◌+◌, ◌≤◌, ◌<◌, ◌≡◌, [], ◌∷◌, ◌++◌, pos, negsuc, ◌+ℤ◌}
use Rattle.calculus.specs.Term.{term, var, lam, app, con, case, num, nil, cons, end, branch, Term, Branches}
use Rattle.calculus.specs.Words.{words, size, workspace_most}
use Rattle.calculus.specs.Accepted.{Rising, Accepted}
use Rattle.calculus.specs.Numeral.{numeral}
use Rattle.calculus.specs.Contraction.{by_beta, by_case, by_numeral, Contracts}
use Rattle.calculus.specs.Conversion.{Contracts₁, Reaches, Joined, Normal}
use Rattle.calculus.specs.Comparison.{differ, compare}
use Rattle.calculus.specs.Theorems.{Packable, arguments}

-- The identity applied to f1; a function that forgets its argument, applied to f0 for f1; both become f1.
abbrev pub identity-applied : Term
identity-applied = app (lam (var 0)) (var 1)

abbrev pub constant-applied : Term
constant-applied = app (lam (var 2)) (var 0)

-- A case of constructor 2 without arguments, whose second branch is f1.
abbrev pub second_branch : Term
second_branch = case (con 2 nil) (branch 1 0 (var 0) (branch 2 0 (var 1) end))

-- A default, f1, and a branch of tag 2; a case of constructor 3 with the argument f0 on them takes the default.
abbrev pub with_default : Branches
with_default = branch 0 0 (var 1) (branch 2 0 (var 0) end)

abbrev pub default_branch : Term
default_branch = case (con 3 (cons (var 0) nil)) with_default

-- A redex at position 3: in the argument of an application under an abstraction.
abbrev pub inner_redex : Term
inner_redex = lam (app (var 0) (app (lam (var 0)) (var 1)))

abbrev pub inner_contracted : Term
inner_contracted = lam (app (var 0) (var 1))

pub record Instances : Type 0 where
  -- WordsPrefixFree: the terms are equal, and different words follow both. It asks nothing of numerals.
  pub packable : Packable (con 1 (cons (var 0) nil))
  pub packable_numeral : Packable (num 32)
  pub starts_alike : words (con 1 (cons (var 0) nil)) ++ (8 ∷ []) ≡ 139 ∷ 0 ∷ 8 ∷ []
  -- MoveExact: up, down, and down to 0.
  pub moves_up : pos 1 +ℤ pos 2 ≡ pos 3
  pub moves_down : pos 3 +ℤ negsuc 1 ≡ pos 1
  pub moves_to_0 : pos 1 +ℤ negsuc 0 ≡ pos 0
  -- SubstitutionExact: the second of three arguments.
  pub between : arguments (cons (var 1) (cons (var 2) (cons (var 3) nil))) ≡ (var 1 ∷ []) ++ (var 2 ∷ var 3 ∷ [])
  -- SelectExact: tags that rise, from a default.
  pub rising : Rising with_default
  -- The types about a contraction, by each rule and inside a term.
  pub contracts_by_beta : Contracts term 0 by_beta identity-applied (var 1)
  pub contracts_by_case : Contracts term 0 by_case second_branch (var 1)
  pub contracts_by_default : Contracts term 0 by_case default_branch (var 1)
  pub contracts_by_numeral : Contracts term 0 by_numeral (num 1) (lam (lam (app (var 1) (var 0))))
  pub contracts_inside : Contracts term 3 by_beta inner_redex inner_contracted
  -- Any numeral contracts, also one that no workspace holds.
  pub contracts_by_numeral_32 : Contracts term 0 by_numeral (num 32) (numeral 32)
  -- RedexesBeforeKept: position 0 lies more than one word before it.
  pub lies_before : 0 + 1 < 3
  -- ContractionKeepsAccepted and IndicesBounded.
  pub accepted : Accepted 0 inner_redex
  pub accepted_short : size inner_redex ≤ workspace_most
  -- NoTermStartsAnother, EqualTermsCompared, UnequalTermsDiffer: another accepted term, which differs from it first where the redex starts.
  pub other_accepted : Accepted 0 inner_contracted
  pub unequal : inner_redex ≡ inner_contracted → ⊥
  pub differ_at_the_redex : compare inner_redex inner_contracted ≡ differ 3
  -- NormalReachesItself, JoinedNormalEqual: f1 is normal, reaches itself and joins itself.
  pub normal : Normal (var 1)
  pub reaches_itself : Reaches (var 1) (var 1)
  pub joins_itself : Joined (var 1) (var 1)
  -- ChurchRosser: two different terms, neither of which reaches the other.
  pub contracts_once : Contracts₁ identity-applied (var 1)
  pub reaches_by_one : Reaches constant-applied (var 1)
  pub joined : Joined identity-applied constant-applied
