-- `visit` meets its contract, arm by arm.
use Rattle.calculus.specs.Skip.{following}
use Rattle.calculus.specs.Words.{abstraction_kind, application_kind, constructor_kind, case_kind, branch_kind, numeral_kind}
use Rattle.substitution.proofs.KindLaws.{visits_kept}
use Rattle.words.specs.Bound.{binding}
use mathlib.Core.Path.{◌∙◌}
use native.Mathlib.Omega.{arith}
use Rattle.substitution.proofs.kinds.visit.Goals as goal

pub returns-in-Application : goal.returns-in-Application
unfolding following binding
returns-in-Application c = visits_kept application_kind c.in-Application.ensures (omega arith) c.keep.ensures

pub returns-in-Abstraction : goal.returns-in-Abstraction
unfolding following binding
returns-in-Abstraction c = visits_kept abstraction_kind c.in-Abstraction.ensures (omega arith) c.keep-in-Abstraction.ensures

pub returns-in-Constructor : goal.returns-in-Constructor
unfolding following binding
returns-in-Constructor c =
    let e = c.keep-in-Constructor.ensures in
    visits_kept constructor_kind c.in-Constructor.ensures (omega arith) (e.0, e.1, omega (arith, e.2, c.count.ensures), e.3)

pub returns-in-Case : goal.returns-in-Case
unfolding following binding
returns-in-Case c =
    let e = c.keep-in-Case.ensures in
    visits_kept case_kind c.in-Case.ensures (omega arith) (e.0, e.1, omega (arith, e.2, c.payload.ensures), e.3)

pub returns-in-Branch : goal.returns-in-Branch
unfolding following binding
returns-in-Branch c =
    let e = c.keep-in-Branch.ensures in
    visits_kept branch_kind c.in-Branch.ensures (omega arith) (e.0, e.1, e.2, e.3 ∙ c.count-in-Branch.ensures)

pub returns-in-Numeral : goal.returns-in-Numeral
unfolding following binding
returns-in-Numeral c = visits_kept numeral_kind c.in-Numeral.ensures (omega arith) c.keep-in-Numeral.ensures

pub returns-in-Unassigned : goal.returns-in-Unassigned
unfolding following binding
returns-in-Unassigned c = visits_kept 7 c.in-Unassigned.ensures (omega arith) c.keep-in-Unassigned.ensures
