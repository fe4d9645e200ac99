-- `agreed_both` meets its contract.
use Prim.Native.Nat.{◌+◌}
use Rattle.calculus.specs.Skip.{span}
use Rattle.turn.proofs.AgreeLaws.{redex_long, moved_fits}
use borrow.Author.Tests.{eq-eqb, ne_eqb, lt-leb}
use lib.ListN.{drop}
use mathlib.Core.Path.{refl}
use native.Mathlib.Omega.{arith}
use Rattle.turn.proofs.resume.agreed_both.Goals as goal
use Rattle.turn.proofs.resume.agreed_both.Goals.{else-at-other-via-then-at-other+then-at-agree+else-extent-agree, else-at-other-via-then-at-other+else-at-agree, else-at-other-via-else-at-other}

pub overflow_sub-result-then-extent-agree : goal.overflow_sub-result-then-extent-agree
overflow_sub-result-then-extent-agree c = moved_fits c.requires refl (rw (← c.extent.ensures) c.if-extent-agree.true)

pub returns : goal.returns
returns c =
    let a = c.args in
    elim c.else-at-other.branch [
      | else-at-other-via-then-at-other+then-at-agree+else-extent-agree w ↦
          rw (eq-eqb _ _ w.if-at-other.true, lt-leb (a.at + span 1 (drop a.at a.ws.now)) a.agree (omega arith)) (omega arith)
      | else-at-other-via-then-at-other+else-at-agree w ↦
          rw (eq-eqb _ _ w.if-at-other.true, lt-leb (a.at + span 1 (drop a.at a.ws.now)) a.agree (omega (arith, redex_long c.requires refl)))
          (omega arith)
      | else-at-other-via-else-at-other w ↦ rw (ne_eqb _ _ w.if-at-other.false) (omega arith)
    ]
