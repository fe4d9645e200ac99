-- `on_byte` meets its contract, byte by byte.
use Rattle.parser.proofs.PutLaws.{stays_same, words_stay, within_more}
use Rattle.parser.proofs.StepLaws.{settled_none, settled_some}
use Rattle.parser.specs.Scan.{state_of}
use mathlib.Core.Path.{sym}
use native.Mathlib.Omega.{arith}
use Rattle.parser.proofs.on_byte.Goals as goal

pub returns-in_err-settle-clause-steps : goal.returns-in_err-settle-clause-steps
returns-in_err-settle-clause-steps c =
    let a = c.args in
    rw c.from_residual.ensures (
      tt,
      settled_none a.b (state_of a.s a.stack.now a.out.now) (c.in_err-settle.ensures.settled.1 a.stack.now) (sym c.if-is_ascii_digit.ensures.value) (λ e. omega arith),
    )

pub returns-clause-steps : goal.returns-clause-steps
returns-clause-steps c =
    let a = c.args in
    let told = c.begin.ensures.steps in
    let settled = c.in_ok-settle.ensures.settled in (
      within_more _ _ _ c.begin.result settled.0.1 told.0,
      settled_some a.b (state_of a.s a.stack.now a.out.now) _ (settled.1 a.stack.now) told.1 (sym c.if-is_ascii_digit.ensures.value) (λ e. omega arith),
    )

pub returns-clause-stays : goal.returns-clause-stays
returns-clause-stays c =
    let r = c.begin.result in
    (stays_same _ r _, words_stay _ _ _ _ _ r c.begin.ensures.steps.0 c.in_ok-settle.ensures.stays (omega arith) c.begin.ensures.stays)
