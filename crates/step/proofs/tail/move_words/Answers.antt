-- `move_words` meets its contract. The invariants: the words moved stand where they come, and those still to move where they did.
use Rattle.step.proofs.TailLaws.{lowering_turn, raising_turn, sets_same}
use lib.Seq.{sets, slice}
use mathlib.Core.Path.{◌≡◌, sym, ◌∙◌, ap}
use native.Mathlib.Omega.{arith}
use Rattle.step.proofs.tail.move_words.Goals as goal

pub loop-i-preserved : goal.loop-i-preserved
loop-i-preserved c = lowering_turn c.loop-i.invariant c.loop-i-test.true

pub loop-i-then-from-out-preserved : goal.loop-i-then-from-out-preserved
loop-i-then-from-out-preserved c = raising_turn c.loop-i-then-from-out.invariant c.loop-i-then-from-out-test.true

-- Words that stay where they are.
pub returns-else-from-out : goal.returns-else-from-out
returns-else-from-out c =
    let a = c.args in
    let e : a.out ≡ a.from = omega arith in
    sym (ap (λ o. sets a.ws.now o (slice a.from a.to a.ws.now)) e ∙ sets_same a.ws.now a.from a.to c.requires.ordered c.requires.within)
