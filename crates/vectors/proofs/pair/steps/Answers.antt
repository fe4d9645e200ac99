-- `steps` meets its contract: what is still ahead decides.
use Rattle.std.proofs.Common.{◌≡◌, ◌-◌, ◌+◌, length, refl, sym, ◌∙◌, arith}
use Rattle.std.proofs.Math.Nat.{sub-zero}
use Rattle.vectors.proofs.StepLaws.{steps_last, steps_next, steps_end}
use Rattle.vectors.specs.Pair.{stage_of, stepped_of}
use Rattle.vectors.proofs.pair.steps.Goals as goal

pub loop-init : goal.loop-init
loop-init c = record { line = refl; ahead = rw sub-zero }

pub loop-preserved : goal.loop-preserved
loop-preserved c =
    let held = c.loop in
    let step = c.step-state in
    let line = c.args.reader.line.now in
    let before = stepped_of (stage_of held.reader.at held.state) held.left held.right in
    let after = stepped_of (stage_of step.new.reader.at step.result) step.new.left step.new.right in
    let same = step.ensures.line ∙ held.invariant.line in
    let end = length line in
    let down : end - (held.counter + 1) ≡ end - held.counter - 1 = omega arith in
    record {
      line = same;
      ahead =
          rw down
          (sym (steps_next line before after (rw held.invariant.line at step.ensures.stage) (end - held.counter) (omega arith) (rw same at c.if-reader.false))
          ∙ held.invariant.ahead);
    }

pub returns-then-reader : goal.returns-then-reader
returns-then-reader c =
    let held = c.loop in
    let step = c.step-state in
    let line = c.args.reader.line.now in
    let before = stepped_of (stage_of held.reader.at held.state) held.left held.right in
    let after = stepped_of (stage_of step.new.reader.at step.result) step.new.left step.new.right in
    let same = step.ensures.line ∙ held.invariant.line in
    rw (c.ends.ensures, same)
    (sym (steps_last line before after (rw held.invariant.line at step.ensures.stage) (length line - held.counter) (omega arith) (rw same at c.if-reader.true))
    ∙ held.invariant.ahead)

pub returns : goal.returns
returns c =
    let held = c.loop in
    sym (steps_end c.args.reader.line.now (stepped_of (stage_of held.reader.at held.state) held.left held.right) _ (omega arith)) ∙ held.invariant.ahead
