-- `tally_all` meets its contract: what is still ahead, with the tally so far, decides.
use Rattle.std.proofs.Common.{◌≡◌, ◌-◌, ◌+◌, length, sym, ◌∙◌, arith}
use Rattle.std.proofs.Math.Nat.{sub-zero}
use Rattle.vectors.proofs.TallyLaws.{share_small, tally_over, tally_end, tally_next}
use Rattle.vectors.proofs.vector.tally_all.Goals as goal

pub loop-init : goal.loop-init
loop-init c = record { passed_fits = omega arith; vectors_fit = omega arith; at_fits = omega arith; ahead = rw sub-zero }

pub overflow_add-vectors : goal.overflow_add-vectors
overflow_add-vectors c = let small = share_small _ _ c.share-line.result c.share-line.ensures in omega arith

pub overflow_add-passed : goal.overflow_add-passed
overflow_add-passed c = let small = share_small _ _ c.share-line.result c.share-line.ensures in omega arith

pub loop-preserved : goal.loop-preserved
loop-preserved c =
    let small = share_small _ _ c.share-line.result c.share-line.ensures in
    let end = length c.args.text.now in
    let down : end - (c.loop.counter + 1) ≡ end - c.loop.counter - 1 = omega arith in
    let next = tally_next _ _ _ _ _ c.share-line.result c.line_end-end.ensures.0 c.share-line.ensures c.if-text-at.false (end - c.loop.counter) (omega arith) in
    record {
      passed_fits = omega arith;
      vectors_fit = omega arith;
      at_fits = omega arith;
      ahead = rw down (sym next ∙ c.loop.invariant.ahead);
    }

pub returns-then-text-at : goal.returns-then-text-at
returns-then-text-at c = sym (tally_over _ _ _ _ _ c.if-text-at.true) ∙ c.loop.invariant.ahead

pub returns-after-loop : goal.returns-after-loop
returns-after-loop c = sym (tally_end _ _ _ _ _ (omega arith)) ∙ c.loop.invariant.ahead
