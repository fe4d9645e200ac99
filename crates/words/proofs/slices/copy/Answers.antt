-- `copy` meets its contract.
use Rattle.words.proofs.PlacedLaws.{copied_turn, copied}
use Rattle.std.proofs.Common.{◌∙◌}
use Rattle.words.proofs.slices.copy.Goals as goal

pub loop-i-preserved : goal.loop-i-preserved
loop-i-preserved g c =
    let a = c.args in
    copied_turn a.src.now c.loop-i.dst a.from a.to a.out c.loop-i.i c.index-src-from.result c.index-src-from.is c.loop-i-test.true c.requires.within ∙ c.loop-i.invariant

pub returns : goal.returns
returns g c = copied c.requires c.loop-i-test.false c.loop-i.auto.i-end c.loop-i.invariant
