-- `hold` meets its contract: the words are copied, and clearing leaves the zeros.
use Rattle.words.proofs.BringingLaws.{held}
use lib.Seq.{length-slice}
use native.Mathlib.Omega.{arith}
use Rattle.words.proofs.workspace.hold.Goals as goal

pub returns : goal.returns
returns c =
    let start = c in
    held _ c.args.workspace.now
    (omega (arith, c.requires.fits, length-slice c.args.from c.args.to c.args.src.now c.requires.within))
    _ _ _ c.copy-end.ensures c.clear.ensures
