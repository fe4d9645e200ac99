-- `fill` meets its contract.
use Rattle.words.proofs.PlacedLaws.{sets_part}
use Prim.Native.Nat.{◌-◌}
use lib.ListN.{replicate, length-replicate}
use native.Mathlib.Omega.{arith}
use Rattle.std.proofs.Common.{rules}
use Rattle.words.proofs.slices.fill.Goals as goal

pub returns : goal.returns
returns c =
    let a = c.args in
    let n = a.to - a.from in
    sets_part (replicate n a.word) a.ws.now a.from a.to (search rules) (omega (arith, length-replicate n a.word)) (omega arith)
