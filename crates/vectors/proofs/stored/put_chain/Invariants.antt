use Prim.Native.Nat.{◌-◌}
use Rattle.vectors.specs.Stored.{chain_from, chain}
use lib.ListN.{length}
use lib.Seq.{sets}
use mathlib.Core.Path.{◌≡◌}
use Rattle.vectors.proofs.stored.put_chain.Given as goal

abbrev pub invariant-loop-i : goal.invariant-loop-i
invariant-loop-i l =
    sets l.table l.i (chain_from l.records l.index l.i (length l.table - l.i)) ≡ chain l.records l.index (length l.initial.table)
