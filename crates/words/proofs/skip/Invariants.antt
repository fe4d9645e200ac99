use Prim.Native.Nat.{◌+◌, ◌*◌, ◌-◌, ◌≤◌}
use Rattle.calculus.specs.Skip.{span}
use Rattle.words.specs.Limits.{payload_bound}
use lib.ListN.{length, drop}
use mathlib.Core.Path.{◌≡◌}
use Rattle.words.proofs.skip.Given as goal

abbrev pub invariant-loop-i : goal.invariant-loop-i
invariant-loop-i l = (l.i + span l.pending (drop l.i l.ws) ≡ l.at + span l.items (drop l.at l.ws)) × (l.pending ≤ l.items + l.i * payload_bound)

abbrev pub decreases-loop-i : goal.decreases-loop-i
decreases-loop-i l = length l.ws - l.i
