use Prim.Native.Nat.{◌+◌, ◌-◌, ◌≤◌}
use Rattle.calculus.specs.Skip.{span}
use lib.ListN.{drop}
use mathlib.Core.Path.{◌≡◌}
use Rattle.search.proofs.ends.Items.hop.Given as goal

abbrev pub invariant-loop : goal.invariant-loop
invariant-loop l = (l.i + span (l.items - l.counter) (drop l.i l.self.ws.now) ≡ l.at + span l.items (drop l.at l.self.ws.now)) × (l.at ≤ l.i)
