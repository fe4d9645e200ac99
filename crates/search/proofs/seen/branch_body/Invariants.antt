use Prim.Native.Nat.{◌≤◌}
use Rattle.redex.specs.Rules.{branch_body}
use Rattle.std.specs.Prelude.{None}
use lib.ListN.{drop}
use mathlib.Core.Path.{◌≡◌}
use Rattle.search.proofs.seen.branch_body.Given as goal

abbrev pub invariant-loop-left : goal.invariant-loop-left
invariant-loop-left l =
    (branch_body l.found l.left l.tag l.count l.i (drop l.i l.items.ws.now) ≡ branch_body None l.branches l.tag l.count l.at (drop l.at l.items.ws.now)) × (l.at ≤ l.i)
