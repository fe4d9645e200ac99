-- `find` meets its contract. The invariant: no redex starts before i, and from there on the scratch tells the ends before `known`.
use Rattle.search.proofs.SearchLaws.{ends_inside, searching_on, searching_stuck, search_ends, planned_here}
use lib.ListN.{length}
use mathlib.Core.Path.{ap}
use native.Mathlib.Omega.{arith}
use Rattle.search.proofs.find.Goals as goal
use Rattle.search.proofs.find.Goals.{in-Stuck, in-Nothing}

pub returns-in-Redex-clause-planned : goal.returns-in-Redex-clause-planned
returns-in-Redex-clause-planned c =
    let h = c.in-Redex.ensures in
    planned_here c.loop-i.invariant.searched (h.0, h.1)

pub fill_ends-known-requires : goal.fill_ends-known-requires
fill_ends-known-requires c =
    let v = c.loop-i.invariant in
    (v.searched.holds.limit, omega (arith, ends_inside v.searched.holds c.loop-i-test.true, c.requires.1, v.kept, ap length c.in-Stuck.ensures.1))

pub loop-i-preserved : goal.loop-i-preserved
loop-i-preserved c =
    elim c.match-plan_at.branch [
      | in-Stuck w ↦
          let h = w.in-Stuck.ensures in
          rw (w.scratch-is, w.known-is)
          (searching_stuck c.loop-i.invariant c.loop-i-test.true h.0 h.1 w.fill_ends-known.ensures w.fill_ends-known.auto.ends)
      | in-Nothing w ↦
          let h = w.in-Nothing.ensures in
          rw (w.scratch-is, w.known-is)
          (searching_on c.loop-i.invariant c.loop-i-test.true h.0 h.1)
    ]

pub returns-clause-planned : goal.returns-clause-planned
returns-clause-planned c = search_ends c.loop-i.invariant c.loop-i-test.false
