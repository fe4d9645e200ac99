-- `put_records` meets its contract. The invariant, `Putting`: the records of the words from the i-th on are still to be put.
use Prim.Native.Nat.{ℕ, ◌+◌, ◌-◌, ◌<◌, ◌≤◌}
use Rattle.calculus.proofs.SkipLaws.{span_bounded}
use Rattle.calculus.specs.Skip.{span}
use Rattle.calculus.specs.Words.{workspace_most}
use Rattle.transcription.proofs.WritingLaws.{entry_puttable, putting_start, putting_stops, putting_more}
use lib.ListN.{drop, get_or, replicate, length-replicate, length-drop}
use mathlib.Core.List.{List}
use native.Mathlib.Omega.{arith}
use Rattle.transcription.proofs.writing.put_records.Goals as goal

pub loop-i-init : goal.loop-i-init
loop-i-init c =
    let zeros : List ℕ = replicate (workspace_most + 1) 0 in
    putting_start _ _ zeros _ _ (length-replicate {A = ℕ} (workspace_most + 1) 0) c.push-top.ensures

pub returns-then-top-eq-LEVELS : goal.returns-then-top-eq-LEVELS
returns-then-top-eq-LEVELS c = putting_stops _ _ _ _ _ _ c.if-top-eq-LEVELS.true c.loop-i.invariant

pub put-requires : goal.put-requires
put-requires c =
    let rest = drop c.loop-i.i c.args.ws.now in
    let room = c.requires.1 in (
      omega (arith, c.loop-i.invariant.table_length),
      entry_puttable _ (c.loop-i.i + 1) (get_or c.loop-i.levels c.loop-i.top 0 - 1) (get_or c.args.ws.now c.loop-i.i 0) (span 1 rest) c.entry.ensures (omega arith)
          (omega (arith, span_bounded 1 rest, length-drop c.loop-i.i c.args.ws.now)),
    )

-- The innermost level is there.
inside : (c : goal.After-levels-in-loop-i-2-1) → c.loop-i.top < workspace_most + 1
inside c = omega (arith, c.loop-i.invariant.levels_most, c.if-top-eq-LEVELS.false)

lowest : (c : goal.After-levels-in-loop-i-2-1) → 1 ≤ c.loop-i.top
lowest c = omega (arith, c.loop-i.invariant.levels_left, c.requires.0)

pub loop-i-preserved : goal.loop-i-preserved
loop-i-preserved c =
    putting_more _ _ _ _ _ _ c.loop-i-test.true (inside c) c.loop-i.invariant _ _ _ _ c.entry.ensures c.put.ensures (lowest c)
    (rw (← c.arity.ensures) c.descend-top.ensures)
