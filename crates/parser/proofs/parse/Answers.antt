-- `parse` meets its contract.
use Rattle.std.proofs.lemmas.Iterator.Adapters.{YieldsList-from_rev_slice}
use Rattle.std.proofs.lemmas.Iterator.Consumers.{YieldsList-turn, YieldsList-end}
use Rattle.std.proofs.lemmas.List.{length_push, length-reverse}
use Rattle.parser.proofs.ParseLaws.{parsing_starts, parsing_room, parsing_count, scan_byte, scan_all, line_words_none, line_words_unsettled, line_words_settled, finish_open, finish-closed}
use Rattle.parser.proofs.PutLaws.{put-behind}
use Rattle.notation.specs.Reader.{scan, step, sign}
use Rattle.parser.specs.Scan.{state_of}
use Prim.Native.Nat.{◌+◌, ◌-◌, ◌<◌}
use lib.ListN.{length, get_or, drop}
use mathlib.Core.Option.{some}
use mathlib.Core.List.{reverse}
use mathlib.Core.Path.{◌≡◌, sym, ◌∙◌}
use native.Mathlib.Omega.{arith}
use Rattle.parser.proofs.parse.Goals as goal
use Rattle.parser.proofs.parse.Goals.{In-Some, In-None}

-- The byte of a turn is the next one from the end, and at the end all are read.
turn : (c : In-Some) → (length c.loop-b.yielded < length c.args.line.now) × (c.in-Some.b.now ≡ get_or (reverse c.args.line.now) (length c.loop-b.yielded) c.in-Some.b.now)
turn c =
    let t = YieldsList-turn (YieldsList-from_rev_slice c.args.line.now cc) c.loop-b.yielded _ c.loop-b.yielded_by _ _ c.in-Some.b c.in-Some.is c.next.ensures.steps in
    (omega (arith, t.0, length-reverse c.args.line.now), t.1)

ended : (c : In-None) → length c.loop-b.yielded ≡ length c.args.line.now
ended c =
    let t = YieldsList-end (YieldsList-from_rev_slice c.args.line.now cc) c.loop-b.yielded _ c.loop-b.yielded_by _ _ c.in-None.is c.next.ensures.steps in
    omega (arith, t.1, length-reverse c.args.line.now)

pub loop-b-init : goal.loop-b-init
loop-b-init c = parsing_starts c.args.line.now c.args.stack.now c.args.out.now c.requires

pub on_byte-requires : goal.on_byte-requires
on_byte-requires c =
    let v = c.loop-b.invariant in
    (rw (v.stack_full, v.out_full) v.within, parsing_room v (turn (goal.at.on_byte-requires c).In-Some).0)

-- The scan with the byte of a turn.
scanned : (c : In-Some) → scan (drop (length c.args.line.now - (length c.loop-b.yielded + 1)) c.args.line.now) ≡ step (sign c.in-Some.b.now) (state_of c.loop-b.s c.loop-b.stack c.loop-b.out)
scanned c = let t = turn c in scan_byte c.args.line.now _ c.in-Some.b.now t.0 t.1 c.loop-b.invariant.scanned

pub returns-in_err-s-clause-out_after : goal.returns-in_err-s-clause-out_after
returns-in_err-s-clause-out_after c =
    rw c.from_residual.ensures
    (line_words_none c.args.line.now _ (scanned (goal.at.returns-in_err-s-clause-out_after c).In-Some ∙ sym c.in_err-s.ensures.steps.1))

pub loop-b-preserved : goal.loop-b-preserved
loop-b-preserved c =
    let v = c.loop-b.invariant in
    let told = c.in_ok-s.ensures.steps in
    rw (length_push c.loop-b.yielded c.in-Some.b)
    (record {
      stack_full = omega (arith, v.stack_full);
      out_full = omega (arith, v.out_full);
      short = v.short;
      within = rw (v.stack_full, v.out_full) at told.0;
      scanned = scanned (goal.at.loop-b-preserved c).In-Some ∙ sym told.1;
    })

-- The scan of the whole line.
whole : (c : In-None) → scan c.args.line.now ≡ some (state_of c.loop-b.s c.loop-b.stack c.loop-b.out)
whole c = scan_all c.args.line.now _ (ended c) c.loop-b.invariant.scanned

pub settle-requires : goal.settle-requires
settle-requires c =
    let v = c.loop-b.invariant in
    (omega (arith, parsing_count v), omega (arith, v.out_full, v.within), v.within.place)

pub returns-in_err-start-clause-out_after : goal.returns-in_err-start-clause-out_after
returns-in_err-start-clause-out_after c =
    rw c.from_residual-in_err-start.ensures
    (line_words_unsettled c.args.line.now (whole (goal.at.returns-in_err-start-clause-out_after c).In-None) (c.in_err-start.ensures.settled.1 c.loop-b.stack))

pub returns-then-start-ne-ROOM-clause-out_after : goal.returns-then-start-ne-ROOM-clause-out_after
returns-then-start-ne-ROOM-clause-out_after c =
    let v = c.loop-b.invariant in
    let told = c.in_ok-start.ensures.settled in
    finish_open c.in_ok-start.start.top c.loop-b.stack _ (omega (arith, told.0, v.within, v.stack_full))
    ∙ line_words_settled c.args.line.now (whole (goal.at.returns-then-start-ne-ROOM-clause-out_after c).In-None) (told.1 c.loop-b.stack)

pub put_applications-requires : goal.put_applications-requires
put_applications-requires c =
    let v = c.loop-b.invariant in
    let kept = c.in_ok-start.ensures.settled.0 in
    (omega (arith, kept, parsing_count v), omega (arith, kept, v.out_full))

pub returns-clause-out_after : goal.returns-clause-out_after
returns-clause-out_after c =
    let told = c.in_ok-start.ensures.settled in
    let put = c.put_applications in
    rw (put-behind c.settle.new.out _ put.result (omega (arith, told.0)) put.ensures.1)
    (finish-closed c.in_ok-start.start.top c.loop-b.stack _ (omega (arith, c.loop-b.invariant.stack_full))
    ∙ line_words_settled c.args.line.now (whole (goal.at.returns-clause-out_after c).In-None) (told.1 c.loop-b.stack))
