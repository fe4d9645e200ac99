-- `is_whole` meets its contract: the loop is the scan for one whole term, with the frames that wait in a vector.
use Rattle.terms.proofs.IsTerm.{is_term-scan}
use borrow.Author.Tests.{eqb-true}
use Rattle.terms.proofs.Stack.{room, Opened, Turns, popped, entered_some, entered_none, ends_open, ends_filled, filled_more}
use Rattle.terms.proofs.Stack.{turn_refused, turn_on, turn_in, turn_pushes, turn_full}
use Rattle.terms.specs.Frames.{is_filled}
use Rattle.terms.specs.Packed.{unpacked}
use lib.ListN.{length, get_or}
use Rattle.terms.specs.declared.frame.Frame as codeFrame
use Rattle.std.proofs.lemmas.Grind.{common_steps}
use mathlib.Core.List.{List, [], ◌∷◌}
use mathlib.Core.Bool.{true, false, false≢true}
use mathlib.Core.Path.{◌≡◌, refl, sym, ◌∙◌}
use native.Mathlib.Omega.{arith}
use Rattle.terms.proofs.is_whole.Goals as goal
use Rattle.terms.proofs.is_whole.Goals.{then-is_filled+in-Some, else-is_filled, then-not-is_filled+else-is_full, else-not-is_filled, Joined-is_filled, After-rest-rest}
use Prim.Native.Nat.{◌<◌}

no_items : (xs : List codeFrame.Frame) → (false ≡ true → 0 < length xs) × (0 < length xs → false ≡ true) → xs ≡ []
no_items [] h = refl
no_items (x ∷ xs) h = absurd (false≢true (h.1 (omega arith)))

-- The current frame, once a filled one has made room for the next.
opened : (c : Joined-is_filled) → Opened c.args.ws.now c.if-is_filled.waiting.items c.if-is_filled.frame.0 c.loop-w.w-index
opened c =
    elim c.if-is_filled.branch [
      | then-is_filled+in-Some w ↦
          rw (w.waiting-is, w.frame-is)
          (popped c.loop-w.invariant (sym w.if-is_filled.ensures) w.pop.new.self.items w.in-Some.next w.in-Some.ensures.items)
      | else-is_filled w ↦
          rw (w.waiting-is, w.frame-is) (record { kept = c.loop-w.invariant; unfilled = sym w.if-is_filled.ensures })
    ]

-- The word that a turn reads leads to a frame, and the rest is left of the current one.
turns : (c : After-rest-rest) → is_filled (unpacked c.if-is_filled.frame.0) ≡ false
    → Turns c.args.ws.now c.if-is_filled.frame.0 c.loop-w.w-index c.rest-rest.result.0 c.in-Some-enter.inside.0
turns c unfilled =
    let told = entered_some (unpacked c.if-is_filled.frame.0) (unpacked c.in-Some-enter.inside.0) (get_or c.args.ws.now c.loop-w.w-index 0) c.in-Some-enter.ensures in
    record {
      unfilled = unfilled;
      more = c.loop-w-test.true;
      is_rest = c.rest-rest.ensures;
      is_inside = told.1;
      allows = told.0;
    }

pub returns-in_default : goal.returns-in_default
returns-in_default c =
    filled_more c.loop-w.invariant (sym c.if-is_filled.ensures) (no_items c.loop-w.waiting.items c.in_default.ensures.variant) c.loop-w-test.true
    ∙ is_term-scan c.args.ws.now c.requires

pub returns-in_default-enter : goal.returns-in_default-enter
returns-in_default-enter c =
    let o = opened (goal.at.returns-in_default-enter c).Joined-is_filled in
    turn_refused o.kept o.unfilled c.loop-w-test.true (entered_none (unpacked c.if-is_filled.frame.0) _ c.in_default-enter.ensures)
    ∙ is_term-scan c.args.ws.now c.requires

pub loop-w-preserved-then-is_filled-2 : goal.loop-w-preserved-then-is_filled-2
loop-w-preserved-then-is_filled-2 c =
    let o = opened (goal.at.loop-w-preserved-then-is_filled-2 c).Joined-is_filled in
    let t = turns (goal.at.loop-w-preserved-then-is_filled-2 c).After-rest-rest o.unfilled in
    turn_on o.kept t (sym c.if-is_filled-2.ensures)

pub returns-then-is_full : goal.returns-then-is_full
returns-then-is_full c =
    let o = opened (goal.at.returns-then-is_full c).Joined-is_filled in
    let t = turns (goal.at.returns-then-is_full c).After-rest-rest o.unfilled in
    turn_full o.kept t (sym c.if-not-is_filled.ensures) (sym c.if-is_filled-2.ensures) (eqb-true _ room (sym c.if-is_full.ensures.value)) c.requires
    ∙ is_term-scan c.args.ws.now c.requires

-- The frames that wait are asked for by what the vector holds, and not by the call that put them there.
pub loop-w-preserved : goal.loop-w-preserved
loop-w-preserved c =
    let o = opened (goal.at.loop-w-preserved c).Joined-is_filled in
    let t = turns (goal.at.loop-w-preserved c).After-rest-rest o.unfilled in
    elim c.if-not-is_filled.branch [
      | then-not-is_filled+else-is_full w ↦
          turn_pushes o.kept t (sym w.if-not-is_filled.ensures) _ c.rest-rest.result refl (grind (arith, common_steps))
      | else-not-is_filled w ↦ rw w.waiting-is (turn_in o.kept t (sym w.if-not-is_filled.ensures))
    ]

pub returns-then-is_filled-3 : goal.returns-then-is_filled-3
returns-then-is_filled-3 c =
    c.is_empty.ensures ∙ ends_filled c.loop-w.invariant (sym c.if-is_filled-3.ensures) c.loop-w-test.false ∙ is_term-scan c.args.ws.now c.requires

pub returns-else-is_filled-3 : goal.returns-else-is_filled-3
returns-else-is_filled-3 c =
    c.if-is_filled-3.false ∙ ends_open c.loop-w.invariant (sym c.if-is_filled-3.ensures) c.loop-w-test.false ∙ is_term-scan c.args.ws.now c.requires
