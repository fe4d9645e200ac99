-- `keep_digits` meets its contract. The invariant: the digits still to come and those kept are the number's, and before these nothing has changed.
use Prim.Native.Nat.{◌-◌}
use Rattle.text.proofs.DecimalLaws.{digits-next, digits_last, kept_placed}
use Rattle.text.specs.Decimal.{digits_most, digits, decimal}
use Rattle.words.proofs.PlacedLaws.{taken_set}
use lib.ListN.{length-set, drop_of_length-le}
use mathlib.Core.List.{append-nil}
use mathlib.Core.Path.{◌≡◌, refl, ◌∙◌}
use native.Mathlib.Omega.{arith}
use Rattle.text.proofs.decimal.keep_digits.Goals as goal

pub loop-i-init : goal.loop-i-init
unfolding decimal
loop-i-init c = record { digits = rw (drop_of_length-le c.args.kept.now {i = digits_most} (omega arith), append-nil); before = refl }

pub returns-then-rest-lt-BASE : goal.returns-then-rest-lt-BASE
returns-then-rest-lt-BASE c =
    let l = c.loop-i in
    let e = digits_last l.kept l.i l.rest (omega arith) (omega arith) (omega arith) in
    kept_placed _ _ _ _ (omega arith) c.requires (simp length-set (omega arith)) (taken_set _ _ (l.i - 1) l.i _ (omega arith) l.invariant.before) (e ∙ l.invariant.digits)

pub loop-i-preserved : goal.loop-i-preserved
loop-i-preserved c =
    let l = c.loop-i in
    let e = digits-next l.kept l.i l.rest (omega arith) (omega arith) (omega arith) in
    record { digits = e ∙ l.invariant.digits; before = taken_set _ _ (l.i - 1) l.i _ (omega arith) l.invariant.before }

pub returns : goal.returns
unfolding digits
returns c =
    let l = c.loop-i in
    let e : l.i ≡ 0 = omega arith in
    kept_placed _ _ _ _ (omega arith) c.requires (omega arith) refl (rw e at l.invariant.digits)
