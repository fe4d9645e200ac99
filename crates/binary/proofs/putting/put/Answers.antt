-- `put` meets its contract. The invariant: the bits of the words before `w` are put, and end at `at`.
use Prim.Native.Nat.{◌+◌}
use Rattle.binary.proofs.PuttingLaws.{length_more, length-within, length_below, put-nothing, kept-length, rest_zero, put-more}
use lib.ListN.{length}
use mathlib.Core.Path.{refl}
use native.Mathlib.Omega.{arith}
use Rattle.binary.proofs.putting.put.Goals as goal

pub loop-w-init : goal.loop-w-init
loop-w-init c = record { at = refl; put = put-nothing (length c.args.bytes.now) c.requires.cleared }

pub put_word-at-requires-clause-bits_fit : goal.put_word-at-requires-clause-bits_fit
put_word-at-requires-clause-bits_fit c =
    let a = c.args in
    let l = c.loop-w in
    let more = length_more a.words.now l.w-index (omega arith) in
    omega (arith, kept-length a.words.now a.bytes.now c.requires.bits_fit.1 l.w-index l.invariant.put, length-within a.words.now (l.w-index + 1))

pub put_word-at-requires-clause-position_fits : goal.put_word-at-requires-clause-position_fits
put_word-at-requires-clause-position_fits c =
    let a = c.args in
    let l = c.loop-w in
    let more = length_more a.words.now l.w-index (omega arith) in
    omega (arith, length_below a.words.now (l.w-index + 1) c.type_inv.words (omega arith))

pub put_word-at-requires-clause-rest_zero : goal.put_word-at-requires-clause-rest_zero
put_word-at-requires-clause-rest_zero c =
    rest_zero c.args.words.now c.args.bytes.now c.requires.bits_fit.1 c.loop-w.w-index c.loop-w.invariant.put c.loop-w.invariant.at

pub loop-w-preserved : goal.loop-w-preserved
loop-w-preserved c =
    let a = c.args in
    let l = c.loop-w in
    record {
      at = omega (arith, length_more a.words.now l.w-index (omega arith), c.put_word-at.ensures.position);
      put = put-more a.words.now a.bytes.now c.requires.bits_fit.1 l.w-index l.invariant.put l.invariant.at (omega arith) c.put_word-at.ensures.put;
    }
