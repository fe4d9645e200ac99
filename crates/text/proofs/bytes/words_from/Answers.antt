-- `words_from` meets its contract. The invariant: the words still to come, stored from here on, give what all of them give.
use Prim.Native.Nat.{◌<◌}
use Rattle.text.proofs.DecodeLaws.{length-words_from, get_d_words_from}
use Rattle.text.proofs.Storing.{store_next}
use Rattle.text.specs.Decode.{words_from}
use Rattle.words.proofs.PlacedLaws.{sets_whole}
use lib.ListN.{length}
use lib.Seq.{drop-length}
use mathlib.Core.Path.{◌≡◌, sym, ◌∙◌}
use native.Mathlib.Numerals.{add-one}
use native.Mathlib.Omega.{arith}
use Rattle.text.proofs.bytes.words_from.Goals as goal

pub loop-i-preserved : goal.loop-i-preserved
loop-i-preserved c =
    let a = c.args in
    let l = c.loop-i in
    let n = length a.words.now in
    let inside : l.i < n = omega arith in
    let here = get_d_words_from n a.bytes.now a.at l.i inside in
    store_next (words_from n a.bytes.now a.at) l.words l.i l.i (rw length-words_from inside) (c.word_at.ensures ∙ sym here) (add-one _) ∙ l.invariant

pub returns : goal.returns
returns c =
    let a = c.args in
    let n = length a.words.now in
    let all = length-words_from n a.bytes.now a.at in
    let e : c.loop-i.i ≡ length (words_from n a.bytes.now a.at) = omega (arith, all) in
    rw (e, drop-length) at c.loop-i.invariant ∙ sets_whole _ _ all
