-- `fetsguin_press` meets its contract: what `press` promises, with session and answer in words.
use Rattle.firmware.proofs.PressLaws.{press-seen, lengths_within}
use Rattle.firmware.specs.Numbers.{unrefused}
use Rattle.press.specs.Types.{answer_of}
use mathlib.Core.Path.{refl, ap, ap₂}
use Rattle.firmware.proofs.fetsguin_press.Goals as goal

pub session_words-requires : goal.session_words-requires
session_words-requires c =
    let made = c.press.ensures in (lengths_within _ _ made (ap answer_of c.in-Ok.is)).0

pub answer_words-requires : goal.answer_words-requires
answer_words-requires c =
    let made = c.press.ensures in
    (lengths_within _ _ made (ap answer_of c.in-Ok.is)).1

pub returns-in-Err : goal.returns-in-Err
returns-in-Err c =
    let a = c.args in
    press-seen a.session.now a.answer.now _ _ _ _ c.press.ensures refl
    (rw c.in-Err.is (ap (λ n. (n, a.session.now, a.answer.now)) c.number.ensures))

pub returns-in-Ok : goal.returns-in-Ok
returns-in-Ok c =
    let a = c.args in
    press-seen a.session.now a.answer.now _ _ _ _ c.press.ensures refl
    (rw c.in-Ok.is (ap₂ (λ s a. (unrefused, s, a)) c.session_words.ensures c.answer_words.ensures))
