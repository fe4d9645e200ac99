-- `window` meets its contract.
use Rattle.bits.proofs.WindowLaws.{window_is, put_none, put_next, put_all}
use Rattle.std.proofs.Common.{◌≡◌, ℕ, ◌+◌, ◌<◌, ◌∙◌, get_or, length, take, drop, ◌-◌, arith}
use Rattle.std.proofs.lemmas.Grind.{common_steps}
use Rattle.bits.proofs.reading.window.Goals as goal

pub returns-in-Some : goal.returns-in-Some
returns-in-Some c =
    let same : (i : ℕ) → i < 8 → get_or c.in-Some.whole.now i 0 ≡ get_or c.args.bytes.now (c.args.at + i) 0 = λ i h. grind (arith, common_steps) in
    c.from_be_bytes.ensures ∙ window_is c.args.at c.args.bytes.now c.type_inv.bytes c.in-Some.whole.now same

pub loop-i-init : goal.loop-i-init
loop-i-init c = put_none _

pub loop-i-preserved : goal.loop-i-preserved
loop-i-preserved c = put_next c.loop-i.invariant (omega (arith, c.loop-i-test.true, c.in_default.ensures.cases))

pub returns : goal.returns
returns c =
    let a = c.args in
    let rest = take (length a.bytes.now - a.at) (drop a.at a.bytes.now) in
    let lent : (i : ℕ) → get_or rest i 0 ≡ get_or a.bytes.now (a.at + i) 0 = λ i. grind (arith, common_steps) in
    c.from_be_bytes-2.ensures ∙ window_is a.at a.bytes.now c.type_inv.bytes c.loop-i.window (λ i h. put_all c.loop-i.invariant c.loop-i-test.false i ∙ lent i)
