-- `first_token` meets its contract.
use Rattle.bits.proofs.TokenLaws.{token_unended, token_variable, token_short, token-application, token-abstraction}
use Rattle.encoding.proofs.BytesLaws.{length-unpacked}
use Rattle.encoding.specs.Bytes.{unpacked}
use mathlib.Core.Path.{sym, ◌∙◌}
use native.Mathlib.Omega.{arith}
use Rattle.bits.proofs.reading.first_token.Goals as goal

pub returns-then-run-to : goal.returns-then-run-to
returns-then-run-to c =
    token_unended (unpacked c.args.bytes.now) c.args.from c.args.to c.requires.0 (omega (arith, length-unpacked c.args.bytes.now)) (sym c.is_one.ensures ∙ c.if-is_one.true) c.ones-run.ensures c.if-run-to.true

pub returns-then-is_one : goal.returns-then-is_one
returns-then-is_one c =
    token_variable (unpacked c.args.bytes.now) c.args.from c.args.to c.requires.0 (omega (arith, length-unpacked c.args.bytes.now)) (sym c.is_one.ensures ∙ c.if-is_one.true) c.ones-run.ensures c.if-run-to.false

pub returns-then-to-from-lt2 : goal.returns-then-to-from-lt2
returns-then-to-from-lt2 c =
    token_short (unpacked c.args.bytes.now) c.args.from c.args.to c.requires.0 (omega (arith, length-unpacked c.args.bytes.now)) (sym c.is_one.ensures ∙ c.if-is_one.false) (omega arith)

pub returns-then-is_one-2 : goal.returns-then-is_one-2
returns-then-is_one-2 c =
    token-application (unpacked c.args.bytes.now) c.args.from c.args.to c.requires.0 (omega (arith, length-unpacked c.args.bytes.now)) (sym c.is_one.ensures ∙ c.if-is_one.false) (omega arith) (sym c.is_one-2.ensures ∙ c.if-is_one-2.true)

pub returns : goal.returns
returns c =
    token-abstraction (unpacked c.args.bytes.now) c.args.from c.args.to c.requires.0 (omega (arith, length-unpacked c.args.bytes.now)) (sym c.is_one.ensures ∙ c.if-is_one.false) (omega arith) (sym c.is_one-2.ensures ∙ c.if-is_one-2.false)
