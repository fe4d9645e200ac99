-- `line_end` meets its contract.
use Rattle.std.proofs.Common.{ℕ, ◌≡◌, ◌+◌, length, drop, ◌∙◌, arith, length-drop}
use Rattle.vectors.proofs.TallyLaws.{ends_before, ends_with}
use Rattle.vectors.proofs.vector.line_end.Goals as goal

pub returns-in-Some : goal.returns-in-Some
returns-in-Some c =
    let ends = ends_before c.args.text.now c.args.at c.newline_at.result c.newline_at.ensures c.in-Some.i c.in-Some.is in
    (ends.0, omega arith, omega (arith, ends.1, length-drop {A = ℕ}))

pub returns-in-None : goal.returns-in-None
returns-in-None c =
    let ends = ends_with c.args.text.now c.args.at c.newline_at.result c.newline_at.ensures c.in-None.is in
    let whole : length c.args.text.now ≡ c.args.at + length (drop c.args.at c.args.text.now) = omega (arith, length-drop {A = ℕ}) in
    (whole ∙ ends, omega arith, omega arith)
