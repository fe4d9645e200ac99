-- `line` meets its contract: no line is longer than `out`.
use Rattle.verdict_line.specs.Line.{printed}
use Rattle.verdict_text.proofs.LineLaws.{line_length}
use Rattle.verdict_text.specs.Types.{printed_line}
use native.Mathlib.Omega.{arith}
use Rattle.verdict_line.proofs.line.Goals as goal

pub put_line-requires : goal.put_line-requires
put_line-requires c = omega (arith, line_length (printed_line c.judge.result))

pub returns : goal.returns
unfolding printed
returns c = rw c.judge.ensures at c.put_line.ensures
