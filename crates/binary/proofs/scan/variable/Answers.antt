-- `variable` meets its contract.
use Rattle.binary.proofs.ScanLaws.{clipped_least}
use mathlib.Core.Path.{ap, ◌∙◌}
use native.Mathlib.Omega.{arith}
use Rattle.calculus.specs.Words.{variable_kind, word}
use Rattle.binary.proofs.scan.variable.Goals as goal

pub returns : goal.returns
returns c = c.new.ensures ∙ ap (word variable_kind) (omega (arith, c.min.ensures)) ∙ clipped_least c.args.index
