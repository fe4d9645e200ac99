-- `entry_length` meets its contract: a numeral has 2 × n + 3 words.
use Rattle.calculus.proofs.NumeralLaws.{numeral-words}
use mathlib.Core.Path.{sym}
use Rattle.library.proofs.entry_length.Goals as goal

pub returns : goal.returns
returns c = sym (numeral-words c.args.n).1
