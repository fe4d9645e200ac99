-- `word_bits` meets its contract.
use Rattle.binary.proofs.PuttingLaws.{told, variable_length, other_length}
use Rattle.calculus.specs.Words.{payload_of}
use mathlib.Core.Path.{sym}
use native.Mathlib.Omega.{arith}
use Rattle.binary.proofs.putting.word_bits.Goals as goal

pub returns-in-Variable : goal.returns-in-Variable
returns-in-Variable c = omega (arith, c.payload.ensures, variable_length _ (payload_of c.args.word.0) (sym c.in-Variable.ensures))

pub returns-in_default : goal.returns-in_default
returns-in_default c = sym (other_length _ _ (λ e. c.in_default.not-Variable (told c.kind.ensures e)))
