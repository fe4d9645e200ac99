use Rattle.text.specs.Decimal.{digits, decimal}
use lib.ListN.{take, drop}
use mathlib.Core.List.{◌++◌}
use mathlib.Core.Path.{◌≡◌}
use Rattle.text.proofs.decimal.keep_digits.Given as goal

abbrev pub invariant-loop-i : goal.invariant-loop-i
invariant-loop-i l = record {
  digits : digits l.i l.rest ++ drop l.i l.kept ≡ decimal l.n;
  before : take l.i l.kept ≡ take l.i l.initial.kept;
}
