-- The bytes put so far are those that are lent, and 0 stands behind them.
use Rattle.bits.proofs.WindowLaws.{Put}
use Rattle.bits.proofs.reading.window.Given as goal

abbrev pub invariant-loop-i : goal.invariant-loop-i
invariant-loop-i l = Put l.rest l.window l.i
