-- `narrow` meets its contract: each word is a byte, and is put as it is.
use Rattle.text.proofs.ByteLaws.{narrow_fits, narrow_turn}
use native.Mathlib.Omega.{arith}
use Rattle.text.proofs.bytes.narrow.Goals as goal

pub overflow_cast-bytes : goal.overflow_cast-bytes
overflow_cast-bytes c = record { fits = narrow_fits c.loop-i.invariant (omega arith) }

pub loop-i-preserved : goal.loop-i-preserved
loop-i-preserved c = narrow_turn c.loop-i.invariant (omega arith)
