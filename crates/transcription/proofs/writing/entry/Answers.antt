-- `entry` meets its contract: each part of the record by the function that finds it.
use Rattle.calculus.proofs.SkipLaws.{span_bounded}
use lib.ListN.{drop, length-drop}
use native.Mathlib.Omega.{arith}
use Rattle.transcription.proofs.writing.entry.Goals as goal

pub overflow_add-extent : goal.overflow_add-extent
overflow_add-extent c =
    omega (arith, c.extent.ensures, span_bounded 1 (drop c.args.i c.args.ws.now), length-drop c.args.i c.args.ws.now)
