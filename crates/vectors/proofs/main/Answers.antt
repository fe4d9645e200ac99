-- `main` meets its contract: what was read lies inside the array that it was put into.
use Prim.Native.Nat.{ℕ}
use lib.ListN.{length-replicate}
use mathlib.Core.Path.{sym}
use Rattle.vectors.proofs.main.Goals as goal

pub slice_bounds-read_full-end : goal.slice_bounds-read_full-end
slice_bounds-read_full-end c = sym (length-replicate {A = ℕ} _ 0)

pub slice_bounds-input-end : goal.slice_bounds-input-end
slice_bounds-input-end c = c.read_full-length.ensures.0

pub slice_bounds-tally_all-end : goal.slice_bounds-tally_all-end
slice_bounds-tally_all-end c = c.read_full-length.ensures.1
