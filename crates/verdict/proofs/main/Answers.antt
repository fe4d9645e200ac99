-- `main` meets its contract: what is printed lies inside the array that it was put into.
use Rattle.std.proofs.Common.{sym, refl, length-take-le}
use Rattle.verdict_line.proofs.LineLaws.{printed_fits}
use Rattle.verdict.proofs.main.Goals as goal

pub slice_bounds-line-end-2 : goal.slice_bounds-line-end-2
slice_bounds-line-end-2 c = printed_fits _ c.line-length.ensures refl

pub slice_bounds-write_all-end : goal.slice_bounds-write_all-end
slice_bounds-write_all-end c = sym (length-take-le _ _ (printed_fits _ c.line-length.ensures refl))
