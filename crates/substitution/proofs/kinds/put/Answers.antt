-- `put` meets its contract: an argument stands for the variable, or the variable moved.
use Rattle.substitution.proofs.KindLaws.{visits_argument, visits_moved}
use Rattle.walk.proofs.RewrittenLaws.{no_argument}
use mathlib.Core.Path.{sym}
use mir.Syntax.{w32}
use mir.ValLaws.{to_z-of_z}
use Rattle.substitution.proofs.kinds.put.Goals as goal

pub returns-in-Some : goal.returns-in-Some
returns-in-Some c = visits_argument _ c.requires.1 c.in-Some.ensures

-- No argument stands for it.
pub shift_variable-requires : goal.shift_variable-requires
shift_variable-requires c =
    (c.requires.1, rw (to_z-of_z w32 c.args.distance c.ranges.distance) (c.requires.0.movable c.requires.1 (no_argument _ _ _ (sym c.in-None.ensures))))

pub returns-in-None : goal.returns-in-None
returns-in-None c =
    visits_moved _ c.requires.1 c.in-None.ensures (rw (to_z-of_z w32 c.args.distance c.ranges.distance) at c.shift_variable.ensures) c.keep.ensures
