-- `shift_variable` meets its contract: a free variable and a bound one are rewritten as the laws say.
use Prim.Native.Nat.{◌≤◌}
use Rattle.calculus.specs.Shift.{move}
use Rattle.calculus.specs.Words.{variable_kind, payload_of, word}
use Rattle.walk.proofs.RewrittenLaws.{shifting_free, shifting-bound}
use mathlib.Core.List.{[], ◌∷◌}
use mathlib.Core.Path.{sym, ◌∙◌, ap, ap₂}
use mir.Syntax.{w32}
use mir.ValLaws.{to_z-of_z}
use Rattle.walk.proofs.index.shift_variable.Goals as goal

-- The variable is free in the moved part.
pub returns-then-depth-index : goal.returns-then-depth-index
returns-then-depth-index c =
    let free : c.args.depth ≤ payload_of c.args.word.0 = rw c.payload-index.ensures at c.if-depth-index.true in
    let moved = c.moved.ensures ∙ ap₂ move (to_z-of_z w32 c.args.distance c.ranges.distance) c.payload-index.ensures in
    shifting_free c.args.distance c.args.depth c.args.word.0 c.requires.0 free
    ∙ ap (λ v. v ∷ []) (sym (c.new.ensures ∙ ap (word variable_kind) moved))

pub returns : goal.returns
returns c = shifting-bound c.args.distance c.args.depth c.args.word.0 c.requires.0 (rw c.payload-index.ensures at c.if-depth-index.false)
