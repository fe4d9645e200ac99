-- `argument` meets its contract: `moved` counts the index from the binders around the word, and the tests are those of `place`.
use Prim.Native.Nat.{◌-◌, ◌≤◌}
use Rattle.calculus.proofs.Move.{move_down}
use Rattle.calculus.specs.Shift.{move}
use Rattle.calculus.specs.Words.{payload_of}
use Rattle.walk.proofs.RewrittenLaws.{place-argument, place_past, place-bound, argument_stands, argument_none}
use mathlib.Core.Path.{sym, ◌∙◌, ap, ap₂}
use mir.Syntax.{w32}
use mir.ValLaws.{to_z-of_z}
use native.Mathlib.Omega.{arith}
use Rattle.walk.proofs.index.argument.Goals as goal

-- The variable is not bound inside the body: its index is counted from the binders around the word.
pub returns-then-k-count : goal.returns-then-k-count
returns-then-k-count c =
    let a = c.args in
    let free : a.depth ≤ payload_of a.word.0 = rw c.payload-index.ensures at c.if-depth-index.true in
    let distance = to_z-of_z w32 c.down.result (record { sfits = c.down.type_inv }) ∙ c.down.ensures in
    let counted = c.moved-k.ensures ∙ ap₂ move distance c.payload-index.ensures ∙ move_down a.depth (payload_of a.word.0) in
    let at = place-argument a.count a.depth a.word.0 c.requires.0 free (omega arith) ∙ ap (λ k. a.count - 1 - k) (sym counted) in
    sym (argument_stands a.count a.depth a.word.0 at (omega arith))

pub returns-else-k-count : goal.returns-else-k-count
returns-else-k-count c =
    let a = c.args in
    let free : a.depth ≤ payload_of a.word.0 = rw c.payload-index.ensures at c.if-depth-index.true in
    let distance = to_z-of_z w32 c.down.result (record { sfits = c.down.type_inv }) ∙ c.down.ensures in
    let counted = c.moved-k.ensures ∙ ap₂ move distance c.payload-index.ensures ∙ move_down a.depth (payload_of a.word.0) in
    sym (argument_none a.count a.depth a.word.0 (place_past a.count a.depth a.word.0 c.requires.0 free (omega arith)))

pub returns-else-depth-index : goal.returns-else-depth-index
returns-else-depth-index c =
    let a = c.args in
    sym (argument_none a.count a.depth a.word.0 (place-bound a.count a.depth a.word.0 c.requires.0 (rw c.payload-index.ensures at c.if-depth-index.false)))
