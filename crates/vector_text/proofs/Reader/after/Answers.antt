-- `after` meets its contract.
use Rattle.vector_text.proofs.TextLaws.{starts_pointwise}
use Rattle.vector_text.specs.Text.{starts_with, after}
use borrow.Author.Rules.{part_to_end}
use borrow.Author.Tests.{lt-ltb, le-ltb}
use mathlib.Core.Path.{◌∙◌, ap}
use Rattle.vector_text.proofs.Reader.after.Goals as goal

pub returns-then-self : goal.returns-then-self
unfolding after
returns-then-self c = rw (lt-ltb _ _ c.if-self.true)

pub returns-then-starts_with : goal.returns-then-starts_with
unfolding after
returns-then-starts_with c =
    let starts = c.starts_with.ensures.value ∙ starts_pointwise _ _ ∙ ap (starts_with c.args.keyword.now) (part_to_end c.args.self.now.line.now c.past_space-from.result) in
    rw (le-ltb _ _ c.if-self.false, ← c.past_space-from.ensures.0, ← starts, c.if-starts_with.true)

pub returns : goal.returns
unfolding after
returns c =
    let starts = c.starts_with.ensures.value ∙ starts_pointwise _ _ ∙ ap (starts_with c.args.keyword.now) (part_to_end c.args.self.now.line.now c.past_space-from.result) in
    rw (le-ltb _ _ c.if-self.false, ← c.past_space-from.ensures.0, ← starts, c.if-starts_with.false)
