-- `reads` meets its contract.
use Rattle.notation.specs.Reading.{read_line}
use Rattle.vectors.proofs.TypedLaws.{placed_start}
use Rattle.vectors.specs.Typed.{reading_of, reading}
use borrow.Author.Rules.{rules}
use mathlib.Core.Path.{◌∙◌, ap}
use Rattle.vectors.proofs.typed.reads.Goals as goal

pub returns : goal.returns
unfolding reading
returns c =
    let reader = c.args.reader in
    rw (c.ends.ensures, c.brings-term.ensures.equal, c.brings-term.ensures.next, ← c.are_bytes.ensures, c.if-not-are_bytes.false)
    (ap (reading_of reader.line.now reader.at)
    (c.read_line-answer.ensures ∙ ap (λ bs. read_line bs c.args.workspace.now) (placed_start c.narrow-n.ensures (search rules))))
