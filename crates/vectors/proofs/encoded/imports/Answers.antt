-- `imports` meets its contract.
use Rattle.encoding.specs.Import.{import}
use Rattle.vectors.proofs.TypedLaws.{placed_start}
use Rattle.vectors.specs.Encoded.{imported_as, importing}
use borrow.Author.Rules.{rules}
use borrow.Author.Tests.{eq-eqb, ne_eqb}
use mathlib.Core.Path.{◌∙◌, ap}
use Rattle.vectors.proofs.encoded.imports.Goals as goal

pub returns-then-term-eq0 : goal.returns-then-term-eq0
unfolding importing imported_as
returns-then-term-eq0 c =
    let term = c.brings-term in
    let brought = c.import-answer.ensures ∙ ap (λ bs. import bs c.args.count c.args.workspace.now) (placed_start c.narrow-n.ensures (search rules)) in
    rw (
      ← c.are_bytes.ensures,
      c.if-not-are_bytes.false,
      ← brought,
      ← term.ensures.count,
      eq-eqb _ _ c.if-term-eq0.true,
      c.ends.ensures,
      term.ensures.equal,
      term.ensures.next,
    )

pub returns : goal.returns
unfolding importing imported_as
returns c =
    let term = c.brings-term in
    let brought = c.import-answer.ensures ∙ ap (λ bs. import bs c.args.count c.args.workspace.now) (placed_start c.narrow-n.ensures (search rules)) in
    rw (
      ← c.are_bytes.ensures,
      c.if-not-are_bytes.false,
      ← brought,
      ← term.ensures.count,
      ne_eqb _ _ c.if-term-eq0.false,
      c.exports_back.ensures,
      c.ends.ensures,
      term.ensures.equal,
      term.ensures.next,
    )
