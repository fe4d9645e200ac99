-- `read_line` meets its contract: each refusal in its order, by what reading owes, and otherwise the words that were found, copied and followed by zeros.
use Prim.Native.Nat.{◌<◌}
use Rattle.lines.proofs.FoundLaws.{read_long, read_none, inside, read_free, read_over, read_left}
use Rattle.notation.proofs.ReadingLaws.{reading_exact}
use Rattle.parser.specs.Scan.{room_most}
use Rattle.std.specs.Prelude.{Err}
use Rattle.words.specs.declared.refusal.Refusal.TheVariants as refusal
use borrow.Author.Rules.{rules}
use Rattle.notation.specs.Reader.{line_words}
use lib.ListN.{drop}
use mathlib.Core.Option.{some}
use mathlib.Core.Path.{◌≡◌, sym, ◌∙◌}
use native.Mathlib.Omega.{arith}
use Rattle.lines.proofs.read_line.Goals as goal
use Rattle.lines.proofs.read_line.Goals.{In_ok-at}

pub returns-then-wrong_workspace : goal.returns-then-wrong_workspace
returns-then-wrong_workspace c =
    let a = c.args in
    sym ((reading_exact a.line.now a.workspace.now).wrong-workspace (sym c.wrong_workspace.ensures ∙ c.if-wrong_workspace.true))

pub returns-then-line-gt-LINE_MOST : goal.returns-then-line-gt-LINE_MOST
returns-then-line-gt-LINE_MOST c =
    let a = c.args in
    read_long a.line.now a.workspace.now (sym c.wrong_workspace.ensures ∙ c.if-wrong_workspace.false) c.if-line-gt-LINE_MOST.true

pub returns-in_err-at : goal.returns-in_err-at
returns-in_err-at c =
    let a = c.args in
    let is : c.from_residual.result ≡ Err refusal.WrongLine = search rules in
    rw is
    (read_none a.line.now a.workspace.now (sym c.wrong_workspace.ensures ∙ c.if-wrong_workspace.false) c.if-line-gt-LINE_MOST.false
    (rw c.in_err-at.ensures.ok_part at c.parse.ensures.out_after))

-- The words of the line are found.
found : (c : In_ok-at) → some (drop c.in_ok-at.at c.parse.new.out) ≡ line_words c.args.line.now
found c = rw c.in_ok-at.ensures.ok_part at c.parse.ensures.out_after

-- The words start within the array.
within : (c : In_ok-at) → c.in_ok-at.at < room_most
within c =
    inside c.args.line.now c.args.workspace.now (sym c.wrong_workspace.ensures ∙ c.if-wrong_workspace.false) c.if-line-gt-LINE_MOST.false c.parse.new.out c.in_ok-at.at
    (omega arith) (found c)

pub overflow_sub-length : goal.overflow_sub-length
overflow_sub-length c = omega (arith, within (goal.at.overflow_sub-length c).In_ok-at)

pub offset_bounds-words-at : goal.offset_bounds-words-at
offset_bounds-words-at c = omega (arith, within (goal.at.offset_bounds-words-at c).In_ok-at)

pub slice_bounds-is_term-count : goal.slice_bounds-is_term-count
slice_bounds-is_term-count c = omega (arith, within (goal.at.slice_bounds-is_term-count c).In_ok-at)

pub slice_bounds-is_term-start : goal.slice_bounds-is_term-start
slice_bounds-is_term-start c = omega (arith, within (goal.at.slice_bounds-is_term-start c).In_ok-at)

pub returns-then-not-is_term : goal.returns-then-not-is_term
returns-then-not-is_term c =
    let a = c.args in
    read_free a.line.now a.workspace.now (sym c.wrong_workspace.ensures ∙ c.if-wrong_workspace.false) c.if-line-gt-LINE_MOST.false c.parse.new.out c.in_ok-at.at
    (omega arith) (found (goal.at.returns-then-not-is_term c).In_ok-at) (sym c.is_term.ensures ∙ c.if-not-is_term.true)

pub returns-then-workspace-length : goal.returns-then-workspace-length
returns-then-workspace-length c =
    let a = c.args in
    read_over a.line.now a.workspace.now (sym c.wrong_workspace.ensures ∙ c.if-wrong_workspace.false) c.if-line-gt-LINE_MOST.false c.parse.new.out c.in_ok-at.at
    (omega arith) (found (goal.at.returns-then-workspace-length c).In_ok-at) (sym c.is_term.ensures ∙ c.if-not-is_term.false) (omega arith)

pub hold-requires : goal.hold-requires
hold-requires c =
    let h = within (goal.at.hold-requires c).In_ok-at in
    record { ordered = omega (arith, h); within = omega arith; fits = omega (arith, h) }

pub returns : goal.returns
returns c =
    let a = c.args in
    c.hold.ensures
    ∙ read_left a.line.now a.workspace.now (sym c.wrong_workspace.ensures ∙ c.if-wrong_workspace.false) c.if-line-gt-LINE_MOST.false c.parse.new.out c.in_ok-at.at
    (omega arith) (found (goal.at.returns c).In_ok-at) (sym c.is_term.ensures ∙ c.if-not-is_term.false) (omega arith)
