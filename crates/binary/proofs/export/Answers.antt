-- `export` meets its contract: each refusal in its order, by what exporting owes, and otherwise the bits of the term in bytes that were cleared.
use Rattle.binary.proofs.ExportCode.{export_past, export_none, export_open, export_few, export-all}
use Rattle.encoding.proofs.ExportLaws.{exporting_exact}
use mathlib.Core.Path.{sym, ◌∙◌}
use native.Mathlib.Omega.{arith}
use Rattle.binary.proofs.export.Goals as goal

pub returns-then-wrong_workspace : goal.returns-then-wrong_workspace
returns-then-wrong_workspace c =
    let a = c.args in sym ((exporting_exact a.workspace.now a.length a.bytes.now).wrong-workspace (sym c.wrong_workspace.ensures ∙ c.if-wrong_workspace.true))

pub returns-then-workspace-length : goal.returns-then-workspace-length
returns-then-workspace-length c =
    let a = c.args in export_past a.workspace.now a.length a.bytes.now (sym c.wrong_workspace.ensures ∙ c.if-wrong_workspace.false) c.if-workspace-length.true

pub returns-then-is_term : goal.returns-then-is_term
returns-then-is_term c =
    let a = c.args in
    export_open a.workspace.now a.length a.bytes.now (sym c.wrong_workspace.ensures ∙ c.if-wrong_workspace.false) (sym c.is_term.ensures ∙ c.if-is_term.true)
    (sym c.is_combinator.ensures ∙ c.if-not-is_combinator.true)

pub returns-then-not-is_combinator : goal.returns-then-not-is_combinator
returns-then-not-is_combinator c =
    let a = c.args in
    export_none a.workspace.now a.length a.bytes.now (sym c.wrong_workspace.ensures ∙ c.if-wrong_workspace.false) (sym c.is_term.ensures ∙ c.if-is_term.false)

pub returns-then-bytes-div_ceil : goal.returns-then-bytes-div_ceil
returns-then-bytes-div_ceil c =
    let a = c.args in
    export_few a.workspace.now a.length a.bytes.now (sym c.wrong_workspace.ensures ∙ c.if-wrong_workspace.false) (omega arith)
    (sym c.is_combinator.ensures ∙ c.if-not-is_combinator.false) c.bits_of-bits.ensures (omega (arith, c.div_ceil.ensures, c.if-bytes-div_ceil.true))

pub returns : goal.returns
returns c =
    let a = c.args in
    export-all a.workspace.now a.length a.bytes.now (sym c.wrong_workspace.ensures ∙ c.if-wrong_workspace.false) (omega arith)
    (sym c.is_combinator.ensures ∙ c.if-not-is_combinator.false) c.bits_of-bits.ensures (omega (arith, c.div_ceil.ensures, c.if-bytes-div_ceil.false)) c.fill.new.self c.put.new.bytes
    c.fill.ensures.len c.put.ensures
