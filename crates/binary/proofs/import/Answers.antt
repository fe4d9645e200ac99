-- `import` meets its contract: each refusal in its order, by what importing owes, and otherwise the words that were found, copied and followed by zeros.
use Rattle.binary.proofs.ImportCode.{import_unpadded, import_none, import_long, import_free, import_leaves}
use Rattle.calculus.proofs.WorkspaceLaws.{workspace_short}
use Rattle.calculus.specs.Workspace.{wrong_workspace}
use Rattle.encoding.proofs.ImportLaws.{importing_exact}
use lib.ListN.{length}
use mathlib.Core.Bool.{false}
use mathlib.Core.Path.{◌≡◌, refl, sym, ◌∙◌}
use native.Mathlib.Omega.{arith}
use Rattle.std.specs.Prelude.{Err}
use Rattle.words.specs.declared.refusal.Refusal.TheVariants as refusal
use borrow.Author.Rules.{rules}
use Rattle.binary.proofs.import.Goals as goal

pub returns-then-wrong_workspace : goal.returns-then-wrong_workspace
returns-then-wrong_workspace c =
    let a = c.args in sym ((importing_exact a.bytes.now a.bits a.workspace.now).wrong-workspace (sym c.wrong_workspace.ensures ∙ c.if-wrong_workspace.true))

pub returns-then-not-is_padded : goal.returns-then-not-is_padded
returns-then-not-is_padded c =
    let a = c.args in
    import_unpadded a.bytes.now a.bits a.workspace.now (sym c.wrong_workspace.ensures ∙ c.if-wrong_workspace.false) (sym c.is_padded.ensures ∙ c.if-not-is_padded.true)

pub returns-in_err-count : goal.returns-in_err-count
returns-in_err-count c =
    let a = c.args in
    let is : c.from_residual.result ≡ Err refusal.WrongBits = search rules in
    rw is (import_none a.bytes.now a.bits a.workspace.now (sym c.wrong_workspace.ensures ∙ c.if-wrong_workspace.false) (rw c.in_err-count.ensures.ok_part at c.scan.ensures).0)

pub returns-then-workspace-count : goal.returns-then-workspace-count
returns-then-workspace-count c =
    let a = c.args in
    let found = rw c.in_ok-count.ensures.ok_part at c.scan.ensures in
    import_long a.bytes.now a.bits a.workspace.now (sym c.wrong_workspace.ensures ∙ c.if-wrong_workspace.false) (sym c.is_padded.ensures ∙ c.if-not-is_padded.false)
    found.0 found.1 (omega (arith, found.2))

pub returns-then-not-is_combinator : goal.returns-then-not-is_combinator
returns-then-not-is_combinator c =
    let a = c.args in
    let fits : wrong_workspace (length a.workspace.now) ≡ false = sym c.wrong_workspace.ensures ∙ c.if-wrong_workspace.false in
    let found = rw c.in_ok-count.ensures.ok_part at c.scan.ensures in
    import_free a.bytes.now a.bits a.workspace.now fits (sym c.is_padded.ensures ∙ c.if-not-is_padded.false) found.0 found.1 _ c.scan.new.words c.in_ok-count.count
    refl found.2 (omega arith) (workspace_short _ fits) found.3 (sym c.is_combinator.ensures ∙ c.if-not-is_combinator.true)

pub returns : goal.returns
returns c =
    let a = c.args in
    let fits : wrong_workspace (length a.workspace.now) ≡ false = sym c.wrong_workspace.ensures ∙ c.if-wrong_workspace.false in
    let found = rw c.in_ok-count.ensures.ok_part at c.scan.ensures in
    c.hold.ensures
    ∙ import_leaves a.bytes.now a.bits a.workspace.now fits (sym c.is_padded.ensures ∙ c.if-not-is_padded.false) found.0 found.1 _ c.scan.new.words c.in_ok-count.count
    refl found.2 (omega arith) (workspace_short _ fits) found.3 (sym c.is_combinator.ensures ∙ c.if-not-is_combinator.false)
