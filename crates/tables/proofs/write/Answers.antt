-- `write` meets its contract: each refusal knows the tests before it, and otherwise what is put covers the whole table.
use Prim.Native.Nat.{ℕ, ◌≤◌}
use Rattle.calculus.proofs.WorkspaceLaws.{workspace_short, held}
use Rattle.calculus.specs.Words.{workspace_most}
use Rattle.calculus.specs.Workspace.{wrong_workspace}
use Rattle.storage.specs.Write.{write}
use Rattle.tables.proofs.WriteCode.{written}
use Rattle.terms.proofs.IsTerm.{is_term_some, is_term_none}
use borrow.Author.Tests.{ne_eqb}
use lib.ListN.{length}
use lib.Seq.{length-take-le}
use mathlib.Core.Bool.{true, false}
use mathlib.Core.List.{List}
use Rattle.terms.specs.IsTerm.{is_term}
use mathlib.Core.Path.{◌≡◌, sym, ◌∙◌}
use native.Mathlib.Omega.{arith}
use Rattle.tables.proofs.write.Goals as goal

pub returns-then-wrong_workspace : goal.returns-then-wrong_workspace
unfolding write
returns-then-wrong_workspace c = rw (← c.wrong_workspace.ensures, c.if-wrong_workspace.true)

pub returns-then-not-is_term : goal.returns-then-not-is_term
unfolding write
returns-then-not-is_term c =
    let fits = sym c.wrong_workspace.ensures ∙ c.if-wrong_workspace.false in
    rw (fits, is_term_none _ _ (workspace_short _ fits) (sym c.is_term.ensures ∙ c.if-not-is_term.true))

-- The words of the term that a workspace holds are there, and no more than it has.
within : (ws : List ℕ) (n : ℕ) → wrong_workspace (length ws) ≡ false → is_term ws n ≡ true → (n ≤ length ws) × (length ws ≤ workspace_most)
within ws n fits e = ((held _ _ _ (is_term_some ws n e).1).within, workspace_short _ fits)

pub overflow_add-length : goal.overflow_add-length
overflow_add-length c =
    let fits = within c.args.workspace.now c.args.length (sym c.wrong_workspace.ensures ∙ c.if-wrong_workspace.false) (sym c.is_term.ensures ∙ c.if-not-is_term.false) in
    omega arith

pub overflow_mul-length : goal.overflow_mul-length
overflow_mul-length c =
    let fits = within c.args.workspace.now c.args.length (sym c.wrong_workspace.ensures ∙ c.if-wrong_workspace.false) (sym c.is_term.ensures ∙ c.if-not-is_term.false) in
    omega arith

pub returns-then-table-length : goal.returns-then-table-length
unfolding write
returns-then-table-length c =
    let fits = sym c.wrong_workspace.ensures ∙ c.if-wrong_workspace.false in
    let term = is_term_some _ _ (sym c.is_term.ensures ∙ c.if-not-is_term.false) in
    rw (fits, term.1, ne_eqb _ _ c.if-table-length.true)

pub slice_bounds-put_table-end : goal.slice_bounds-put_table-end
slice_bounds-put_table-end c =
    let fits = within _ _ (sym c.wrong_workspace.ensures ∙ c.if-wrong_workspace.false) (sym c.is_term.ensures ∙ c.if-not-is_term.false) in
    sym (length-take-le _ _ fits.0)

pub put_table-requires : goal.put_table-requires
put_table-requires c =
    let fits = within _ _ (sym c.wrong_workspace.ensures ∙ c.if-wrong_workspace.false) (sym c.is_term.ensures ∙ c.if-not-is_term.false) in
    omega (arith, length-take-le _ _ fits.0, fits, c.if-table-length.false)

pub returns : goal.returns
returns c =
    let term = is_term_some _ _ (sym c.is_term.ensures ∙ c.if-not-is_term.false) in
    written _ _ _ _ _ (sym c.wrong_workspace.ensures ∙ c.if-wrong_workspace.false) term.1 c.if-table-length.false c.put_table.ensures
