-- `load` meets its contract: a refusal is answered, and words that were read are put into the workspace.
use Prim.Native.Nat.{ℕ}
use Rattle.records.specs.Counting.{room_most}
use Rattle.storage.specs.Load.{load_stored}
use Rattle.storage.specs.Records.{in_form1}
use Rattle.tables.proofs.LoadCode.{judged_refuses, judged_loads}
use Rattle.std.proofs.lemmas.Result.{err_from_is_err_and}
use Rattle.words.specs.Types.{result_of}
use lib.ListN.{length-replicate}
use mathlib.Core.Path.{refl, sym, ap, ◌∙◌}
use Rattle.tables.proofs.load.Goals as goal

pub returns-then-wrong_workspace : goal.returns-then-wrong_workspace
unfolding load_stored
returns-then-wrong_workspace c = rw (← c.wrong_workspace.ensures, c.if-wrong_workspace.true)

pub returns-in_err-end : goal.returns-in_err-end
returns-in_err-end c =
    let p = err_from_is_err_and c.from_residual.result c.from_residual.ensures.1 in
    rw (p.1, p.2)
    (judged_refuses (in_form1 c.args.table.now) c.args.workspace.now (sym c.wrong_workspace.ensures ∙ c.if-wrong_workspace.false) c.judge.ensures _ (ap result_of c.in_err-end.was))

pub returns : goal.returns
returns c =
    c.hold.ensures
    ∙ judged_loads (in_form1 c.args.table.now) c.args.workspace.now (sym c.wrong_workspace.ensures ∙ c.if-wrong_workspace.false) c.in_ok-end.ensures _ refl (length-replicate {A = ℕ} room_most 0)
