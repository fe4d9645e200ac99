-- `is_term` meets its contract: lengths that no term in the words has, or the scan.
use Prim.Native.Nat.{◌<◌}
use lib.ListN.{length}
use mathlib.Core.Path.{◌∙◌}
use native.Mathlib.Omega.{arith}
use borrow.Author.Tests.{lt-leb}
use Rattle.terms.proofs.IsTerm.{is_term_long, is_term_past, is_term_first}
use Rattle.terms.proofs.is_term.Goals as goal
use Rattle.terms.proofs.is_term.Goals.{then-n-le-WORKSPACE_MOST, else-n-le-WORKSPACE_MOST}

pub returns-then-n-ws : goal.returns-then-n-ws
returns-then-n-ws c = c.is_whole.ensures ∙ is_term_first c.args.ws.now c.args.n (omega arith) (omega arith)

pub returns-else-n-ws : goal.returns-else-n-ws
returns-else-n-ws c =
    elim c.if-n-le-WORKSPACE_MOST.branch [
      | then-n-le-WORKSPACE_MOST w ↦
          let past : length c.args.ws.now < c.args.n = omega arith in
          w.t-4-is ∙ lt-leb _ _ past ∙ is_term_past c.args.ws.now c.args.n (omega arith) past
      | else-n-le-WORKSPACE_MOST w ↦ w.t-4-is ∙ lt-leb _ _ w.if-n-le-WORKSPACE_MOST.false ∙ is_term_long c.args.ws.now c.args.n w.if-n-le-WORKSPACE_MOST.false
    ]
