-- `hop` meets its contract. The invariant: the items still to pass end where all of them do.
use Prim.Native.Nat.{suc, ◌+◌, ◌-◌}
use Rattle.calculus.proofs.SkipLaws.{span_zero}
use Rattle.calculus.specs.Skip.{span}
use Rattle.words.proofs.Spans.{span_first}
use lib.ListN.{drop}
use mathlib.Core.Path.{◌≡◌, ◌∙◌, ap}
use native.Mathlib.Omega.{arith}
use Rattle.search.proofs.ends.Items.hop.Goals as goal

pub loop-preserved : goal.loop-preserved
loop-preserved c =
    let l = c.loop in
    let one : suc (c.args.items - (l.counter + 1)) ≡ c.args.items - l.counter = omega arith in (
      span_first _ l.i (c.args.items - (l.counter + 1)) c.end_of-i.ensures ∙ ap (λ k. l.i + span k (drop l.i c.args.self.ws.now)) one ∙ l.invariant.0,
      omega (arith, c.end_of-i.ensures, l.invariant.1),
    )

pub returns : goal.returns
returns c =
    let none : c.args.items - c.loop.counter ≡ 0 = omega arith in
    let e = rw (none, span_zero) at c.loop.invariant.0 in
    omega arith
