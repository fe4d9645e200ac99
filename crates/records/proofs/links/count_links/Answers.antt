-- `count_links` meets its contract. The invariant: the links of the records before the i-th have been counted.
use Rattle.records.proofs.Namings.{turn}
use Rattle.records.proofs.RecordLaws.{headed, inside}
use Rattle.records.specs.Counting.{more, counted}
use Rattle.records.specs.Types.{stored_of, viewed_of, record_of}
use mathlib.Core.Path.{refl, ap, ◌∙◌}
use native.Mathlib.Omega.{arith}
use Rattle.records.proofs.links.count_links.Goals as goal

pub count-i-end-requires : goal.count-i-end-requires
count-i-end-requires c = headed _ c.requires.length_fits

pub loop-i-init : goal.loop-i-init
unfolding counted
loop-i-init c = (omega arith, refl)

pub at-record-requires : goal.at-record-requires
at-record-requires c = inside _ c.requires.length_fits _ (omega (arith, c.count-i-end.ensures.told))

pub count_link-requires : goal.count_link-requires
count_link-requires c =
    (turn (stored_of c.args.table.now) c.args.counts.now c.requires c.loop-i.i (omega arith) (omega (arith, c.count-i-end.ensures.told))
    (record_of c.at-record.result) c.at-record.ensures c.loop-i.counts c.loop-i.invariant.1).first_fits

pub count_link-requires-in-loop-i : goal.count_link-requires-in-loop-i
count_link-requires-in-loop-i c =
    rw c.count_link.ensures
    (turn (stored_of c.args.table.now) c.args.counts.now c.requires c.loop-i.i (omega arith) (omega (arith, c.count-i-end.ensures.told))
    (record_of c.at-record.result) c.at-record.ensures c.loop-i.counts c.loop-i.invariant.1).next_fits

pub loop-i-preserved : goal.loop-i-preserved
loop-i-preserved c =
    let passed =
    turn (stored_of c.args.table.now) c.args.counts.now c.requires c.loop-i.i (omega arith) (omega (arith, c.count-i-end.ensures.told))
    (record_of c.at-record.result) c.at-record.ensures c.loop-i.counts c.loop-i.invariant.1
    in (
      omega arith,
      c.count_link-in-loop-i.ensures ∙ ap (more _) c.count_link.ensures ∙ passed.goes_on ∙ ap (λ i. counted (viewed_of c.args.table.now) i c.args.counts.now) (omega arith),
    )

pub returns : goal.returns
returns c = c.loop-i.invariant.1 ∙ ap (λ i. counted (viewed_of c.args.table.now) i c.args.counts.now) (omega (arith, c.count-i-end.ensures.told, c.loop-i.invariant.0))

pub returns-2 : goal.returns-2
returns-2 c =
    let passed =
    turn (stored_of c.args.table.now) c.args.counts.now c.requires c.loop-i.i (omega arith) (omega (arith, c.count-i-end.ensures.told))
    (record_of c.at-record.result) c.at-record.ensures c.loop-i.counts c.loop-i.invariant.1
    in
    c.count_link-in-loop-i.ensures ∙ ap (more _) c.count_link.ensures ∙ passed.goes_on ∙ ap (λ i. counted (viewed_of c.args.table.now) i c.args.counts.now) (omega (arith, c.count-i-end.ensures.told))
