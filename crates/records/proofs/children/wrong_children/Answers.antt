-- `wrong_children` meets its contract: the children of every record, and then the root.
use Rattle.std.proofs.Common.{rules, arith, ap, ◌∙◌}
use Rattle.std.proofs.lemmas.Iterator.{serves_from_Range}
use Rattle.records.proofs.EveryLaws.{every_called}
use Rattle.records.proofs.RecordLaws.{headed}
use Rattle.records.proofs.Walks.{walk_inside}
use Rattle.records.specs.Types.{stored_of, viewed_of, record_of}
use Rattle.records.specs.Preconditions.{Walkable}
use Rattle.storage.proofs.RecordLaws.{Parts, parts}
use Rattle.storage.specs.Children.{record_fits, wrong_children}
use Rattle.storage.specs.Records.{Record, Stored, record_at, view}
use Prim.Native.Nat.{ℕ}
use mathlib.Core.Path.{◌≡◌}
use Rattle.records.proofs.children.wrong_children.Goals as goal

pub indices-requires : goal.indices-requires
indices-requires c = headed _ c.requires.0.length_fits

pub all-requires-clause-callable : goal.all-requires-clause-callable
all-requires-clause-callable c =
    serves_from_Range (λ x q k. search rules)
    (λ i l u.
    let S = stored_of c.args.table.now in
    let here : Walkable S i = record { length_fits = c.requires.0.length_fits; links-fit = c.requires.0.links-fit; link_within = omega (arith, c.indices.ensures) } in
    search rules)

pub at-top-requires : goal.at-top-requires
at-top-requires c = rw c.root.ensures (walk_inside _ _ c.requires.0)

-- The record that was read is the root's.
top : (S : Stored) {root : ℕ} (r : Record) → r ≡ record_at S root → root ≡ (view S).root → Parts r (record_at S (view S).root)
top S r e q = parts (e ∙ ap (record_at S) q)

pub returns-then-not-all : goal.returns-then-not-all
unfolding wrong_children
returns-then-not-all c =
    let fit = every_called _ c.indices.ensures.from c.indices.ensures.to (record_fits (viewed_of c.args.table.now)) _ _ c.all.result c.all.ensures.ran (λ x b q k. search rules) in
    rw (← fit, c.if-not-all.true)

pub returns-then-is_branch : goal.returns-then-is_branch
unfolding wrong_children
returns-then-is_branch c =
    let fit = every_called _ c.indices.ensures.from c.indices.ensures.to (record_fits (viewed_of c.args.table.now)) _ _ c.all.result c.all.ensures.ran (λ x b q k. search rules) in
    let r = top (stored_of c.args.table.now) (record_of c.at-top.result) c.at-top.ensures c.root.ensures in
    rw (← fit, c.if-not-all.false, ← r.kind, ← c.is_branch.ensures, c.if-is_branch.true)

pub returns-else-is_branch : goal.returns-else-is_branch
unfolding wrong_children
returns-else-is_branch c =
    let fit = every_called _ c.indices.ensures.from c.indices.ensures.to (record_fits (viewed_of c.args.table.now)) _ _ c.all.result c.all.ensures.ran (λ x b q k. search rules) in
    let r = top (stored_of c.args.table.now) (record_of c.at-top.result) c.at-top.ensures c.root.ensures in
    rw (← fit, c.if-not-all.false, ← r.kind, ← c.is_branch.ensures, c.if-is_branch.false, ← r.next)
