-- `named_once` meets its contract: the counts are those of the definition.
use Rattle.records.proofs.EveryLaws.{every_eq}
use Rattle.records.proofs.Namings.{Begun, begun, counted-length}
use Rattle.records.proofs.RecordLaws.{headed}
use Rattle.records.specs.Counting.{more, counted, room_most}
use Rattle.records.specs.Types.{stored_of, viewed_of}
use Rattle.storage.specs.Links.{namings, links_fit}
use Rattle.words.proofs.RoomLaws.{room_of_length}
use Prim.Native.Nat.{ℕ}
use mathlib.Core.Bool.{true, false}
use mathlib.Core.List.{List}
use Rattle.records.specs.declared.Table.{Table}
use Rattle.storage.specs.Header.{wrong_length, wrong_header}
use Rattle.storage.specs.Records.{everyOf}
use lib.Dec.{eqb}
use lib.ListN.{length, length-set, replicate}
use mathlib.Core.Path.{◌≡◌, refl, ap, sym, subst, ◌∙◌}
use Rattle.records.proofs.links.named_once.Goals as goal

pub root-requires : goal.root-requires
root-requires c = headed _ c.requires.linked.0

-- Counts that are all 0 can be counted on.
start : (t : Table) (counts : List ℕ) (root : ℕ)
    → (wrong_length (stored_of t) ≡ false) × (wrong_header (stored_of t) ≡ false) × (everyOf (viewed_of t).n (links_fit (viewed_of t)) ≡ true)
    → counts ≡ replicate room_most 0 → root ≡ (viewed_of t).root → Begun (stored_of t) root counts
start t counts root p q e = subst (Begun (stored_of t) root) (sym q) (begun _ root room_most p.0 p.1 p.2 e refl)

pub count_link-requires : goal.count_link-requires
count_link-requires c = (start c.args.table.now _ _ c.requires.linked c.requires.zeros c.root.ensures).root_fits

pub count_links-requires : goal.count_links-requires
count_links-requires c = rw c.count_link.ensures (start c.args.table.now _ _ c.requires.linked c.requires.zeros c.root.ensures).countable

pub count-requires : goal.count-requires
count-requires c = headed _ c.requires.linked.0

pub all_once-requires : goal.all_once-requires
all_once-requires c =
    let T = viewed_of c.args.table.now in
    rw c.count.ensures.told
    ((start c.args.table.now _ _ c.requires.linked c.requires.zeros c.root.ensures).room _ (c.count_links.ensures ∙ ap (counted T T.n) c.count_link.ensures))

pub returns : goal.returns
returns c =
    let T = viewed_of c.args.table.now in
    let counts = c.args.counts.now in
    let begins = start c.args.table.now counts _ c.requires.linked c.requires.zeros c.root.ensures in
    let all : c.count_links.new.counts ≡ counted T T.n (more c.root.result counts) = c.count_links.ensures ∙ ap (counted T T.n) c.count_link.ensures in (
      c.all_once.ensures
          ∙ rw c.count.ensures.told (every_eq T.n _ (λ i. eqb (namings T i) 1) (λ i l u. ap (λ k. eqb k 1) (begins.namings_are _ all i))),
      room_of_length (ap length all ∙ counted-length T T.n _ ∙ length-set counts _ _),
    )
