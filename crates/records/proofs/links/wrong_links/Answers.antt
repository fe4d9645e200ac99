-- `wrong_links` meets its contract: the two link rules, one after the other.
use Rattle.std.proofs.Common.{rules, arith, sym, refl, ◌∙◌}
use Rattle.std.proofs.lemmas.Iterator.{serves_from_Range}
use Rattle.records.proofs.EveryLaws.{every_called}
use Rattle.records.proofs.RecordLaws.{headed, inside}
use Rattle.records.specs.Types.{viewed_of}
use Rattle.storage.specs.Links.{links_fit, wrong_link}
use Rattle.words.proofs.RoomLaws.{room_of_length}
use Rattle.records.proofs.links.wrong_links.Goals as goal

pub indices-requires : goal.indices-requires
indices-requires c = headed _ c.requires.headed.0

pub all-requires-clause-callable : goal.all-requires-clause-callable
all-requires-clause-callable c =
    serves_from_Range (λ x q k. search rules)
    (λ i l u. let here = inside _ c.requires.headed.0 i (omega (arith, c.indices.ensures)) in search rules)

pub named_once-requires-clause-linked : goal.named_once-requires-clause-linked
named_once-requires-clause-linked c =
    let fit = every_called _ c.indices.ensures.from c.indices.ensures.to (links_fit (viewed_of c.args.table.now)) _ _ c.all.result c.all.ensures.ran (λ x b q k. search rules) in
    (c.requires.headed.0, c.requires.headed.1, sym fit ∙ c.if-not-all.false)

pub returns-then-not-all : goal.returns-then-not-all
unfolding wrong_link
returns-then-not-all c =
    let fit = every_called _ c.indices.ensures.from c.indices.ensures.to (links_fit (viewed_of c.args.table.now)) _ _ c.all.result c.all.ensures.ran (λ x b q k. search rules) in
    (rw (← fit, c.if-not-all.true), room_of_length refl)

pub returns-else-not-all : goal.returns-else-not-all
unfolding wrong_link
returns-else-not-all c =
    let fit = every_called _ c.indices.ensures.from c.indices.ensures.to (links_fit (viewed_of c.args.table.now)) _ _ c.all.result c.all.ensures.ran (λ x b q k. search rules) in
    let once = c.named_once.ensures in
    (rw (← fit, c.if-not-all.false, ← once.0), once.1)
