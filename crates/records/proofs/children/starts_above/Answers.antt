-- `starts_above` meets its contract.
use Rattle.records.proofs.Walks.{walk_inside, walked}
use native.Mathlib.Nat.{pos_of_ne-zero}
use Rattle.records.proofs.children.starts_above.Goals as goal

pub at-requires : goal.at-requires
at-requires c = walk_inside _ _ c.requires

pub returns-else-link-eq0 : goal.returns-else-link-eq0
returns-else-link-eq0 c =
    let h = walked _ _ _ c.requires (pos_of_ne-zero c.if-link-eq0.false) c.at.ensures in
    rw (h.goes_on, c.tag.ensures)
