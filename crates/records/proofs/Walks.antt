-- Walks along a chain: the record at a link that is not 0 is the first of the chain, and the chain goes on at its next.
use Prim.Native.Nat.{ℕ, zero, suc, ◌≤◌}
use mathlib.Core.Path.{◌≡◌}
use mathlib.Core.Bool.{Bool, true, false}
use mathlib.Core.List.{[], ◌∷◌}
use native.Mathlib.Omega.{arith}
use lib.Dec.{eqb}
use lib.ListN.{length}
use Rattle.storage.specs.Records.{Record, Table, Stored, record_at, view}
use Rattle.records.specs.Preconditions.{Inside}
use Rattle.storage.specs.Children.{chain, chain_from}
use Rattle.records.specs.Preconditions.{Walkable}
use Rattle.storage.proofs.LinkRules.{linked}
use Rattle.storage.proofs.Hanging.{ahead_within, chain_next}
use Rattle.records.proofs.RecordLaws.{inside}

chain_short : (T : Table) (k l : ℕ) → length (chain T k l) ≤ k
chain_short T zero l = omega arith
chain_short T (suc k) l = go (chain_short T k (T.at l).next) (eqb l 0)
  where
    go : length (chain T k (T.at l).next) ≤ k → (b : Bool)
        → length {A = Record} (elim b [ true ↦ [] | false ↦ T.at l ∷ chain T k (T.at l).next ]) ≤ suc k
    go h true = omega arith
    go h false = omega arith

module _ (S : Stored) (link : ℕ) (w : Walkable S link) where
  pub walk_inside : Inside S link
  walk_inside = inside S w.length_fits link w.link_within

  pub walk_short : length (chain_from (view S) link) ≤ (view S).n
  walk_short = chain_short (view S) (view S).n link

pub record Walked (S : Stored) (link : ℕ) (r : Record) : Type 0 where
  pub goes_on : chain_from (view S) link ≡ r ∷ chain_from (view S) r.next
  pub after : Walkable S r.next
  pub below : Walkable S r.first

-- A record that was read at a link, and the walk on from it.
pub walked : (S : Stored) (link : ℕ) (r : Record) → Walkable S link → 1 ≤ link → r ≡ record_at S link → Walked S link r
walked S link r w h e =
    let T = view S in
    let L = linked T w.links-fit in
    let next = ahead_within T link _ (L.next_ahead link h w.link_within) in
    let first = ahead_within T link _ (L.first_ahead link h w.link_within) in
    rw e
    (record {
      goes_on = chain_next T L link h w.link_within;
      after = record { length_fits = w.length_fits; links-fit = w.links-fit; link_within = next };
      below = record { length_fits = w.length_fits; links-fit = w.links-fit; link_within = first };
    })
