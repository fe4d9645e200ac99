-- What `enter` makes of a walk, from its arms.
use Prim.Native.Nat.{ℕ, suc, ◌+◌, ◌*◌, ◌-◌, ◌/◌, ◌%◌, ◌≤◌, ◌<◌}
use mathlib.Core.Path.{◌≡◌, refl, sym, ◌∙◌, ap}
use mathlib.Core.List.{List, [], ◌∷◌, ◌++◌}
use native.Mathlib.Decide.{ℕ_discrete, dec_le, dec_lt}
use native.Mathlib.Numerals.{add-one}
use native.Mathlib.Omega.{arith}
use borrow.Author.Tests.{lt-ltb, le-ltb, eq-eqb, ne_eqb}
use lib.ListN.{length, get_or, drop, set, replicate, length-set}
use lib.Seq.{drop-cons}
use Rattle.walk.specs.declared.scope.Scope.{Scope}
use Rattle.walk.specs.Scopes.{scope_base, Enters, entered}
use Rattle.walk.proofs.ScopeLaws.{to_come, come_plain, come_kept, come_last, come_back, room-kept}

-- Every scope has an item.
abbrev pub Opened : List ℕ → Type 0
Opened [] = Unit {0}
Opened (s ∷ ss) = (scope_base ≤ s) × Opened ss

-- Where a walk stands: a scope that is kept took two of the k words passed, the one that has its items, and the binder; a scope taken up again
-- has items, so nothing is pending only at the end.
pub record Stands (k pending top : ℕ) (room : List ℕ) : Type 0 where
  pub within : top ≤ length room
  pub opened : Opened (drop top room)
  pub some : pending ≡ 0 → top ≡ length room
  pub scopes : 2 * (length room - top) ≤ k
  pub more : 2 ≤ pending → 2 * (length room - top) + 1 ≤ k

-- The items behind the word come first, under its binders, and the walk stands one word further.
pub record Entered (items binders pending depth top : ℕ) (room : List ℕ) (pending' depth' top' : ℕ) (room' : List ℕ) : Type 0 where
  pub come : to_come pending' depth' (drop top' room') ≡ replicate items (depth + binders) ++ to_come (pending - 1) depth (drop top room)
  pub stands : (k : ℕ) → Stands k pending top room → Stands (k + 1) pending' top' room'
  pub same_length : length room' ≡ length room

module _ {items binders pending depth top : ℕ} {room : List ℕ} (h : Enters items binders pending depth top room) where
  -- A word that binds nothing.
  module _ (unbound : binders ≡ 0) where
    plain : to_come (items + (pending - 1)) depth (drop top room) ≡ replicate items (depth + binders) ++ to_come (pending - 1) depth (drop top room)
    plain = sym (come_plain items (pending - 1) depth binders (drop top room) unbound)

    entered_plain : (items + (pending - 1) ≡ 0 → top ≡ length room) → Entered items binders pending depth top room (items + (pending - 1)) depth top room
    entered_plain some =
        record {
          come = plain;
          stands = λ k v.
              record {
                within = v.within;
                opened = v.opened;
                some = some;
                scopes = omega (arith, v.scopes);
                more = λ l. omega (arith, v.scopes);
              };
          same_length = refl;
        }

    entered-back : items + (pending - 1) ≡ 0 → top < length room
        → Entered items binders pending depth top room (get_or room top 0 / scope_base) (get_or room top 0 % scope_base) (top + 1) room
    entered-back none more =
        record {
          come =
              rw (add-one top)
              (sym (come_back (items + (pending - 1)) depth (get_or room top 0) (drop (suc top) room) none)
              ∙ ap (to_come (items + (pending - 1)) depth) (sym (drop-cons room top 0 more))
              ∙ plain);
          stands = λ k v.
              let o = rw (drop-cons room top 0 more) at v.opened in
              record {
                within = omega arith;
                opened = rw (add-one top) o.1;
                some = λ z. absurd (omega (arith, o.0));
                scopes = omega (arith, v.scopes);
                more = λ l. omega (arith, v.scopes);
              };
          same_length = refl;
        }

  -- A binder.
  module _ (binds : 0 < binders) where
    entered-kept : 1 < pending
        → Entered items binders pending depth top room 1 (depth + binders) (top - 1) (set room (top - 1) ((pending - 1) * scope_base + depth))
    entered-kept l =
        let s = (pending - 1) * scope_base + depth in
        let len = length-set room (top - 1) s in
        let kept = room-kept room top s (h.free l) h.within in
        record {
          come = rw (kept, h.one binds) (sym (come_kept 1 (depth + binders) (pending - 1) depth (drop top room) h.shallow));
          stands = λ k v.
              record {
                within = omega (arith, len, v.within);
                opened = rw kept (omega arith, v.opened);
                some = λ z. absurd (omega arith);
                scopes = omega (arith, len, v.more l, v.within);
                more = λ m. absurd (omega arith);
              };
          same_length = len;
        }

    entered_last : pending ≤ 1 → Entered items binders pending depth top room 1 (depth + binders) top room
    entered_last l =
        record {
          come = rw (h.one binds) (sym (come_last 1 (depth + binders) (pending - 1) depth (drop top room) (omega (arith, h.pends))));
          stands = λ k v.
              record {
                within = v.within;
                opened = v.opened;
                some = λ z. absurd (omega arith);
                scopes = omega (arith, v.scopes);
                more = λ m. absurd (omega arith);
              };
          same_length = refl;
        }

module _ {items binders : ℕ} {at : Scope} {room : List ℕ} (h : Enters items binders at.pending at.depth at.top room) where
  by_arms : let s = entered items binders at room in
      Entered items binders at.pending at.depth at.top room s.0.pending s.0.depth s.0.top s.1
  unfolding entered
  by_arms =
      elim (dec_le binders 0) [
        | no b ↦ rw (lt-ltb 0 binders (omega arith)) (elim (dec_le (at.pending - 1) 0) [
          | no l ↦ rw (lt-ltb 0 (at.pending - 1) (omega arith)) (entered-kept h (omega arith) (omega arith))
          | yes l ↦ rw le-ltb (entered_last h (omega arith) (omega arith))
        ])
        | yes b ↦ rw (le-ltb 0 binders b) (elim (ℕ_discrete (items + (at.pending - 1)) 0) [
          | no z ↦ rw ne_eqb (entered_plain h (omega arith) (λ q. absurd (z q)))
          | yes z ↦ rw (eq-eqb (items + (at.pending - 1)) 0 z) (elim (dec_lt at.top (length room)) [
            | yes l ↦ rw lt-ltb (entered-back h (omega arith) z l)
            | no l ↦ rw (le-ltb at.top (length room) (omega arith)) (entered_plain h (omega arith) (λ q. omega (arith, h.within)))
          ])
        ])
      ]

  pub entered_means : {next : Scope} {room' : List ℕ} → (next, room') ≡ entered items binders at room
      → Entered items binders at.pending at.depth at.top room next.pending next.depth next.top room'
  entered_means e = rw (← e) at by_arms
