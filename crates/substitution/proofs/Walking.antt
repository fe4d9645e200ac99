-- A walk that keeps its scopes in a room: the binders around the items still to come are those of the pending items and of the scopes at the end
-- of the room.
use Prim.Native.Nat.{ℕ, zero, suc, ◌+◌, ◌*◌, ◌-◌, ◌^◌, ◌≤◌, ◌<◌}
use mathlib.Core.Path.{◌≡◌, refl, sym, ◌∙◌}
use mathlib.Core.List.{List, [], ◌∷◌}
use native.Mathlib.Omega.{arith}
use lib.ListN.{length, get_or, drop, replicate, length-append, length-replicate, drop_of_length-le}
use Rattle.calculus.specs.Words.{workspace_most, kind_of, payload_of}
use Rattle.calculus.specs.Skip.{arity, span}
use Rattle.calculus.specs.First.{first_term}
use Rattle.words.specs.Bound.{bound}
use Rattle.words.proofs.BoundLaws.{binding_few}
use Rattle.words.proofs.Spans.{arity_bounded}
use Rattle.walk.specs.Depths.{depths}
use Rattle.substitution.specs.Results.{Starts}
use Rattle.walk.specs.declared.scope.Scope.{Scope}
use Rattle.walk.specs.Scopes.{scope_base, Enters, entered}
use Rattle.walk.proofs.DepthLaws.{binder_one}
use Rattle.walk.proofs.ScopeLaws.{expanded, to_come, come_first}
use Rattle.walk.proofs.EnterLaws.{Stands, Entered, entered_means}
use Rattle.substitution.proofs.WalkLaws.{Walk, walk_start, walk_word, walk_few, walk_done, depth_bounded, depth_is, walk_inside}

pub record Walking (src : List ℕ) (body : ℕ) (room₀ room : List ℕ) (i pending depth top : ℕ) : Type 0 where
  pub walk : Walk src body i (to_come pending depth (drop top room))
  pub stands : Stands (i - body) pending top room
  pub short : length src ≤ workspace_most
  pub enough : span 1 (drop body src) ≤ 2 * length room₀
  pub same_length : length room ≡ length room₀

pub walking_start : {src room : List ℕ} {body : ℕ} → length src ≤ workspace_most → Starts (drop body src) (first_term (drop body src))
    → span 1 (drop body src) ≤ 2 * length room → Walking src body room room body 1 0 (length room)
walking_start {src} {room} {body} short h enough =
    let none : drop (length room) room ≡ [] = drop_of_length-le room {i = length room} (omega arith) in
    record {
      walk = rw none (walk_start src body h);
      stands =
          record { within = omega arith; opened = rw none tt; some = λ q. refl; scopes = omega arith; more = λ q. absurd (omega arith) };
      short = short;
      enough = enough;
      same_length = refl;
    }

module _ {src : List ℕ} {body : ℕ} {room₀ room : List ℕ} {i pending depth top : ℕ} (v : Walking src body room₀ room i pending depth top) where
  pub nothing_left : pending ≡ 0 → to_come pending depth (drop top room) ≡ []
  nothing_left z = rw (z, drop_of_length-le room {i = top} (omega (arith, v.stands.some z)))

  pub walking_done : pending ≤ 0 → i ≡ body + span 1 (drop body src)
  walking_done none = walk_done v.walk (nothing_left (omega arith))

  -- Before the end an item is to come.
  pub walking_some : i < body + span 1 (drop body src) → 0 < pending
  walking_some l = go pending refl
    where
      go : (p : ℕ) → p ≡ pending → 0 < pending
      go zero e = absurd (omega (arith, walking_done (omega arith)))
      go (suc p) e = omega arith

  length_left : pending ≤ length (to_come pending depth (drop top room))
  length_left = omega (arith, length-append (replicate pending depth) (expanded (drop top room)), length-replicate pending depth)

  module _ (some : 0 < pending) where
    pub walking_within : (i < length src) × (length src ≤ workspace_most) × (body ≤ i)
    walking_within = omega (arith, walk_few v.walk, length_left, v.short, v.walk.from)

    -- The item to come, and those behind it.
    abbrev pub others : List ℕ
    others = to_come (pending - 1) depth (drop top room)

    next_walk : Walk src body i (depth ∷ others)
    next_walk = rw (come_first pending depth (drop top room) (omega arith)) at v.walk

    pub walking_depth : depth < scope_base
    walking_depth = omega (arith, depth_bounded next_walk walking_within.0, walking_within)

    pub walking_inside : i < body + span 1 (drop body src)
    walking_inside = walk_inside next_walk walking_within.0

    pub walking_number : get_or (depths (0 ∷ []) (drop body src)) (i - body) 0 ≡ depth
    walking_number = depth_is next_walk walking_within.0

    -- What a nested walk may use of the room.
    pub walking_free : 2 * length room₀ ≤ 2 * top + span 1 (drop body src)
    walking_free = omega (arith, v.stands.scopes, v.stands.within, v.same_length, walking_inside, v.walk.from)

    pub walking_enters : {w items binders : ℕ} → w < 2 ^ 32 → items ≡ arity w → binders ≡ bound w → Enters items binders pending depth top room
    walking_enters {w} number follow bind =
        record {
          counts = rw follow (arity_bounded w number);
          one = λ l. follow ∙ binder_one w (rw bind at l);
          few_binders = rw bind (binding_few (kind_of w) (payload_of w));
          pends = omega arith;
          few = omega (arith, walk_few v.walk, length_left, v.short);
          shallow = walking_depth;
          within = v.stands.within;
          free = λ l. omega (arith, v.stands.more l, walking_inside, v.enough, v.same_length, v.walk.from);
        }

    -- The scope behind a word, by its numbers.
    pub walking_entered : {w items binders : ℕ} {next : Scope} {room' : List ℕ} → w < 2 ^ 32 → items ≡ arity w → binders ≡ bound w
        → (next, room') ≡ entered items binders (record { pending = pending; depth = depth; top = top }) room
        → Entered (arity w) (bound w) pending depth top room next.pending next.depth next.top room'
    walking_entered number follow bind e = rw (follow, bind) at (entered_means (walking_enters number follow bind) e)

    pub walking_next : {pending' depth' top' : ℕ} {room' : List ℕ}
        → Entered (arity (get_or src i 0)) (bound (get_or src i 0)) pending depth top room pending' depth' top' room' → Walking src body room₀ room' (i + 1) pending' depth' top'
    walking_next entered =
        let shift : i + 1 - body ≡ i - body + 1 = omega (arith, v.walk.from) in
        record {
          walk = rw entered.come (walk_word next_walk walking_within.0);
          stands = rw shift (entered.stands (i - body) v.stands);
          short = v.short;
          enough = v.enough;
          same_length = entered.same_length ∙ v.same_length;
        }

-- A nested walk may write before `top`.
pub walking_lent : {src : List ℕ} {body : ℕ} {room₀ room room' : List ℕ} {i pending depth top : ℕ} → Walking src body room₀ room i pending depth top
    → length room' ≡ length room → drop top room' ≡ drop top room → Walking src body room₀ room' i pending depth top
walking_lent {room = room} {room'} {top = top} v kept same =
    record {
      walk = rw same v.walk;
      stands =
          record {
            within = omega (arith, v.stands.within);
            opened = rw same v.stands.opened;
            some = λ z. v.stands.some z ∙ sym kept;
            scopes = rw kept v.stands.scopes;
            more = λ l. rw kept (v.stands.more l);
          };
      short = v.short;
      enough = v.enough;
      same_length = kept ∙ v.same_length;
    }
