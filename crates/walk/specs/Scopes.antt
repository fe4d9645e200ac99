-- One word of a walk that keeps its scopes in a room: what `enter` needs and leaves.
--
-- The walk carries the binders around the items still to come in a short form: how many items stand next under the same binders, and behind them
-- the scopes that were left, each with its own two numbers in one word. The scopes fill the room from its end, the last one left first.
use Rattle.std.specs.Prelude.{ℕ, ◌+◌, ◌*◌, ◌-◌, ◌/◌, ◌%◌, ◌≤◌, ◌<◌, ◌≡◌, cond, ◌&&◌, List, ltb, eqb, length, get_or, set}
use Rattle.calculus.specs.Words.{workspace_most, count_base}
use Rattle.words.specs.Limits.{payload_bound}
use Rattle.walk.specs.declared.scope.Scope.{Scope}

-- A scope is items × 32768 + binders.
abbrev pub scope_base : ℕ
scope_base = 32768

-- There is an item to come; at most as many items follow its word as a payload counts, under fewer binders more than a count's base, and only one where
-- there is such a binder; and there is room for a scope if the walk may leave one.
pub record Enters (items binders pending depth top : ℕ) (room : List ℕ) : Type 0 where
  pub counts : items ≤ payload_bound
  pub one : 0 < binders → items ≡ 1
  pub few_binders : binders < count_base
  pub pends : 1 ≤ pending
  pub few : pending ≤ workspace_most
  pub shallow : depth < scope_base
  pub within : top ≤ length room
  pub free : 2 ≤ pending → 1 ≤ top

-- Where the walk stands behind the word, and its room. Behind a binder its one item comes next, and the others that were pending are kept as a scope, if there
-- are any. Behind any other word its items come next, and then the others; where there are none, the last scope that was kept is taken up again.
unfoldable pub entered : (items binders : ℕ) → Scope → (room : List ℕ) → Scope × List ℕ
entered items binders at room =
    let others = at.pending - 1 in
    let scope = get_or room at.top 0 in
    cond (ltb 0 binders)
    (cond (ltb 0 others)
    (record { pending = 1; depth = at.depth + binders; top = at.top - 1 }, set room (at.top - 1) (others * scope_base + at.depth))
    (record { pending = 1; depth = at.depth + binders; top = at.top }, room))
    (cond (eqb (items + others) 0 && ltb at.top (length room))
    (record { pending = scope / scope_base; depth = scope % scope_base; top = at.top + 1 }, room)
    (record { pending = items + others; depth = at.depth; top = at.top }, room))
