-- The binders around the items still to come, in their short form: what a word makes of them.
use Prim.Native.Nat.{ℕ, zero, suc, ◌+◌, ◌*◌, ◌-◌, ◌/◌, ◌%◌, ◌≤◌, ◌<◌}
use mathlib.Core.Path.{◌≡◌, sym, ◌∙◌, ap}
use mathlib.Core.List.{List, [], ◌∷◌, ◌++◌, append_assoc}
use native.Mathlib.Omega.{arith}
use lib.ListN.{length, drop, set, replicate, length-set, replicate-append-replicate}
use lib.Seq.{drop-cons, get_or-set_same, drop-set-lt}
use Rattle.walk.specs.Scopes.{scope_base}

-- The binders around each item of scopes, and of `pending` items under `depth` binders in front of them.
abbrev pub expanded : List ℕ → List ℕ
expanded [] = []
expanded (s ∷ ss) = replicate (s / scope_base) (s % scope_base) ++ expanded ss

abbrev pub to_come : (pending depth : ℕ) → List ℕ → List ℕ
to_come pending depth ss = replicate pending depth ++ expanded ss

-- The next item is the first of the pending ones.
pub come_first : (p d : ℕ) (ss : List ℕ) → 1 ≤ p → to_come p d ss ≡ d ∷ to_come (p - 1) d ss
come_first zero d ss h = absurd (omega arith)
come_first (suc p) d ss h = let e : suc p - 1 ≡ p = omega arith in rw e

-- A word that binds nothing: the items behind it join the pending ones.
pub come_plain : (a p d b : ℕ) (ss : List ℕ) → b ≡ 0 → replicate a (d + b) ++ to_come p d ss ≡ to_come (a + p) d ss
come_plain a p d b ss e =
    let z : d + b ≡ d = omega arith in
    rw z (sym (append_assoc (replicate a d) (replicate p d) (expanded ss)) ∙ ap (λ l. l ++ expanded ss) (replicate-append-replicate a p d))

-- A binder: the pending items behind it are kept as a scope, if there are any.
pub come_kept : (a e p d : ℕ) (ss : List ℕ) → d < scope_base → replicate a e ++ to_come p d ss ≡ to_come a e ((p * scope_base + d) ∷ ss)
come_kept a e p d ss h =
    let x : (p * scope_base + d) / scope_base ≡ p = omega arith in
    let y : (p * scope_base + d) % scope_base ≡ d = omega arith in
    rw (x, y)

pub come_last : (a e p d : ℕ) (ss : List ℕ) → p ≡ 0 → replicate a e ++ to_come p d ss ≡ to_come a e ss
come_last a e p d ss z = rw z

-- Nothing is pending: the last scope kept is taken up again, or all is done.
pub come_back : (p d s : ℕ) (ss : List ℕ) → p ≡ 0 → to_come p d (s ∷ ss) ≡ to_come (s / scope_base) (s % scope_base) ss
come_back p d s ss z = rw z

-- The scopes stand at the end of the room, the last one kept first.
pub room-kept : (room : List ℕ) (top s : ℕ) → 1 ≤ top → top ≤ length room → drop (top - 1) (set room (top - 1) s) ≡ s ∷ drop top room
room-kept room top s h g =
    let e : suc (top - 1) ≡ top = omega arith in
    drop-cons (set room (top - 1) s) (top - 1) 0 (omega (arith, length-set room (top - 1) s))
    ∙ rw (get_or-set_same room (top - 1) s 0 (omega arith), e, drop-set-lt top room (top - 1) s (omega arith))
