-- `is_combinator` meets its contract. The invariant is `Walking`.
use Prim.Native.Nat.{ℕ, ◌<◌}
use Rattle.binary.proofs.WalkLaws.{walking_last, walking_pops, walking_under, walking_full, walking_pushes}
use borrow.Author.Tests.{eqb-true}
use lib.ListN.{length}
use mathlib.Core.Bool.{true, false, false≢true}
use mathlib.Core.List.{List, [], ◌∷◌}
use mathlib.Core.Path.{◌≡◌, refl, sym}
use native.Mathlib.Omega.{arith}
use Rattle.binary.proofs.combinator.is_combinator.Goals as goal
use Rattle.binary.proofs.combinator.is_combinator.Goals.{in_default+in-Variable+else-depth-payload+in-Some, in-1, in-2+else-is_full}

no_items : (xs : List ℕ) → (false ≡ true → 0 < length xs) × (0 < length xs → false ≡ true) → xs ≡ []
no_items [] h = refl
no_items (x ∷ xs) h = absurd (false≢true (h.1 (omega arith)))

pub returns-in_default-pop : goal.returns-in_default-pop
returns-in_default-pop c =
    walking_last c.loop-i.invariant (omega arith) (sym c.in-Variable.ensures) (omega (arith, c.payload.ensures, c.if-depth-payload.false))
    (no_items c.loop-i.waiting.items c.in_default-pop.ensures.variant)

pub returns-then-is_full : goal.returns-then-is_full
returns-then-is_full c =
    walking_full c.loop-i.invariant (omega arith) (omega arith) c.requires
    (omega (arith, eqb-true (length c.loop-i.waiting.items) 1024 (sym c.if-is_full.ensures.value)))

pub loop-i-preserved : goal.loop-i-preserved
loop-i-preserved c =
    let v = c.loop-i.invariant in
    elim c.match-word.branch [
      | in_default+in-Variable+else-depth-payload+in-Some w ↦
          rw (w.waiting-is, w.depth-is)
          (walking_pops v (omega arith) (sym w.in-Variable.ensures) (omega (arith, w.payload.ensures, w.if-depth-payload.false)) w.pop.new.self.items w.in-Some.next w.in-Some.ensures.items)
      | in-1 w ↦ rw (w.waiting-is, w.depth-is) (walking_under v (omega arith) (omega arith))
      | in-2+else-is_full w ↦
          rw (w.waiting-is, w.depth-is) (walking_pushes v (omega arith) (omega arith) _ w.push.ensures.items)
    ]
