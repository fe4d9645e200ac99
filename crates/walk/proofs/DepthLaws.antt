-- Laws of a word's binders and of `depths`: no more numbers than words, and each at most `count_base` for each word before it.
use Prim.Native.Nat.{ℕ, zero, suc, ◌+◌, ◌*◌, ◌≤◌, ◌<◌}
use mathlib.Core.Path.{◌≡◌, refl, sym, ◌∙◌, ap}
use mathlib.Core.Bool.{Bool, true, false}
use mathlib.Core.List.{List, [], ◌∷◌, ◌++◌}
use native.Mathlib.Omega.{arith}
use borrow.Author.Tests.{eqb-true}
use lib.Dec.{eqb}
use lib.ListN.{length, take, replicate, length-append, length-replicate}
use lib.Seq.{take-nil}
use Rattle.calculus.specs.Words.{abstraction_kind, branch_kind, count_base, kind_of, payload_of}
use Rattle.calculus.specs.Skip.{following, arity, span}
use Rattle.walk.specs.Depths.{depths}
use Rattle.words.specs.Bound.{binding as bound, bound as binders}
use Rattle.words.proofs.BoundLaws.{binding_few}

pub depths_done : (ws : List ℕ) → depths [] ws ≡ []
depths_done [] = refl
depths_done (w ∷ ws) = refl

pub length-items : (w d : ℕ) (ds : List ℕ) → length (replicate (arity w) (d + binders w) ++ ds) ≡ arity w + length ds
length-items w d ds = length-append (replicate (arity w) (d + binders w)) ds ∙ (rw (length-replicate (arity w) (d + binders w)))

pub length-depths : (ws ds : List ℕ) → length (depths ds ws) ≤ length ws
length-depths [] ds = omega arith
length-depths (w ∷ ws) [] = omega arith
length-depths (w ∷ ws) (d ∷ ds) = omega (arith, length-depths ws (replicate (arity w) (d + binders w) ++ ds))

-- They are as many as the items have words, and the words after the items do not matter.
pub span-depths : (ws ds : List ℕ) → length (depths ds ws) ≡ span (length ds) ws
span-depths [] ds = refl
span-depths (w ∷ ws) [] = refl
span-depths (w ∷ ws) (d ∷ ds) =
    ap suc (span-depths ws (replicate (arity w) (d + binders w) ++ ds) ∙ ap (λ j. span j ws) (length-items w d ds))

pub depths-within : (ws ds : List ℕ) → depths ds (take (span (length ds) ws) ws) ≡ depths ds ws
depths-within [] ds = rw (take-nil (span (length ds) []))
depths-within (w ∷ ws) [] = refl
depths-within (w ∷ ws) (d ∷ ds) =
    ap (λ es. d ∷ es)
    (ap (λ j. depths (replicate (arity w) (d + binders w) ++ ds) (take (span j ws) ws)) (sym (length-items w d ds))
    ∙ depths-within ws (replicate (arity w) (d + binders w) ++ ds))

-- Numbers of binders that are at most b.
abbrev pub Bounded : ℕ → List ℕ → Type 0
Bounded b [] = Unit {0}
Bounded b (d ∷ ds) = (d ≤ b) × Bounded b ds

bounded_weaken : (b c : ℕ) (ds : List ℕ) → b ≤ c → Bounded b ds → Bounded c ds
bounded_weaken b c [] h p = tt
bounded_weaken b c (d ∷ ds) h p = (omega arith, bounded_weaken b c ds h p.1)

bounded_replicate : (b n d : ℕ) (ds : List ℕ) → d ≤ b → Bounded b ds → Bounded b (replicate n d ++ ds)
bounded_replicate b zero d ds h p = p
bounded_replicate b (suc n) d ds h p = (h, bounded_replicate b n d ds h p)

-- A binder has one item behind it.
pub binder_one : (w : ℕ) → 0 < binders w → arity w ≡ 1
unfolding following bound
binder_one w = go (kind_of w) (payload_of w) (eqb (kind_of w) abstraction_kind) refl (eqb (kind_of w) branch_kind) refl
  where
    go : (k p : ℕ) (x : Bool) → eqb k abstraction_kind ≡ x → (y : Bool) → eqb k branch_kind ≡ y → 0 < bound k p → following k p ≡ 1
    go k p true e y f h = rw (eqb-true k abstraction_kind e)
    go k p false e true f h = rw (eqb-true k branch_kind f)
    go k p false e false f h = absurd (omega (arith, rw (e, f) at h))

-- A word adds at most `count_base` to the binders around the items to come.
pub bounded_word : (b c w d : ℕ) (ds : List ℕ) → Bounded b (d ∷ ds) → b + count_base ≤ c → Bounded c (replicate (arity w) (d + binders w) ++ ds)
bounded_word b c w d ds p h =
    bounded_replicate c (arity w) (d + binders w) ds (omega (arith, binding_few (kind_of w) (payload_of w))) (bounded_weaken b c ds (omega arith) p.1)

pub bounded_depths : (ws ds : List ℕ) (b c : ℕ) → Bounded b ds → b + count_base * length ws ≤ c → Bounded c (depths ds ws)
bounded_depths [] ds b c p h = tt
bounded_depths (w ∷ ws) [] b c p h = tt
bounded_depths (w ∷ ws) (d ∷ ds) b c p h =
    (omega arith, bounded_depths ws _ (b + count_base) c (bounded_word b (b + count_base) w d ds p (omega arith)) (omega arith))
