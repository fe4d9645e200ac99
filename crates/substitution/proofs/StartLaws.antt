-- Where consecutive items start: the extents of the items before them add up.
use Prim.Native.Nat.{ℕ, ◌+◌, ◌-◌, ◌≤◌, ◌<◌}
use mathlib.Core.Path.{◌≡◌, sym, ◌∙◌, ap}
use mathlib.Core.List.{List}
use mathlib.Core.Logic.{⊎_elim}
use native.Mathlib.Nat.{eq-or-lt_of_le}
use native.Mathlib.Omega.{arith}
use lib.ListN.{length, get_or, drop, set}
use lib.Seq.{drop-drop, get_or-drop, get_or-set_same, get_or-set_other}
use Rattle.calculus.specs.Skip.{span}
use Rattle.calculus.proofs.SkipLaws.{span_zero, span-add}
use Rattle.substitution.specs.Results.{Positions}

-- The positions at which the items from position `args` on start, those before the j-th.
pub record Offsets (src : List ℕ) (args : ℕ) (starts : List ℕ) (j : ℕ) : Type 0 where
  pub each : (i : ℕ) → i < j → get_or starts i 0 ≡ args + span i (drop args src)

pub offsets_first : (src : List ℕ) (args : ℕ) (starts : List ℕ) → get_or starts 0 0 ≡ args → Offsets src args starts 1
offsets_first src args starts q =
    record { each = λ i h. let e : i ≡ 0 = omega arith in rw e (omega (arith, q, span_zero (drop args src))) }

pub offsets_next : (src : List ℕ) (args : ℕ) (starts : List ℕ) (j end : ℕ) → 1 ≤ j → j < length starts → Offsets src args starts j
    → end ≡ get_or starts (j - 1) 0 + span 1 (drop (get_or starts (j - 1) 0) src) → Offsets src args (set starts j end) (j + 1)
offsets_next src args starts j end some room p q =
    record { each = λ i h. ⊎_elim (here i) (before i) (eq-or-lt_of_le (omega arith)) }
  where
    next : end ≡ args + span j (drop args src)
    next =
        let at : get_or starts (j - 1) 0 ≡ args + span (j - 1) (drop args src) = p.each (j - 1) (omega arith) in
        let e : drop (get_or starts (j - 1) 0) src ≡ drop (span (j - 1) (drop args src)) (drop args src) = ap (λ m. drop m src) at ∙ sym (drop-drop _ args src) in
        let last : j - 1 + 1 ≡ j = omega arith in
        omega (arith, q, at, ap (span 1) e, span-add (drop args src) (j - 1) 1, ap (λ m. span m (drop args src)) last)

    here : (i : ℕ) → i ≡ j → get_or (set starts j end) i 0 ≡ args + span i (drop args src)
    here i e = rw e (get_or-set_same starts j end 0 room ∙ next)

    before : (i : ℕ) → i < j → get_or (set starts j end) i 0 ≡ args + span i (drop args src)
    before i l = get_or-set_other starts j i end 0 (omega arith) ∙ p.each i (omega arith)

-- Where that position is the end of the last item, it is an offset too.
pub positions_offsets : {src : List ℕ} {args after n : ℕ} {starts : List ℕ} → Positions src args after n starts → after ≡ args + span n (drop args src)
    → Offsets src args starts (n + 1)
positions_offsets {src} {args} {after} {n} {starts} p q =
    record { each = λ i h. ⊎_elim (last i) (p.each i) (eq-or-lt_of_le (omega arith)) }
  where
    last : (i : ℕ) → i ≡ n → get_or starts i 0 ≡ args + span i (drop args src)
    last i e =
        let z : n + 0 ≡ i = omega arith in
        rw (z) at (sym (get_or-drop n starts 0 0)) ∙ rw (p.rest, e) q
