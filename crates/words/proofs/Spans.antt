-- The walk of `extent` over the words: one turn of `span`, its ends, several items by the first, and a bound on how many items a word can add.
use Prim.Native.Nat.{ℕ, zero, suc, ◌+◌, ◌-◌, ◌≤◌, ◌<◌, ◌^◌}
use mathlib.Core.Path.{◌≡◌, refl, ap}
use mathlib.Core.Bool.{Bool, true, false, cond}
use mathlib.Core.List.{List}
use native.Mathlib.Numerals.{add-one}
use native.Mathlib.Omega.{arith}
use lib.Dec.{eqb}
use lib.ListN.{length, get_or, drop}
use lib.Seq.{drop-cons, drop-drop}
use Rattle.calculus.specs.Words.{abstraction_kind, application_kind, constructor_kind, case_kind, branch_kind, kind_of, payload_of, count_of}
use Rattle.calculus.specs.Skip.{following, arity, span}
use Rattle.calculus.proofs.SkipLaws.{span-add}
use Rattle.words.specs.Limits.{payload_bound}

pub arity_bounded : (w : ℕ) → w < 2 ^ 32 → arity w ≤ payload_bound
unfolding following
arity_bounded w h =
    let k = kind_of w in
    go (eqb k abstraction_kind) (eqb k application_kind) (eqb k constructor_kind) (eqb k case_kind) (eqb k branch_kind)
  where
    go : (a b c d e : Bool) → cond a 1 (cond b 2 (cond c (count_of (payload_of w)) (cond d (suc (payload_of w)) (cond e 1 0)))) ≤ payload_bound
    go true b c d e = omega arith
    go false true c d e = omega arith
    go false false true d e = omega arith
    go false false false true e = omega arith
    go false false false false true = omega arith
    go false false false false false = omega arith

-- A word passed: the items after it are to come instead of it.
pub span-step : (ws : List ℕ) (i k : ℕ) → i < length ws → (k ≡ 0 → ⊥) → i + span k (drop i ws) ≡ i + 1 + span (arity (get_or ws i 0) + (k - 1)) (drop (i + 1) ws)
span-step ws i zero h n = absurd (n refl)
span-step ws i (suc k) h n =
    let p : suc k - 1 ≡ k = omega arith in
    rw (p, add-one, drop-cons ws i 0) (omega arith)

-- Some items end where those behind the first do.
pub span_first : (ws : List ℕ) (i k : ℕ) {j : ℕ} → j ≡ i + span 1 (drop i ws) → j + span k (drop j ws) ≡ i + span (suc k) (drop i ws)
span_first ws i k e =
    let one : 1 + k ≡ suc k = omega arith in
    omega (
      arith,
      e,
      ap (λ m. span m (drop i ws)) one,
      span-add (drop i ws) 1 k,
      ap (span k) (drop-drop (span 1 (drop i ws)) i ws),
      ap (λ m. span k (drop m ws)) e,
    )
