-- Runs of ones, and the leading zeros of a window's complement.
use Prim.Native.Nat.{ℕ, zero, suc, ◌+◌, ◌*◌, ◌-◌, ◌^◌, ◌≤◌, ◌<◌}
use mathlib.Core.Path.{◌≡◌, refl, sym, ap, ◌∙◌}
use mathlib.Core.Bool.{Bool, true, false}
use mathlib.Core.List.{List, [], ◌∷◌}
use native.Mathlib.Decide.{dec_le}
use native.Mathlib.Nat.{pow-suc}
use native.Mathlib.Omega.{arith}
use lib.Count.{count_leading_zeros, leading_unique}
use lib.ListN.{length, take, drop}
use lib.Seq.{slice, length-slice, take-nil, drop-drop}
use Rattle.encoding.specs.Bytes.{number}
use Rattle.encoding.proofs.BytesLaws.{number_below}
use Rattle.bits.specs.Runs.{run}

pub run_le : (bs : List Bool) → run bs ≤ length bs
run_le [] = omega arith
run_le (true ∷ bs) = omega (arith, run_le bs)
run_le (false ∷ bs) = omega arith

-- A part of a run, and a part that is longer.
pub run_inside : (m : ℕ) (bs : List Bool) → m ≤ run bs → run (take m bs) ≡ m
run_inside zero bs h = refl
run_inside (suc m) [] h = absurd (omega arith)
run_inside (suc m) (true ∷ bs) h = ap suc (run_inside m bs (omega arith))
run_inside (suc m) (false ∷ bs) h = absurd (omega arith)

pub run_past : (m : ℕ) (bs : List Bool) → run bs < m → run (take m bs) ≡ run bs
run_past zero bs h = absurd (omega arith)
run_past (suc m) [] h = refl
run_past (suc m) (true ∷ bs) h = ap suc (run_past m bs (omega arith))
run_past (suc m) (false ∷ bs) h = refl

-- What is left of a run.
pub run-rest : (m : ℕ) (bs : List Bool) → m ≤ run bs → run bs ≡ m + run (drop m bs)
run-rest zero bs h = omega arith
run-rest (suc m) [] h = absurd (omega arith)
run-rest (suc m) (true ∷ bs) h = omega (arith, run-rest m bs (omega arith))
run-rest (suc m) (false ∷ bs) h = absurd (omega arith)

none_less : (k : ℕ) → 2 ^ (k - 0) ≡ 2 ^ k
none_less k = ap (λ n. 2 ^ n) (omega arith)

one_less : (k n : ℕ) → 2 ^ (suc k - suc n) ≡ 2 ^ (k - n)
one_less k n = ap (λ m. 2 ^ m) (omega arith)

-- The complement of a number of k bits that start with a run: it has just the bits behind the run, and the first of them is set.
complement_below : (k : ℕ) (bs : List Bool) → 2 ^ k - 1 - number k bs < 2 ^ (k - run (take k bs))
complement_below zero bs = omega arith
complement_below (suc k) [] = omega (arith, none_less (suc k), pow-suc 2 k, number_below k [])
complement_below (suc k) (true ∷ bs) = omega (arith, one_less k (run (take k bs)), pow-suc 2 k, number_below k bs, complement_below k bs)
complement_below (suc k) (false ∷ bs) = omega (arith, none_less (suc k), pow-suc 2 k, number_below k bs)

complement_above : (k : ℕ) (bs : List Bool) → 2 ^ (k - run (take k bs)) ≤ 2 * (2 ^ k - 1 - number k bs) + 1
complement_above zero bs = omega arith
complement_above (suc k) [] = omega (arith, none_less (suc k), pow-suc 2 k, number_below k [])
complement_above (suc k) (true ∷ bs) = omega (arith, one_less k (run (take k bs)), pow-suc 2 k, number_below k bs, complement_above k bs)
complement_above (suc k) (false ∷ bs) = omega (arith, none_less (suc k), pow-suc 2 k, number_below k bs)

run_most : (k : ℕ) (bs : List Bool) → run (take k bs) ≤ k
run_most zero bs = omega arith
run_most (suc k) [] = omega arith
run_most (suc k) (true ∷ bs) = omega (arith, run_most k bs)
run_most (suc k) (false ∷ bs) = omega arith

-- The leading zeros of the complement are the run.
pub leading_run : (k : ℕ) (bs : List Bool) → count_leading_zeros k (2 ^ k - 1 - number k bs) ≡ run (take k bs)
leading_run k bs =
    sym (leading_unique k (2 ^ k - 1 - number k bs) (run (take k bs)) (k - run (take k bs)) (omega (arith, run_most k bs)) (complement_below k bs) (complement_above k bs))

drop-take : (n m : ℕ) (bs : List Bool) → drop n (take m bs) ≡ take (m - n) (drop n bs)
drop-take zero m bs = ap (λ k. take k bs) {x = m} {y = m - 0} (omega arith)
drop-take (suc n) zero bs = let e : 0 - suc n ≡ 0 = omega arith in rw e
drop-take (suc n) (suc m) [] = rw (take-nil (suc m - suc n))
drop-take (suc n) (suc m) (b ∷ bs) = let e : m - n ≡ suc m - suc n = omega arith in drop-take n m bs ∙ ap (λ k. take k (drop n bs)) e

-- A run that goes on: so many ones of it are counted, and r more are seen in the v bits that follow them.
module _ (bs : List Bool) (from to : ℕ) (inside : to ≤ length bs) where
  pub run_ends : run (slice from to bs) ≤ to - from
  run_ends = omega (arith, run_le (slice from to bs), length-slice from to bs inside)

  module _ {count r : ℕ} (v : ℕ) (counted : count ≤ run (slice from to bs)) (seen : r ≡ run (take v (drop (from + count) bs))) where
    abbrev behind : List Bool
    behind = drop (from + count) bs

    -- The whole run is those counted and those that follow.
    whole : run (slice from to bs) ≡ count + run (take (to - (from + count)) behind)
    whole =
        run-rest count (slice from to bs) counted
        ∙ ap (λ cs. count + run cs) (drop-drop count from (take to bs) ∙ drop-take (from + count) to bs)

    seen_least : r ≤ run behind
    seen_least = go (dec_le v (run behind))
      where
        go : Dec (v ≤ run behind) → r ≤ run behind
        go (yes h) = omega (arith, run_inside v behind h)
        go (no h) = omega (arith, run_past v behind (omega arith))

    pub run_fills : from + count ≤ to → to - from - count ≤ r → to - from ≡ run (slice from to bs)
    run_fills l h = omega (arith, whole, run_inside (to - (from + count)) behind (omega (arith, seen_least)))

    pub run_stops : r < to - from - count → r < v → count + r ≡ run (slice from to bs)
    run_stops l h = go (dec_le v (run behind))
      where
        go : Dec (v ≤ run behind) → count + r ≡ run (slice from to bs)
        go (yes g) = absurd (omega (arith, run_inside v behind g))
        go (no g) = let past = run_past v behind (omega arith) in omega (arith, whole, past, run_past (to - (from + count)) behind (omega arith))

    pub run_goes_on : r < to - from - count → count + r ≤ run (slice from to bs)
    run_goes_on l = go (dec_le (to - (from + count)) (run behind))
      where
        go : Dec (to - (from + count) ≤ run behind) → count + r ≤ run (slice from to bs)
        go (yes g) = omega (arith, whole, run_inside (to - (from + count)) behind g)
        go (no g) = omega (arith, whole, seen_least, run_past (to - (from + count)) behind (omega arith))
