-- Words that are a byte each: what a test of one tells, and putting them into a slice of bytes, one after the other.
use Prim.Native.Nat.{ℕ, ◌+◌, ◌≤◌, ◌<◌}
use mathlib.Core.Path.{◌≡◌, refl, ap, ◌∙◌}
use mathlib.Core.Bool.{true, ◌&&◌, and-eq-true_iff}
use mathlib.Core.List.{List, [], ◌∷◌}
use Rattle.std.specs.List.{list_all}
use native.Mathlib.Numerals.{add-one}
use native.Mathlib.Omega.{arith}
use lib.Dec.{ltb}
use lib.ListN.{length, drop, set, get_or, length-set, drop_of_length-le}
use lib.Seq.{sets, drop-cons}
use borrow.Author.Tests.{ltb-true}
use Rattle.words.specs.Placed.{Placed}
use Rattle.text.specs.Bytes.{byte_base, are_bytes}

pub byte_first : (ws : List ℕ) (i : ℕ) → i < length ws → (ltb (get_or ws i 0) byte_base && are_bytes (drop (i + 1) ws)) ≡ are_bytes (drop i ws)
unfolding are_bytes
byte_first ws i h = rw (add-one i, drop-cons ws i 0 h)

-- The test, element by element.
pub all_bytes : (ws : List ℕ) → list_all (λ w. ltb w byte_base) ws ≡ are_bytes ws
unfolding are_bytes
all_bytes [] = refl
all_bytes (w ∷ ws) = ap (λ b. ltb w byte_base && b) (all_bytes ws)

-- The bytes still to put make of the slice what all of them make of it at entry.
pub record Narrowing (ws bytes₀ bytes : List ℕ) (i : ℕ) : Type 0 where
  pub inside : i ≤ length ws
  pub left : are_bytes (drop i ws) ≡ true
  pub work : sets bytes i (drop i ws) ≡ sets bytes₀ 0 ws
  pub kept : length bytes ≡ length bytes₀

module _ {ws bytes₀ bytes : List ℕ} {i : ℕ} (n : Narrowing ws bytes₀ bytes i) (more : i < length ws) where
  both : (ltb (get_or ws i 0) byte_base ≡ true) × (are_bytes (drop (i + 1) ws) ≡ true)
  both = (and-eq-true_iff (ltb (get_or ws i 0) byte_base) (are_bytes (drop (i + 1) ws))).0 (byte_first ws i more ∙ n.left)

  pub narrow_fits : get_or ws i 0 < byte_base
  narrow_fits = ltb-true (get_or ws i 0) byte_base both.0

  pub narrow_turn : Narrowing ws bytes₀ (set bytes i (get_or ws i 0)) (i + 1)
  narrow_turn =
      record {
        inside = omega arith;
        left = both.1;
        work = rw (add-one i, ← n.work, drop-cons ws i 0 more);
        kept = length-set bytes i (get_or ws i 0) ∙ n.kept;
      }

pub narrow_ends : {ws bytes₀ bytes : List ℕ} {i : ℕ} → Narrowing ws bytes₀ bytes i → length ws ≤ i → Placed bytes₀ 0 ws bytes i
narrow_ends {ws} n h = record { slice = rw (drop_of_length-le ws h) at n.work; position = omega (arith, n.inside) }
