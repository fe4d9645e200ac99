-- Chains that test every index from 1 to n, and tests that agree.
use Prim.Native.Nat.{ℕ, zero, suc, ◌+◌, ◌≤◌, ◌<◌}
use mathlib.Core.Path.{◌≡◌, refl, sym, ap, ap₂, ◌∙◌}
use mathlib.Core.Bool.{Bool, ◌&&◌}
use mathlib.Core.List.{List}
use native.Mathlib.Numerals.{add-one}
use native.Mathlib.Omega.{arith}
use lib.ListN.{length, take, get_or}
use denote.Param.Members.{Mut, Called}
use Rattle.std.specs.declared.ops.Range.{Range}
use Rattle.std.specs.Iterator.{ChecksAll}
use Rattle.std.specs.List.{list_all, range_with_len}
use Rattle.std.proofs.iter.Yields.{nat_range_steps}
use Rattle.std.proofs.lemmas.Iterator.{YieldsList-from_range}
use Rattle.std.proofs.lemmas.Iterator.Search.{all_from_yields_List}
use Rattle.std.proofs.lemmas.List.{take_all}
use Rattle.std.proofs.lemmas.List.Folds.{list_all_more}
use Rattle.std.proofs.lemmas.List.FromFn.{length-range_with_len, get_or-range_with_len}
use Rattle.storage.specs.Records.{everyOf}

-- A test of the first elements of a list is one of indices, where the tests agree.
pub every_taken : {X : Type 0} (p : X → Bool) (xs : List X) (d : X) (q : ℕ → Bool) (n : ℕ) → n ≤ length xs → ((i : ℕ) → i < n → p (get_or xs i d) ≡ q (i + 1))
    → list_all p (take n xs) ≡ everyOf n q
every_taken p xs d q zero l h = refl
every_taken p xs d q (suc n) l h =
    ap (λ k. list_all p (take k xs)) (sym (add-one n)) ∙ list_all_more p xs n d (omega arith)
    ∙ ap₂ ◌&&◌ (every_taken p xs d q n (omega arith) (λ i u. h i (omega arith))) (h n (omega arith) ∙ ap q (add-one n))

-- A chain over the indices of a table's records tests each of them.
pub every_called : {s : Range ℕ} (n : ℕ) → s.start ≡ 1 → s.end ≡ n + 1 → {F : Type 0} {g : Mut F (ℕ × Unit {0}) Bool} (test : ℕ → Bool) (u : Range ℕ) (f : F) (r : Bool)
    → ChecksAll nat_range_steps g s f r u → ((x : ℕ) (b : Bool) (q : F) → Called g f (x, tt) b q → (q ≡ f) × (b ≡ test x)) → r ≡ everyOf n test
every_called n from to test u f r ran is =
    all_from_yields_List test u f r ran (YieldsList-from_range 1 (n + 1) n (ap₂ (λ (a : ℕ) (b : ℕ). record { start = a; end = b }) from to) (omega arith)) is
    ∙ ap (list_all test) (sym (take_all n (range_with_len 1 n) (omega (arith, length-range_with_len 1 n))))
    ∙ every_taken test (range_with_len 1 n) 0 test n (omega (arith, length-range_with_len 1 n))
    (λ i l. ap test (omega (arith, get_or-range_with_len 1 n i 0)))

pub every_eq : (n : ℕ) (p q : ℕ → Bool) → ((i : ℕ) → 1 ≤ i → i ≤ n → p i ≡ q i) → everyOf n p ≡ everyOf n q
every_eq zero p q h = refl
every_eq (suc n) p q h = ap₂ ◌&&◌ (every_eq n p q (λ i l u. h i l (omega arith))) (h (suc n) (omega arith) (omega arith))
