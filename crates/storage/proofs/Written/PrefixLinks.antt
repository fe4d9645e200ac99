-- Records in prefix order keep both link rules.
use Prim.Native.Nat.{ℕ, zero, suc, ◌+◌, ◌≤◌, ◌<◌}
use mathlib.Core.Path.{◌≡◌, refl}
use mathlib.Core.Bool.{cond}
use mathlib.Core.Logic.{inl, inr}
use native.Mathlib.Decide.{dec_lt}
use native.Mathlib.Omega.{arith}
use lib.Dec.{ltb}
use borrow.Author.Tests.{lt-ltb, le-ltb}
use Rattle.storage.specs.Records.{Table, sum_of}
use Rattle.storage.specs.Links.{naming, namings}
use Rattle.storage.specs.PrefixOrder.{Fills, nothing, chained, InPrefixOrder}
use Rattle.storage.proofs.Sums.{naming_itself, naming-other}
use Rattle.storage.proofs.LinkRules.{Ahead, Linked}

fills-le : {T : Table} {l i k : ℕ} → Fills T l i k → i ≤ k
fills-le nothing = omega arith
fills-le (chained f g) = omega (arith, fills-le f, fills-le g)

-- A link names the first record that it fills, or it is 0 and fills nothing.
link-ahead : {T : Table} {l i k : ℕ} → Fills T l i k → (a : ℕ) → a < i → k ≤ suc T.n → Ahead T a l
link-ahead nothing a h u = inl refl
link-ahead (chained f g) a h u = inr (h, omega (arith, fills-le f, fills-le g))

fills-ahead : {T : Table} {l i k : ℕ} → Fills T l i k → k ≤ suc T.n → (a : ℕ) → i ≤ a → a < k
    → Ahead T a (T.at a).first × Ahead T a (T.at a).next
fills-ahead nothing h a l u = absurd (omega arith)
fills-ahead (chained {i = i} {j = j} f g) h a l u =
    elim (dec_lt i a) [
      | no v ↦ let e : a ≡ i = omega arith in
          rw e (link-ahead f i (omega arith) (omega (arith, fills-le g)), link-ahead g i (omega (arith, fills-le f)) h)
      | yes v ↦ elim (dec_lt a j) [
        | yes w ↦ fills-ahead f (omega (arith, fills-le g)) a v w
        | no w ↦ fills-ahead g h a (omega arith) u
      ]
    ]

-- The sum over the indices from 1 up to before m, and whether a is below m.
before : ℕ → (ℕ → ℕ) → ℕ
before zero f = 0
before (suc m) f = sum_of m f

before-suc : (m : ℕ) (f : ℕ → ℕ) → 1 ≤ m → before (suc m) f ≡ before m f + f m
unfolding before
before-suc zero f h = absurd (omega arith)
before-suc (suc m) f h = refl

passed : (m a : ℕ) → ℕ
passed m a = cond (ltb a m) 1 0

passed-below : (m a : ℕ) → a < m → passed m a ≡ 1
unfolding passed
passed-below m a h = rw (lt-ltb a m h)

passed-not : (m a : ℕ) → m ≤ a → passed m a ≡ 0
unfolding passed
passed-not m a h = rw (le-ltb a m h)

passed-suc : (m a : ℕ) → passed (suc m) a ≡ passed m a + naming m a
passed-suc m a =
    elim (dec_lt a m) [
      | yes h ↦ omega (arith, passed-below (suc m) a (omega arith), passed-below m a h, naming-other m a (λ e. omega arith))
      | no h ↦ elim (dec_lt m a) [
        | yes v ↦ omega (arith, passed-not (suc m) a v, passed-not m a (omega arith), naming-other m a (λ e. omega arith))
        | no v ↦ omega (arith, passed-below (suc m) a (omega arith), passed-not m a (omega arith), naming_itself m a (omega arith))
      ]
    ]

-- How many links of record j name record a.
abbrev naming-of : Table → (a j : ℕ) → ℕ
naming-of T a j = naming (T.at j).first a + naming (T.at j).next a

-- A link and the links of the records that it fills name each of these records once and no other.
fills-named : {T : Table} {l i k : ℕ} → Fills T l i k → (a : ℕ) → 1 ≤ a → 1 ≤ i
    → naming l a + before k (naming-of T a) + passed i a ≡ before i (naming-of T a) + passed k a
fills-named nothing a h u = omega (arith, naming-other 0 a (λ e. omega arith))
fills-named {T} (chained {i = i} {j = j} f g) a h u =
    let later : 1 ≤ j = omega (arith, fills-le f) in
    omega (arith, fills-named f a h (omega arith), fills-named g a h later, before-suc i (naming-of T a) u, passed-suc i a)

pub prefix-linked : (T : Table) → InPrefixOrder T → Linked T
unfolding namings before
prefix-linked T f =
    record {
      first_ahead = λ i l u. (fills-ahead f (omega arith) i l (omega arith)).0;
      next_ahead = λ i l u. (fills-ahead f (omega arith) i l (omega arith)).1;
      named_once = λ i l u. omega (arith, fills-named f i l (omega arith), passed-not 1 i l, passed-below (suc T.n) i (omega arith));
    }
