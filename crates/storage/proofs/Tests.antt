-- What a test decides: values and options that are made by an `elim` on it, and the test whether an index is a record.
use Prim.Native.Nat.{ℕ, ◌≤◌}
use mathlib.Core.Path.{◌≡◌, refl}
use mathlib.Core.Bool.{Bool, true, false, true≢false, false≢true, and-eq-true_iff}
use mathlib.Core.Option.{Option}
use lib.Dec.{leb}
use borrow.Author.Tests.{leb-true, le-leb}
use Rattle.calculus.proofs.All.{All}
use Rattle.storage.specs.Records.{Table, is_record}

pub if-true : {A : Type 0} (b : Bool) (x y : A) → b ≡ true → ◌≡◌ {A = A} (elim b [ true ↦ x | false ↦ y ]) x
if-true true x y h = refl
if-true false x y h = absurd (false≢true h)

pub if-false : {A : Type 0} (b : Bool) (x y : A) → b ≡ false → ◌≡◌ {A = A} (elim b [ true ↦ x | false ↦ y ]) y
if-false true x y h = absurd (true≢false h)
if-false false x y h = refl

pub all_if : {A : Type 0} {P : A → Type 0} (b : Bool) {x y : Option A} → (b ≡ true → All P x) → (b ≡ false → All P y)
    → All P (elim b [ true ↦ x | false ↦ y ])
all_if true p q = p refl
all_if false p q = q refl

pub is_record_true : (T : Table) (i : ℕ) → is_record T i ≡ true → (1 ≤ i) × (i ≤ T.n)
is_record_true T i h =
    let both = (and-eq-true_iff (leb 1 i) (leb i T.n)).0 h in
    (leb-true 1 i both.0, leb-true i T.n both.1)

pub record_is_record : (T : Table) (i : ℕ) → 1 ≤ i → i ≤ T.n → is_record T i ≡ true
record_is_record T i h k = (and-eq-true_iff (leb 1 i) (leb i T.n)).1 (le-leb 1 i h, le-leb i T.n k)
