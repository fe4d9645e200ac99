-- What refusals 3 and 5 test, as statements about every record.
use Prim.Native.Nat.{ℕ, ◌≤◌}
use mathlib.Core.Path.{◌≡◌, ap}
use mathlib.Core.Bool.{true, false, not, ◌&&◌, and-eq-true_iff}
use lib.Dec.{eqb}
use lib.ListN.{length}
use borrow.Author.Tests.{eqb-true, eq-eqb, not-true, not-false}
use Rattle.calculus.specs.Words.{numeral_kind}
use Rattle.storage.specs.Records.{Table, everyOf}
use Rattle.storage.specs.Values.{value_fits, declared_fits, wrong_value}
use Rattle.storage.specs.Children.{children, is_branch, children_fit, agrees, record_fits, wrong_children}
use Rattle.storage.proofs.Sums.{every_at, every_of}
use Rattle.storage.proofs.PayloadLaws.{value_known}

pub record Valued (T : Table) : Type 0 where
  pub value-fits : (i : ℕ) → 1 ≤ i → i ≤ T.n → value_fits (T.at i).kind (T.at i).value ≡ true
  pub declared-fits : (i : ℕ) → 1 ≤ i → i ≤ T.n → declared_fits (T.at i).kind (T.at i).declared ≡ true

pub valued : (T : Table) → wrong_value T ≡ false → Valued T
unfolding wrong_value
valued T h = record { value-fits = λ i l u. (each i l u).0; declared-fits = λ i l u. (each i l u).1 }
  where
    each : (i : ℕ) → 1 ≤ i → i ≤ T.n
        → (value_fits (T.at i).kind (T.at i).value ≡ true) × (declared_fits (T.at i).kind (T.at i).declared ≡ true)
    each i l u = (and-eq-true_iff _ _).0 (every_at T.n _ (not-false _ h) i l u)

pub valued-passes : (T : Table) → Valued T → wrong_value T ≡ false
unfolding wrong_value
valued-passes T F = ap not (every_of T.n _ (λ i l u. (and-eq-true_iff _ _).1 (F.value-fits i l u, F.declared-fits i l u)))

pub known_kind : {T : Table} → Valued T → (i : ℕ) → 1 ≤ i → i ≤ T.n → (T.at i).kind ≤ numeral_kind
known_kind {T} F i l u = value_known (T.at i).kind (T.at i).value (F.value-fits i l u)

pub record Fitted (T : Table) : Type 0 where
  pub declared_agrees : (i : ℕ) → 1 ≤ i → i ≤ T.n → agrees (T.at i).declared (length (children T i)) ≡ true
  pub children-fit : (i : ℕ) → 1 ≤ i → i ≤ T.n → children_fit (T.at i).kind (children T i) ≡ true
  pub root_term : is_branch (T.at T.root) ≡ false
  pub root_last : (T.at T.root).next ≡ 0

pub fitted : (T : Table) → wrong_children T ≡ false → Fitted T
unfolding wrong_children
fitted T h =
    record {
      declared_agrees = λ i l u. (record-fits i l u).0;
      children-fit = λ i l u. (record-fits i l u).1;
      root_term = not-true _ inner.1;
      root_last = eqb-true _ 0 outer.1;
    }
  where
    outer : ((everyOf T.n (record_fits T) && not (is_branch (T.at T.root))) ≡ true) × (eqb (T.at T.root).next 0 ≡ true)
    outer = (and-eq-true_iff _ _).0 (not-false _ h)

    inner : (everyOf T.n (record_fits T) ≡ true) × (not (is_branch (T.at T.root)) ≡ true)
    inner = (and-eq-true_iff _ _).0 outer.0

    record-fits : (i : ℕ) → 1 ≤ i → i ≤ T.n
        → (agrees (T.at i).declared (length (children T i)) ≡ true) × (children_fit (T.at i).kind (children T i) ≡ true)
    record-fits i l u = (and-eq-true_iff _ _).0 (every_at T.n (record_fits T) inner.0 i l u)

pub fitted_passes : (T : Table) → Fitted T → wrong_children T ≡ false
unfolding wrong_children
fitted_passes T F =
    ap not
    ((and-eq-true_iff _ _).1
    ((and-eq-true_iff _ _).1 (every_of T.n (record_fits T) each, ap not F.root_term), eq-eqb _ 0 F.root_last))
  where
    each : (i : ℕ) → 1 ≤ i → i ≤ T.n → record_fits T i ≡ true
    each i l u = (and-eq-true_iff _ _).1 (F.declared_agrees i l u, F.children-fit i l u)
