-- What a walk along a chain gives, and what it asks of a test.
use Prim.Native.Nat.{ℕ, zero, suc, ◌≤◌}
use mathlib.Core.Path.{◌≡◌, refl, sym, ap, ap₂, subst, ◌∙◌}
use mathlib.Core.Bool.{Bool, ◌&&◌}
use mathlib.Core.List.{List, [], ◌∷◌}
use native.Mathlib.Omega.{arith}
use lib.ListN.{length}
use Rattle.std.specs.Iterator.{Yields, AlwaysYields, CallableAtEachTurn}
use Rattle.std.specs.List.{list_all}
use Rattle.std.proofs.iter.Yields.{listed}
use Rattle.std.proofs.lemmas.Fn.{chained_keeps}
use Rattle.std.proofs.lemmas.Iterator.{YieldsList}
use Rattle.records.specs.declared.Record as codeRecord
use Rattle.records.specs.declared.Table.{Table}
use Rattle.records.specs.declared.chain.Chain.{Chain}
use Rattle.records.specs.Chains.{left, Passes}
use Rattle.records.specs.Preconditions.{Walkable}
use Rattle.records.specs.Types.{stored_of, viewed_of, record_of}
use Rattle.storage.specs.Records.{Stored, record_at, view}
use Rattle.storage.specs.Children.{chain, chain_from, chain_fits, may_stand}
use Rattle.records.proofs.Walks.{walked}

-- What is left at a link of a table, and its records in order.
pub left_of : {s : Chain} {t : Table} {link : ℕ} → s.table ≡ t → s.link ≡ link → left s ≡ chain_from (viewed_of t) link
left_of e q = ap₂ (λ t l. chain_from (viewed_of t) l) e q

pub passed : {s : Chain} {t : Table} {link : ℕ} → s.table ≡ t → s.link ≡ link → YieldsList Passes record_of s (chain_from (viewed_of t) link)
passed {s} e q =
    record {
      runs = subst (AlwaysYields Passes record_of s) (left_of {s = s} e q) (listed Passes record_of left (λ s t e. ap length e.0.0) (λ s x t e. e.0) s);
    }

-- The walk stays in its table.
stays : (xs : List codeRecord.Record) (s t : Chain) → Yields Passes s xs t → stored_of t.table ≡ stored_of s.table
stays [] s t e = ap (λ u. stored_of u.table) (sym e)
stays (x ∷ xs) s t e = stays xs e.0 t e.2 ∙ ap stored_of e.1.1

-- So a test that stays as it is may ask of each record that its next leads on.
pub nexts_callable : {F : Type 0} {R : F → codeRecord.Record → F → Type 0} {Q : F → codeRecord.Record → Type 0} (s : Chain) {f : F}
    → ((x : codeRecord.Record) (q : F) → R f x q → q ≡ f) → ((x : codeRecord.Record) → Walkable (stored_of s.table) x.next → Q f x)
    → CallableAtEachTurn Passes R Q s f
nexts_callable {F} {R} {Q} s {f} still h =
    record {
      at = λ xs t q x u y c e.
          let same : q ≡ f = chained_keeps R (λ _ p. p ≡ f) (λ ys p z v k r. still z v (subst (λ w. R w z v) k r)) xs f q refl c in
          subst (λ k. Q k x) (sym same) (h x (subst (λ S. Walkable S x.next) (stays xs s t y) e.2));
    }

-- A chain fits where each record may stand before those after it.
pub all_stand : (S : Stored) (branches : Bool) (link : ℕ) → Walkable S link
    → list_all (λ r. may_stand branches r (chain_from (view S) r.next)) (chain_from (view S) link) ≡ chain_fits branches (chain_from (view S) link)
all_stand S b link w = go (length (chain_from (view S) link)) link w (omega arith)
  where
    none : (k : ℕ) → chain (view S) k 0 ≡ []
    none zero = refl
    none (suc k) = refl

    go : (k l : ℕ) → Walkable S l → length (chain_from (view S) l) ≤ k
        → list_all (λ r. may_stand b r (chain_from (view S) r.next)) (chain_from (view S) l) ≡ chain_fits b (chain_from (view S) l)
    go k zero w h = rw (none (view S).n)
    go zero (suc l) w h = let on = walked S (suc l) _ w (omega arith) refl in absurd (omega (arith, ap length on.goes_on))
    go (suc k) (suc l) w h =
        let on = walked S (suc l) _ w (omega arith) refl in
        rw on.goes_on (ap (λ c. may_stand b (record_at S (suc l)) (chain_from (view S) (record_at S (suc l)).next) && c) (go k _ on.after (omega (arith, ap length on.goes_on))))
