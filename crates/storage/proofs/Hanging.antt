-- The fold over the records that hang at a link: where links name later records, n is bound enough, so that the fold goes on at both links of a
-- record.
use Prim.Native.Nat.{ℕ, zero, suc, ◌≤◌}
use mathlib.Core.Path.{◌≡◌, refl, ap, ap₂, sym, ◌∙◌}
use mathlib.Core.Bool.{true, false}
use mathlib.Core.List.{List, [], ◌∷◌}
use mathlib.Core.Logic.{inl, inr}
use native.Mathlib.Omega.{arith}
use lib.Dec.{eqb}
use borrow.Author.Tests.{ne_eqb}
use Rattle.storage.specs.Records.{Record, Table, hanging}
use Rattle.storage.specs.Children.{chain, chain_from}
use Rattle.storage.proofs.Tests.{if-false}
use Rattle.storage.proofs.LinkRules.{Ahead, Linked, Enough, nothing_left, first_enough, next_enough}

pub ahead_within : (T : Table) (i l : ℕ) → Ahead T i l → l ≤ T.n
ahead_within T i l (inl e) = omega arith
ahead_within T i l (inr a) = a.1

module _ {A : Type 0} (T : Table) (end : A) (step : ℕ → A → A → A) where
  pub hanging_zero : (k : ℕ) → hanging T end step k 0 ≡ end
  unfolding hanging
  hanging_zero zero = refl
  hanging_zero (suc k) = refl

  hanging_suc : (k l : ℕ) → 1 ≤ l
      → hanging T end step (suc k) l ≡ step l (hanging T end step k (T.at l).first) (hanging T end step k (T.at l).next)
  unfolding hanging
  hanging_suc k l h = if-false (eqb l 0) _ _ (ne_eqb l 0 (λ e. omega arith))

  module _ (L : Linked T) where
    -- Any two bounds that are enough give the same.
    stable : (k k' l : ℕ) → Enough T l k → Enough T l k' → hanging T end step k l ≡ hanging T end step k' l
    stable zero k' l h h' = rw (nothing_left T l h) (hanging_zero zero ∙ sym (hanging_zero k'))
    stable (suc k) zero l h h' = rw (nothing_left T l h') (hanging_zero (suc k) ∙ sym (hanging_zero zero))
    stable (suc k) (suc k') l h (inl e) = rw e (hanging_zero (suc k) ∙ sym (hanging_zero (suc k')))
    stable (suc k) (suc k') l (inl e) (inr h') = rw e (hanging_zero (suc k) ∙ sym (hanging_zero (suc k')))
    stable (suc k) (suc k') l (inr h) (inr h') =
        hanging_suc k l h.0
        ∙ ap₂ (step l)
        (stable k k' (T.at l).first (first_enough T L l k h.0 (inr h)) (first_enough T L l k' h.0 (inr h')))
        (stable k k' (T.at l).next (next_enough T L l k h.0 (inr h)) (next_enough T L l k' h.0 (inr h')))
        ∙ sym (hanging_suc k' l h.0)

    pub hanging_record : (i : ℕ) → 1 ≤ i → i ≤ T.n
        → hanging T end step T.n i ≡ step i (hanging T end step T.n (T.at i).first) (hanging T end step T.n (T.at i).next)
    hanging_record i l u = stable T.n (suc T.n) i (inr (l, u, omega arith)) (inr (l, u, omega arith)) ∙ hanging_suc T.n i l

-- A chain is the fold that leaves the children out.
follow : Table → ℕ → List Record → List Record → List Record
follow T i below after = T.at i ∷ after

chain-hanging : (T : Table) (k l : ℕ) → chain T k l ≡ hanging T [] (follow T) k l
unfolding hanging follow
chain-hanging T zero l = refl
chain-hanging T (suc k) l =
    let link : List Record → List Record = λ rs. elim (eqb l 0) [ true ↦ [] | false ↦ T.at l ∷ rs ] in
    ap link (chain-hanging T k (T.at l).next)

pub chain-end : (T : Table) (l : ℕ) → l ≡ 0 → chain_from T l ≡ []
chain-end T l e = chain-hanging T T.n l ∙ rw e (hanging_zero T [] (follow T) T.n)

pub chain_next : (T : Table) → Linked T → (i : ℕ) → 1 ≤ i → i ≤ T.n → chain_from T i ≡ T.at i ∷ chain_from T (T.at i).next
unfolding follow
chain_next T L i l u =
    chain-hanging T T.n i
    ∙ hanging_record T [] (follow T) L i l u
    ∙ ap (λ rs. T.at i ∷ rs) (sym (chain-hanging T T.n (T.at i).next))
