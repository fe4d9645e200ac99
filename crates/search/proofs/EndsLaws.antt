-- The table of ends: what it tells of later positions, and how it is filled.
use Prim.Native.Nat.{ℕ, ◌+◌, ◌-◌, ◌≤◌, ◌<◌}
use mathlib.Core.Path.{◌≡◌, ◌∙◌}
use mathlib.Core.List.{List}
use mathlib.Core.Logic.{⊎_elim}
use native.Mathlib.Nat.{add-zero, eq-or-lt_of_le}
use native.Mathlib.Omega.{arith}
use lib.ListN.{length, get_or, take, drop, set, length-set, length-drop}
use lib.Seq.{drop-set-lt, take-set-le, get_or-set_same, get_or-set_other}
use Rattle.calculus.specs.Skip.{arity, span}
use Rattle.calculus.proofs.SkipLaws.{span_bounded}
use Rattle.words.proofs.PlacedLaws.{taken_less}
use Rattle.words.proofs.Spans.{span-step}
use Rattle.search.specs.Ends.{Ends}

pub ends_later : {ws : List ℕ} {from known : ℕ} {ends : List ℕ} {later : ℕ} → Ends ws from known ends → from ≤ later → Ends ws later known ends
ends_later h l = record { within = h.within; told = λ p m. h.told p (omega arith) }

-- An item is a word and the items that follow it.
span-word : (ws : List ℕ) (i : ℕ) → i < length ws → i + span 1 (drop i ws) ≡ i + 1 + span (arity (get_or ws i 0)) (drop (i + 1) ws)
span-word ws i h = span-step ws i 1 h (λ z. omega arith) ∙ rw (add-zero (arity (get_or ws i 0)))

-- Filling from the end on: from i on the table tells, and before it is as it was.
pub record Filling (ws : List ℕ) (at : ℕ) (ends : List ℕ) (end : ℕ) (now : List ℕ) (i : ℕ) : Type 0 where
  pub ends_at : end ≡ at + span 1 (drop at ws)
  pub from : at ≤ i
  pub to : i ≤ end
  pub table : Ends ws i end now
  pub before : take i now ≡ take i ends
  pub behind : drop end now ≡ drop end ends
  pub kept : length now ≡ length ends

module _ {ws : List ℕ} {at : ℕ} {ends : List ℕ} {end : ℕ} {now : List ℕ} {i : ℕ} (v : Filling ws at ends end now i) where
  -- What is filled in stands in the workspace and in the table.
  pub filling_within : at < i → (end ≤ length ws) × (end ≤ length now)
  filling_within l = (omega (arith, v.ends_at, v.to, span_bounded 1 (drop at ws), length-drop at ws), v.table.within)

  pub filling_turn : at < i → {stop : ℕ} → stop ≡ i - 1 + 1 + span (arity (get_or ws (i - 1) 0)) (drop (i - 1 + 1) ws) → Filling ws at ends end (set now (i - 1) stop) (i - 1)
  filling_turn l {stop} e =
      record {
        ends_at = v.ends_at;
        from = omega arith;
        to = omega (arith, v.to);
        table =
            record {
              within = omega (arith, v.table.within, length-set now (i - 1) stop);
              told = λ p m o. ⊎_elim (here p) (λ n. get_or-set_other now (i - 1) p stop 0 (λ q. omega arith) ∙ v.table.told p (omega arith) o) (eq-or-lt_of_le m);
            };
        before = take-set-le (i - 1) now (i - 1) stop (omega arith) ∙ taken_less now ends (i - 1) i (omega arith) v.before;
        behind = drop-set-lt end now (i - 1) stop (omega (arith, v.to)) ∙ v.behind;
        kept = length-set now (i - 1) stop ∙ v.kept;
      }
    where
      here : (p : ℕ) → i - 1 ≡ p → get_or (set now (i - 1) stop) p 0 ≡ p + span 1 (drop p ws)
      here p q =
          rw (← q)
          (get_or-set_same now (i - 1) stop 0 (omega (arith, v.to, v.table.within))
          ∙ omega (arith, e, span-word ws (i - 1) (omega (arith, (filling_within l).0, v.to))))
