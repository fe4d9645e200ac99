-- What the writer's steps leave: the levels with one more, and the records still to be put.
use Prim.Native.Nat.{ℕ, zero, suc, ◌+◌, ◌-◌, ◌*◌, ◌^◌, ◌≤◌, ◌<◌}
use mathlib.Core.Path.{◌≡◌, refl, ap, ◌∙◌}
use mathlib.Core.Bool.{Bool, true, false, cond}
use mathlib.Core.List.{List, [], ◌∷◌}
use native.Mathlib.Numerals.{add-one}
use native.Mathlib.Omega.{arith}
use lib.Dec.{eqb}
use lib.ListN.{length, drop, get_or, set, length-set, drop_of_length-le}
use lib.Seq.{sets, length-sets, drop-cons}
use Rattle.calculus.specs.Words.{workspace_most}
use Rattle.calculus.specs.Skip.{arity, span}
use Rattle.words.proofs.PlacedLaws.{drop-set}
use Rattle.storage.specs.Records.{Record, form1, records_words}
use Rattle.records.specs.Preconditions.{Puttable}
use Rattle.transcription.specs.Writing.{link_if, push, entry_of, entries, pushed, descended}

pub pushed_some : (levels : List ℕ) (top items : ℕ) → (items ≡ 0 → ⊥) → (top - 1, set levels (top - 1) items) ≡ pushed levels top items
pushed_some levels top zero h = absurd (h refl)
pushed_some levels top (suc k) h = refl

-- Where the levels ks stand in a slice that had others from `top` on: at most one place further in front, or up to `more` behind.
pub record Levels (before : List ℕ) (top more : ℕ) (ks : List ℕ) (s : ℕ × List ℕ) : Type 0 where
  pub levels : drop s.0 s.1 ≡ ks
  pub least : top ≤ s.0 + 1
  pub most : s.0 ≤ top + more
  pub same_length : length s.1 ≡ length before

pub pushed_levels : (before : List ℕ) (top items : ℕ) {s : ℕ × List ℕ} → s ≡ pushed before top items → 1 ≤ top → top ≤ length before
    → Levels before top 0 (push items (drop top before)) s
pushed_levels before top zero q l u = rw q (record { levels = refl; least = omega arith; most = omega arith; same_length = refl })
pushed_levels before top (suc k) q l u =
    let e : suc (top - 1) ≡ top = omega arith in
    rw q
    (record {
      levels = rw e at (drop-set before (top - 1) (suc k) (omega arith));
      least = omega arith;
      most = omega arith;
      same_length = length-set before (top - 1) (suc k);
    })

descended_levels : (before : List ℕ) (top items : ℕ) {s : ℕ × List ℕ} → s ≡ descended before top items → 1 ≤ top → top < length before
    → Levels before top 1 (push items (push (get_or before top 0 - 1) (drop (top + 1) before))) s
descended_levels before top items e l u =
    let p = pushed_levels before (top + 1) (get_or before top 0 - 1) refl (omega arith) (omega arith) in
    let q = pushed_levels _ _ items e (omega (arith, p.least)) (omega (arith, p.most, p.same_length)) in
    record {
      levels = q.levels ∙ ap (push items) p.levels;
      least = omega (arith, p.least, q.least);
      most = omega (arith, p.most, q.most);
      same_length = q.same_length ∙ p.same_length;
    }

-- Links into a written table are small.
link_most : (m l : ℕ) → link_if m l ≤ l
link_most m l = go (eqb m 0)
  where
    go : (b : Bool) → cond b 0 l ≤ l
    go true = omega arith
    go false = omega arith

pub entry_puttable : (r : Record) (i m w s : ℕ) → r ≡ entry_of i m w s → suc i < 2 ^ 32 → i + s < 2 ^ 32 → Puttable r
entry_puttable r i m w s e h l =
    rw e (record { first_fits = omega (arith, link_most (arity w) (suc i)); next_fits = omega (arith, link_most m (i + s)) })

-- Every level has an item to come.
abbrev pub Positive : List ℕ → Type 0
Positive [] = Unit {0}
Positive (k ∷ ks) = (1 ≤ k) × Positive ks

positive_push : (k : ℕ) (ks : List ℕ) → Positive ks → Positive (push k ks)
positive_push zero ks h = h
positive_push (suc k) ks h = (omega arith, h)

entries_none : (i : ℕ) (ws : List ℕ) → entries i [] ws ≡ []
entries_none i [] = refl
entries_none i (w ∷ ws) = refl

-- Where the writer is: the records of the words from i on, with the levels from `top` on, are still to be put.
pub record Putting (ws table₀ table levels : List ℕ) (top i : ℕ) : Type 0 where
  pub within : i ≤ length ws
  pub levels_length : length levels ≡ workspace_most + 1
  pub levels_left : workspace_most ≤ top + i
  pub levels_most : top ≤ workspace_most + 1
  pub positive : Positive (drop top levels)
  pub table_length : length table ≡ length table₀
  pub to_put : sets table (form1.record_words * (i + 1)) (records_words (entries (i + 1) (drop top levels) (drop i ws)))
      ≡ sets table₀ form1.record_words (records_words (entries 1 (1 ∷ []) ws))

pub putting_start : (ws table zeros levels : List ℕ) (top : ℕ) → length zeros ≡ workspace_most + 1 → (top, levels) ≡ pushed zeros (workspace_most + 1) 1
    → Putting ws table table levels top 0
putting_start ws table zeros levels top z e =
    let p = pushed_levels zeros (workspace_most + 1) 1 e (omega arith) (omega arith) in
    let start : drop top levels ≡ 1 ∷ [] = p.levels ∙ ap (λ ks. 1 ∷ ks) (drop_of_length-le zeros {i = workspace_most + 1} (omega arith)) in
    record {
      within = omega arith;
      levels_length = p.same_length ∙ z;
      levels_left = omega (arith, p.least);
      levels_most = omega (arith, p.most);
      positive = rw start (omega arith, tt);
      table_length = refl;
      to_put = rw start;
    }

pub putting_end : (ws table₀ table levels : List ℕ) (top i : ℕ) → length ws ≤ i → Putting ws table₀ table levels top i
    → table ≡ sets table₀ form1.record_words (records_words (entries 1 (1 ∷ []) ws))
putting_end ws table₀ table levels top i h p = rw (drop_of_length-le ws h) at p.to_put

pub putting_stops : (ws table₀ table levels : List ℕ) (top i : ℕ) → top ≡ workspace_most + 1 → Putting ws table₀ table levels top i
    → table ≡ sets table₀ form1.record_words (records_words (entries 1 (1 ∷ []) ws))
putting_stops ws table₀ table levels top i h p =
    let none : drop top levels ≡ [] = drop_of_length-le levels {i = top} (omega (arith, p.levels_length)) in
    rw (none, entries_none (i + 1) (drop i ws)) at p.to_put

module _ (ws table₀ table levels : List ℕ) (top i : ℕ) (l : i < length ws) (u : top < workspace_most + 1) (p : Putting ws table₀ table levels top i) where
  -- The items at the innermost level, and the word.
  level : drop top levels ≡ get_or levels top 0 ∷ drop (top + 1) levels
  level = rw add-one (drop-cons levels top 0 (omega (arith, p.levels_length)))

  front : drop i ws ≡ get_or ws i 0 ∷ drop (i + 1) ws
  front = rw add-one (drop-cons ws i 0 l)

  pub some_item : 1 ≤ get_or levels top 0
  some_item = (rw level at p.positive).0

  pub putting_more : (after levels' : List ℕ) (top' : ℕ) (r : Record)
      → r ≡ entry_of (i + 1) (get_or levels top 0 - 1) (get_or ws i 0) (span 1 (drop i ws))
      → after ≡ sets table (form1.record_words * (i + 1)) (records_words (r ∷ []))
      → 1 ≤ top → (top', levels') ≡ descended levels top (arity (get_or ws i 0)) → Putting ws table₀ after levels' top' (i + 1)
  putting_more after levels' top' r e f a g =
      record {
        within = omega arith;
        levels_length = d.same_length ∙ p.levels_length;
        levels_left = omega (arith, d.least, p.levels_left);
        levels_most = omega (arith, d.most);
        positive = rw d.levels (positive_push (arity (get_or ws i 0)) (push (get_or levels top 0 - 1) (drop (top + 1) levels)) (positive_push (get_or levels top 0 - 1) (drop (top + 1) levels) (rw level at p.positive).1));
        table_length = ap length f ∙ length-sets table (form1.record_words * (i + 1)) (records_words (r ∷ [])) ∙ p.table_length;
        to_put = rw (f, four) (rw step at p.to_put);
      }
    where
      d : Levels levels top 1 (push (arity (get_or ws i 0)) (push (get_or levels top 0 - 1) (drop (top + 1) levels))) (top', levels')
      d = descended_levels levels top (arity (get_or ws i 0)) g a (omega (arith, p.levels_length))

      step : entries (i + 1) (drop top levels) (drop i ws) ≡ r ∷ entries (i + 1 + 1) (drop top' levels') (drop (i + 1) ws)
      step = rw (e, d.levels, level, front, add-one (i + 1))

      four : form1.record_words * (i + 1 + 1) ≡ suc (suc (suc (suc (form1.record_words * (i + 1)))))
      four = omega arith
