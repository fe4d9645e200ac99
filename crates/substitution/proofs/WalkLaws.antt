-- A walk over the words of an item, by the list of the binders around each item still to come: what a word makes of it.
use Prim.Native.Nat.{ℕ, zero, suc, ◌+◌, ◌*◌, ◌-◌, ◌≤◌, ◌<◌}
use mathlib.Core.Path.{◌≡◌, refl, sym, ◌∙◌, ap}
use mathlib.Core.List.{List, [], ◌∷◌, ◌++◌, append-nil}
use native.Mathlib.Numerals.{add-one}
use native.Mathlib.Omega.{arith}
use lib.ListN.{length, get_or, drop, replicate, length-drop}
use lib.Seq.{drop-cons, drop-drop, get_or-drop}
use Rattle.calculus.specs.Term.{Term}
use Rattle.calculus.specs.Words.{count_base, words, size}
use Rattle.calculus.specs.Skip.{arity, span}
use Rattle.calculus.specs.First.{first_term}
use Rattle.calculus.specs.Theorems.{Packable}
use Rattle.calculus.proofs.WordLaws.{size_positive}
use Rattle.calculus.proofs.SkipLaws.{span_zero, span_bounded}
use Rattle.calculus.proofs.FirstLaws.{span-items}
use Rattle.words.specs.Bound.{bound}
use Rattle.walk.specs.Depths.{depths}
use Rattle.substitution.specs.Results.{Starts}
use Rattle.walk.proofs.DepthLaws.{Bounded, bounded_word, length-items}
use Rattle.substitution.proofs.ResultLaws.{starts_split}

-- The first j items end within the words.
abbrev Complete : List ℕ → (j : ℕ) → Type 0
Complete [] j = j ≡ 0
Complete (w ∷ ws) zero = Unit {0}
Complete (w ∷ ws) (suc j) = Complete ws (arity w + j)

-- An item has a word at least.
complete-span : (ws : List ℕ) (j : ℕ) → Complete ws j → j ≤ span j ws
complete-span [] j q = omega arith
complete-span (w ∷ ws) zero q = omega arith
complete-span (w ∷ ws) (suc j) q = omega (arith, complete-span ws (arity w + j) q)

-- Items end within the words if one more word makes them no longer.
complete_short : (ws : List ℕ) (j : ℕ) → span j (ws ++ 0 ∷ []) ≡ span j ws → Complete ws j
complete_short [] zero q = refl
complete_short [] (suc j) q = absurd (omega arith)
complete_short (w ∷ ws) zero q = tt
complete_short (w ∷ ws) (suc j) q = complete_short ws (arity w + j) (omega arith)

complete_term : (t : Term) → Packable t → Complete (words t) 1
complete_term t h =
    complete_short (words t) 1
    (span-items t (0 ∷ []) refl h ∙ sym (ap (span 1) (sym (append-nil (words t))) ∙ span-items t [] refl h))

complete-more : (ws vs : List ℕ) (j : ℕ) → Complete ws j → Complete (ws ++ vs) j
complete-more [] [] j h = h
complete-more [] (v ∷ vs) j h = rw h tt
complete-more (w ∷ ws) vs zero h = tt
complete-more (w ∷ ws) vs (suc j) h = complete-more ws vs (arity w + j) h

pub starts_some : {ws : List ℕ} {t : Term} → Starts ws t → 0 < span 1 ws
starts_some {ws} {t} h =
    omega (arith, size_positive t, ap (span 1) (starts_split t ws h), span-items t (drop (size t) ws) refl h.packable)

-- The walk over the item at `body` stands at word i, and ds are the binders around the items still to come.
pub record Walk (src : List ℕ) (body i : ℕ) (ds : List ℕ) : Type 0 where
  pub from : body ≤ i
  pub complete : Complete (drop i src) (length ds)
  pub ends : i + span (length ds) (drop i src) ≡ body + span 1 (drop body src)
  pub bounded : Bounded (count_base * (i - body)) ds
  pub numbers : drop (i - body) (depths (0 ∷ []) (drop body src)) ≡ depths ds (drop i src)

pub walk_start : (src : List ℕ) (body : ℕ) → Starts (drop body src) (first_term (drop body src)) → Walk src body body (0 ∷ [])
walk_start src body h =
    let t = first_term (drop body src) in
    let z : body - body ≡ 0 = omega arith in
    record {
      from = omega arith;
      complete = rw (starts_split t (drop body src) h) (complete-more (words t) _ 1 (complete_term t h.packable));
      ends = refl;
      bounded = (omega arith, tt);
      numbers = rw z;
    }

-- The next word.
module _ {src : List ℕ} {body i d : ℕ} {ds : List ℕ} (v : Walk src body i (d ∷ ds)) (more : i < length src) where
  abbrev w : ℕ
  w = get_or src i 0

  words_left : drop i src ≡ w ∷ drop (suc i) src
  words_left = drop-cons src i 0 more

  pub depth_bounded : d ≤ count_base * (i - body)
  depth_bounded = v.bounded.0

  -- It is a word of the item, and d are the binders around it.
  pub walk_inside : i < body + span 1 (drop body src)
  walk_inside = omega (arith, rw words_left at v.ends)

  numbers_left : drop (i - body) (depths (0 ∷ []) (drop body src)) ≡ d ∷ depths (replicate (arity w) (d + bound w) ++ ds) (drop (suc i) src)
  numbers_left = v.numbers ∙ rw words_left

  pub depth_is : get_or (depths (0 ∷ []) (drop body src)) (i - body) 0 ≡ d
  depth_is =
      let z : i - body + 0 ≡ i - body = omega arith in
      ap (λ k. get_or (depths (0 ∷ []) (drop body src)) k 0) (sym z)
      ∙ sym (get_or-drop (i - body) (depths (0 ∷ []) (drop body src)) 0 0)
      ∙ ap (λ l. get_or l 0 0) numbers_left

  pub walk_word : Walk src body (i + 1) (replicate (arity w) (d + bound w) ++ ds)
  walk_word =
      let e : i + 1 - body ≡ i - body + 1 = omega (arith, v.from) in
      record {
        from = omega (arith, v.from);
        complete = rw (add-one i, length-items w d ds) (rw words_left at v.complete);
        ends = rw (add-one i, length-items w d ds) (omega (arith, rw words_left at v.ends));
        bounded = bounded_word (count_base * (i - body)) (count_base * (i + 1 - body)) w d ds v.bounded (omega (arith, v.from));
        numbers = rw (e, ← drop-drop 1 (i - body) (depths (0 ∷ []) (drop body src)), numbers_left, add-one i);
      }

-- The items still to come have a word each.
pub walk_few : {src : List ℕ} {body i : ℕ} {ds : List ℕ} → Walk src body i ds → length ds ≤ length src - i
walk_few {src} {i = i} {ds} v = omega (arith, complete-span (drop i src) (length ds) v.complete, span_bounded (length ds) (drop i src), length-drop i src)

-- The end: nothing is left to come.
pub walk_done : {src : List ℕ} {body i : ℕ} {ds : List ℕ} → Walk src body i ds → ds ≡ [] → i ≡ body + span 1 (drop body src)
walk_done {src} {i = i} v e = omega (arith, rw e at v.ends, span_zero (drop i src))
