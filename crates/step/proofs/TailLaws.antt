-- Words moved within one slice: down from the first on, up from the last on, each word read before it is written over.
use Prim.Native.Nat.{ℕ, suc, ◌+◌, ◌-◌, ◌≤◌, ◌<◌}
use mathlib.Core.Path.{◌≡◌, refl, sym, ◌∙◌, ap}
use mathlib.Core.List.{List, [], ◌∷◌, ◌++◌}
use native.Mathlib.Nat.{add-zero}
use native.Mathlib.Omega.{arith}
use lib.ListN.{length, get_or, set, take, drop, take-append-drop}
use lib.Seq.{sets, sets-eq, slice, length-slice, length-take-le, slice-cons, set_comm, get_or-drop, get_or-take, drop-append-le, drop-set-lt, take-set-le, take-take}
use Rattle.std.proofs.lemmas.List.{take_more}
use Rattle.std.proofs.lemmas.Grind.{drop_more_same}
use Rattle.words.specs.Placed.{Copies}
use Rattle.words.proofs.PlacedLaws.{sets-append, taken_less}

kept_word : (ws now : List ℕ) (i : ℕ) → drop i now ≡ drop i ws → get_or now i 0 ≡ get_or ws i 0
kept_word ws now i e =
    ap (λ k. get_or now k 0) (sym (add-zero i)) ∙ sym (get_or-drop i now 0 0) ∙ ap (λ l. get_or l 0 0) e ∙ get_or-drop i ws 0 0
    ∙ ap (λ k. get_or ws k 0) (add-zero i)

-- One word more of those from a position on.
slice_more : (f t : ℕ) (l : List ℕ) → f ≤ t → t < length l → slice f (t + 1) l ≡ slice f t l ++ get_or l t 0 ∷ []
slice_more f t l h k = ap (drop f) (take_more l t 0 k) ∙ drop-append-le f (take t l) (get_or l t 0 ∷ []) (omega (arith, length-take-le t l (omega arith)))

-- Down: the first words stand where they come, and from the next of them on the slice is still as it was.
pub record Lowering (ws : List ℕ) (from to out : ℕ) (now : List ℕ) (i : ℕ) : Type 0 where
  pub copies : Copies ws from to ws out
  pub below : out ≤ from
  pub work : now ≡ sets ws out (slice from (from + i) ws)
  pub kept : drop (from + i) now ≡ drop (from + i) ws

pub lowering_turn : {ws : List ℕ} {from to out : ℕ} {now : List ℕ} {i : ℕ} → Lowering ws from to out now i → i < to - from
    → Lowering ws from to out (set now (out + i) (get_or now (from + i) 0)) (i + 1)
lowering_turn {ws} {from} {out = out} {now} {i} v l =
    let w = get_or ws (from + i) 0 in
    let first = slice from (from + i) ws in
    let long : length first ≡ i = omega (arith, length-slice from (from + i) ws (omega (arith, v.copies.within))) in
    let next : from + (i + 1) ≡ from + i + 1 = omega arith in
    rw (kept_word ws now (from + i) v.kept)
    (record {
      copies = v.copies;
      below = v.below;
      work =
          ap (λ l. set l (out + i) w) v.work
          ∙ ap (λ k. set (sets ws out first) (out + k) w) (sym long)
          ∙ sym (sets-append first (w ∷ []) ws out)
          ∙ ap (sets ws out) (sym (slice_more from (from + i) ws (omega arith) (omega (arith, v.copies.within))))
          ∙ ap (λ k. sets ws out (slice from k ws)) (sym next);
      kept = rw next (drop-set-lt (from + i + 1) now (out + i) w (omega (arith, v.below)) ∙ drop_more_same now ws (from + i) v.kept);
    })

-- Up: the last words stand where they come, and before the first of them the slice is still as it was.
pub record Raising (ws : List ℕ) (from to out : ℕ) (now : List ℕ) (left : ℕ) : Type 0 where
  pub copies : Copies ws from to ws out
  pub above : from ≤ out
  pub fewer : left ≤ to - from
  pub work : now ≡ sets ws (out + left) (slice (from + left) to ws)
  pub kept : take (out + left) now ≡ take (out + left) ws

-- A word stored in front of words that were put.
pub set-sets : (vs l : List ℕ) (i j v : ℕ) → i < j → set (sets l j vs) i v ≡ sets (set l i v) j vs
set-sets [] l i j v h = refl
set-sets (w ∷ vs) l i j v h =
    set-sets vs (set l j w) i (suc j) v (omega arith) ∙ ap (λ m. sets m (suc j) vs) (set_comm l j i w v (λ e. omega arith))

module _ {ws : List ℕ} {from to out : ℕ} {now : List ℕ} {left : ℕ} (v : Raising ws from to out now left) where
  pub raising_turn : 0 < left → Raising ws from to out (set now (out + (left - 1)) (get_or now (from + (left - 1)) 0)) (left - 1)
  raising_turn some =
      let p = left - 1 in
      let e : out + left ≡ suc (out + p) = omega arith in
      let f : from + left ≡ suc (from + p) = omega arith in
      let word : get_or now (from + p) 0 ≡ get_or ws (from + p) 0 =
      sym (get_or-take (out + left) now (from + p) 0 (omega (arith, v.above)))
      ∙ ap (λ l. get_or l (from + p) 0) v.kept
      ∙ get_or-take (out + left) ws (from + p) 0 (omega (arith, v.above)) in
      rw word
      (record {
        copies = v.copies;
        above = v.above;
        fewer = omega (arith, v.fewer);
        work =
            ap (λ l. set l (out + p) (get_or ws (from + p) 0)) v.work
            ∙ rw (e, f) (set-sets (slice (suc (from + p)) to ws) ws (out + p) (suc (out + p)) (get_or ws (from + p) 0) (omega arith))
            ∙ sym (ap (sets ws (out + p)) (slice-cons (from + p) to ws 0 (omega (arith, v.fewer)) v.copies.within));
        kept = take-set-le (out + p) now (out + p) (get_or ws (from + p) 0) (omega arith) ∙ taken_less now ws (out + p) (out + left) (omega arith) v.kept;
      })

-- Words put where they stand change nothing.
pub sets_same : (l : List ℕ) (f t : ℕ) → f ≤ t → t ≤ length l → sets l f (slice f t l) ≡ l
sets_same l f t h k =
    let e : f + length (slice f t l) ≡ t = omega (arith, length-slice f t l k) in
    sets-eq (slice f t l) l f (omega arith)
    ∙ ap (λ m. (take f l ++ slice f t l) ++ drop m l) e
    ∙ ap (λ xs. (xs ++ slice f t l) ++ drop t l) (sym (take-take f t l h))
    ∙ ap (λ xs. xs ++ drop t l) (take-append-drop f (take t l))
    ∙ take-append-drop t l
