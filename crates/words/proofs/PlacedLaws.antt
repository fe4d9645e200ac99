-- Words put into a slice: one after the other, a word more of those that a loop puts, and slices that they fill to the end.
use Prim.Native.Nat.{ℕ, suc, ◌+◌, ◌-◌, ◌≤◌, ◌<◌}
use mathlib.Core.Path.{◌≡◌, refl, sym, ◌∙◌, ap}
use mathlib.Core.List.{List, [], ◌∷◌, ◌++◌, append-nil, append_assoc}
use native.Mathlib.Nat.{add-zero}
use native.Mathlib.Numerals.{add-one}
use native.Mathlib.Omega.{arith}
use lib.ListN.{length, take, drop, set, get_or, length-append, drop_of_length-le}
use lib.Seq.{sets, sets-eq, length-sets, slice, slice-cons, slice_empty, length-slice, drop-drop, take-append_seam, take-take, take-set-le}
use borrow.Rule.Slice.PartMut.{put_mid}
use Rattle.std.proofs.lemmas.List.{drop-set as stored}
use Rattle.words.specs.Placed.{Placed, Copies}

-- A word stored, and what stands from there on.
pub drop-set : (l : List ℕ) (i v : ℕ) → i < length l → drop i (set l i v) ≡ v ∷ drop (suc i) l
drop-set l i v h = stored l i v h ∙ rw (add-one i)

pub sets-append : (xs ys l : List ℕ) (i : ℕ) → sets l i (xs ++ ys) ≡ sets (sets l i xs) (i + length xs) ys
sets-append [] ys l i = rw add-zero
sets-append (x ∷ xs) ys l i = let e : i + suc (length xs) ≡ suc i + length xs = omega arith in rw e (sets-append xs ys (set l i x) (suc i))

-- Words that reach to the end of a slice, and words that fill it.
pub sets_end : (vs l : List ℕ) (i : ℕ) → i + length vs ≡ length l → sets l i vs ≡ take i l ++ vs
sets_end vs l i e =
    let past : length l ≤ i + length vs = omega arith in
    sets-eq vs l i (omega arith) ∙ (rw (drop_of_length-le l past) (append-nil (take i l ++ vs)))

pub sets_whole : (vs l : List ℕ) → length vs ≡ length l → sets l 0 vs ≡ vs
sets_whole vs l e = sets_end vs l 0 (omega arith)

-- Where two slices start with the same words, they do with fewer of them, and where a word behind these is stored.
pub taken_less : (xs ys : List ℕ) (j i : ℕ) → j ≤ i → take i xs ≡ take i ys → take j xs ≡ take j ys
taken_less xs ys j i l e = sym (take-take j i xs l) ∙ ap (take j) e ∙ take-take j i ys l

pub taken_set : (xs ys : List ℕ) (j i v : ℕ) → j ≤ i → take i xs ≡ take i ys → take j (set xs j v) ≡ take j ys
taken_set xs ys j i v l e = take-set-le j xs j v (omega arith) ∙ taken_less xs ys j i l e

pub placed_none : (l : List ℕ) (out : ℕ) → Placed l out [] l out
placed_none l out = record { slice = refl; position = omega arith }

pub placed_cons : {l vs after : List ℕ} {end : ℕ} (out w : ℕ) → Placed (set l out w) (out + 1) vs after end → Placed l out (w ∷ vs) after end
placed_cons out w p = record { slice = p.slice ∙ rw add-one; position = omega (arith, p.position) }

pub placed_append : {l vs us after later : List ℕ} {out end last : ℕ} → Placed l out vs after end → Placed after end us later last
    → Placed l out (vs ++ us) later last
placed_append {l} {vs} {us} {out = out} p q =
    record {
      slice = q.slice ∙ rw (p.slice, p.position) (sym (sets-append vs us l out));
      position = omega (arith, p.position, q.position, length-append vs us);
    }

pub placed_length : {l vs after : List ℕ} {out end : ℕ} → Placed l out vs after end → length after ≡ length l
placed_length {l} {vs} {out = out} p = ap length p.slice ∙ length-sets l out vs

-- What was put at the start of a slice stands there.
pub placed_start : {l vs after : List ℕ} {end : ℕ} → length vs ≤ length l → Placed l 0 vs after end → slice 0 end after ≡ vs
placed_start {l} {vs} {after} {end} h p =
    let e : end ≡ length vs = omega (arith, p.position) in
    ap (λ m. take m after) e ∙ ap (take (length vs)) (p.slice ∙ sets-eq vs l 0 (omega arith)) ∙ take-append_seam vs _

-- A part of a slice, from a position to an end, written as a whole.
pub sets_part : {X : Type 0} {part : List X} (vs l : List X) (i to : ℕ) → part ≡ vs → i + length vs ≡ to → to ≤ length l → put_mid i (to - i) l part ≡ sets l i vs
sets_part vs l i to p e h =
    let k : i + length vs ≡ i + (to - i) = omega (arith, e) in
    ap (put_mid i (to - i) l) p ∙ sym (sets-eq vs l i (omega arith) ∙ append_assoc (take i l) vs _ ∙ ap (λ xs. take i l ++ (vs ++ xs)) (ap (λ m. drop m l) k ∙ sym (drop-drop (to - i) i l)))

-- A turn of copying: the first of what is still to copy is put, and the others come behind it.
pub copied_turn : {X : Type 0} (src dst : List X) (from to out i : ℕ) (x : X) → x ≡ get_or src (from + i) x → i < to - from → to ≤ length src
    → sets (set dst (out + i) x) (out + (i + 1)) (slice (from + (i + 1)) to src) ≡ sets dst (out + i) (slice (from + i) to src)
copied_turn src dst from to out i x e l within =
    let f : from + (i + 1) ≡ suc (from + i) = omega arith in
    let o : out + (i + 1) ≡ suc (out + i) = omega arith in
    rw (f, o, slice-cons (from + i) to src x (omega (arith, l)) within, ← e)

-- Nothing is left to copy.
pub copied : {X : Type 0} {src before after : List X} {from to out i : ℕ} → Copies src from to before out → to - from ≤ i → i ≤ to - from
    → sets after (out + i) (slice (from + i) to src) ≡ sets before out (slice from to src)
    → Placed before out (slice from to src) after (out + (to - from))
copied {src = src} {from = from} {to} {i = i} h past most e =
    let all : from + i ≡ to = omega (arith, h.ordered) in
    record { slice = rw (all, slice_empty to src) at e; position = omega (arith, length-slice from to src h.within) }
