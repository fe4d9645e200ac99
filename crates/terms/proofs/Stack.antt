-- The scan with its frames packed in a vector: what the loop of `is_term` keeps, and that a turn keeps it.
use Prim.Native.Nat.{ℕ, zero, suc, ◌+◌, ◌*◌, ◌/◌, ◌≤◌, ◌<◌}
use mathlib.Core.Path.{◌≡◌, refl, sym, ◌∙◌, ap}
use mathlib.Core.Bool.{Bool, true, false, cond, ◌&&◌, false≢true, and-eq-true_iff}
use mathlib.Core.List.{List, [], ◌∷◌, ◌++◌, map, reverse}
use mathlib.Core.Option.{some, none}
use Rattle.std.proofs.lemmas.List.{reverse-append, length-reverse, length-map, length-append}
use Rattle.terms.specs.declared.frame.Frame as codeFrame
use native.Mathlib.Numerals.{add-one}
use native.Mathlib.Omega.{arith}
use lib.Dec.{eqb, eqb-suc-zero}
use lib.ListN.{length, get_or, drop, length-drop, drop_of_length-le}
use lib.Seq.{drop-cons}
use Rattle.calculus.specs.Words.{kind_of, payload_of, workspace_most}
use Rattle.calculus.specs.Accepted.{argument_limit}
use Rattle.terms.specs.Frames.{Frame, is_filled, inside_by, inside, allowed, rest_by, rest, entered}
use Rattle.terms.specs.Packed.{unpacked}
use Rattle.words.proofs.BoundLaws.{binding_few}
use Rattle.terms.proofs.Scan.{push_by, push, after, scan, whole}

-- A frame that is filled is left out of the frames, and any other stands in front.
push_filled : (f : Frame) (fs : List Frame) → is_filled f ≡ true → push f fs ≡ fs
push_filled f fs q = go f.terms f.branches q
  where
    go : (n b : ℕ) → (eqb n 0 && eqb b 0) ≡ true → push_by n b f fs ≡ fs
    go zero zero q = refl
    go zero (suc b) q = absurd (false≢true (rw eqb-suc-zero at q))
    go (suc n) b q = absurd (false≢true (rw eqb-suc-zero at q))

push_open : (f : Frame) (fs : List Frame) → is_filled f ≡ false → push f fs ≡ f ∷ fs
push_open f fs q = go f.terms f.branches q
  where
    go : (n b : ℕ) → (eqb n 0 && eqb b 0) ≡ false → push_by n b f fs ≡ f ∷ fs
    go zero zero q = absurd (false≢true (sym q))
    go zero (suc b) q = refl
    go (suc n) b q = refl

-- A scan that succeeds reads a word at least for each of its frames.
push_longer : (f : Frame) (fs : List Frame) → length fs ≤ length (push f fs)
push_longer f fs = go f.terms f.branches
  where
    go : (n b : ℕ) → length fs ≤ length (push_by n b f fs)
    go zero zero = omega arith
    go zero (suc b) = omega arith
    go (suc n) b = omega arith

frames_within : (ws : List ℕ) (fs : List Frame) → scan fs ws ≡ true → length fs ≤ length ws
unfolding scan
frames_within [] [] q = omega arith
frames_within [] (f ∷ fs) q = absurd (false≢true q)
frames_within (w ∷ ws) [] q = omega arith
frames_within (w ∷ ws) (f ∷ fs) q =
    omega (arith, frames_within ws (after f w fs) ((and-eq-true_iff (allowed f w) _).0 q).1, push_longer (rest f w) fs, push_longer (inside f.depth w) (push (rest f w) fs))

frames_above : (ws : List ℕ) (fs : List Frame) → length ws < length fs → false ≡ scan fs ws
frames_above ws fs h = go (scan fs ws) refl
  where
    go : (b : Bool) → scan fs ws ≡ b → false ≡ b
    go true e = absurd (omega (arith, frames_within ws fs e))
    go false e = refl

-- The frames of a vector, the last of it in front.
abbrev pub stacked : List codeFrame.Frame → List Frame
stacked xs = map (λ x. unpacked x.0) (reverse xs)

stacked_length : (xs : List codeFrame.Frame) → length (stacked xs) ≡ length xs
stacked_length xs = simp (length-map, length-reverse)

stacked_more : (xs : List codeFrame.Frame) (x : codeFrame.Frame) → stacked (xs ++ x ∷ []) ≡ unpacked x.0 ∷ stacked xs
stacked_more xs x = rw reverse-append

-- Something is to come at each of the frames, and none is under more than m binders.
abbrev pub Waiting : ℕ → List Frame → Type 0
Waiting m [] = Unit {0}
Waiting m (f ∷ fs) = (f.depth ≤ m) × (is_filled f ≡ false) × Waiting m fs

waiting_more : (m n : ℕ) (fs : List Frame) → m ≤ n → Waiting m fs → Waiting n fs
waiting_more m n [] h s = tt
waiting_more m n (f ∷ fs) h s = (omega arith, s.1, waiting_more m n fs h s.2)

rest_depth : (n b d t p : ℕ) → (rest_by n b d t p).depth ≡ d
rest_depth zero zero d t p = refl
rest_depth zero (suc b) d t p = refl
rest_depth (suc n) b d t p = refl

-- The most frames that wait: each was opened by a word and has a word to come.
abbrev pub room : ℕ
room = workspace_most / 2

-- The loop's invariant: the scan of the words that are left, with the current frame f and those that wait, answers as that of all words does. A
-- word adds at most one frame, and `argument_limit` binders.
pub record Scanning (ws : List ℕ) (waiting : List codeFrame.Frame) (f i : ℕ) : Type 0 where
  pub each : length waiting ≤ i
  pub shallow : (unpacked f).depth ≤ i * argument_limit
  pub waits : Waiting (i * argument_limit) (stacked waiting)
  pub left : scan (push (unpacked f) (stacked waiting)) (drop i ws) ≡ scan whole ws

-- The same where something is to come at the current frame.
pub record Opened (ws : List ℕ) (waiting : List codeFrame.Frame) (f i : ℕ) : Type 0 where
  pub kept : Scanning ws waiting f i
  pub unfilled : is_filled (unpacked f) ≡ false

pub scanning_starts : (ws : List ℕ) → Scanning ws [] 1 0
scanning_starts ws = record { each = omega arith; shallow = omega arith; waits = tt; left = refl }

-- What a word comes to at a frame.
pub entered_some : (f s : Frame) (w : ℕ) → some s ≡ entered f w → (allowed f w ≡ true) × (s ≡ inside f.depth w)
entered_some f s w = go (allowed f w) refl
  where
    go : (b : Bool) → allowed f w ≡ b → some s ≡ cond b (some (inside f.depth w)) none → (allowed f w ≡ true) × (s ≡ inside f.depth w)
    go true e q = (e, cc)
    go false e q = absurd (let z : ◌≡◌ {A = ℕ} 0 1 = cc in omega arith)

pub entered_none : (f : Frame) (w : ℕ) → none ≡ entered f w → allowed f w ≡ false
entered_none f w = go (allowed f w) refl
  where
    go : (b : Bool) → allowed f w ≡ b → none ≡ cond b (some (inside f.depth w)) none → allowed f w ≡ false
    go true e q = absurd (let z : ◌≡◌ {A = ℕ} 0 1 = cc in omega arith)
    go false e q = e

module _ {ws : List ℕ} {waiting : List codeFrame.Frame} {f i : ℕ} (state : Scanning ws waiting f i) where
  -- At the end the scan succeeds if no frame is left.
  ended : length ws ≤ i → scan (push (unpacked f) (stacked waiting)) [] ≡ scan whole ws
  ended past = rw (drop_of_length-le ws past) at state.left

  pub ends_open : is_filled (unpacked f) ≡ false → length ws ≤ i → false ≡ scan whole ws
  unfolding scan
  ends_open q past = rw (push_open (unpacked f) (stacked waiting) q) at (ended past)

  pub ends_filled : is_filled (unpacked f) ≡ true → length ws ≤ i → eqb (length waiting) 0 ≡ scan whole ws
  unfolding scan
  ends_filled q past = go (stacked waiting) (stacked_length waiting) (rw (push_filled (unpacked f) (stacked waiting) q) at (ended past))
    where
      go : (fs : List Frame) → length fs ≡ length waiting → scan fs [] ≡ scan whole ws → eqb (length waiting) 0 ≡ scan whole ws
      go [] e r = rw (← e) r
      go (g ∷ fs) e r = rw (← e, eqb-suc-zero) r

  -- The current frame is filled: the next one is the last that waits.
  pub filled_more : is_filled (unpacked f) ≡ true → waiting ≡ [] → i < length ws → false ≡ scan whole ws
  unfolding scan
  filled_more q empty more =
      rw (push_filled (unpacked f) (stacked waiting) q, empty, drop-cons ws i 0 more) at state.left

  pub popped : is_filled (unpacked f) ≡ true → (xs : List codeFrame.Frame) (x : codeFrame.Frame) → waiting ≡ xs ++ x ∷ [] → Opened ws xs x.0 i
  popped q xs x e =
      let p : stacked waiting ≡ unpacked x.0 ∷ stacked xs = rw e (stacked_more xs x) in
      let w : Waiting (i * argument_limit) (unpacked x.0 ∷ stacked xs) = rw p at state.waits in
      let more : length waiting ≡ length xs + 1 = rw (e, length-append) in
      record {
        unfilled = w.1;
        kept = record {
          each = omega (arith, state.each, more);
          shallow = w.0;
          waits = w.2;
          left = rw (push_open (unpacked x.0) (stacked xs) w.1) (rw (push_filled (unpacked f) (stacked waiting) q, p) at state.left);
        };
      }

  -- Something is to come at the current frame: a turn reads a word.
  module _ (unfilled : is_filled (unpacked f) ≡ false) (more : i < length ws) where
    pub turn : scan whole ws ≡ (allowed (unpacked f) (get_or ws i 0) && scan (after (unpacked f) (get_or ws i 0) (stacked waiting)) (drop (i + 1) ws))
    unfolding scan
    turn = sym state.left ∙ rw (push_open (unpacked f) (stacked waiting) unfilled, add-one, drop-cons ws i 0 more)

    pub turn_refused : allowed (unpacked f) (get_or ws i 0) ≡ false → false ≡ scan whole ws
    turn_refused q = sym (turn ∙ rw q)

-- The word at i is allowed at the frame f: s is to come after it, and then r, what is left of the frame.
pub record Turns (ws : List ℕ) (f i r s : ℕ) : Type 0 where
  pub unfilled : is_filled (unpacked f) ≡ false
  pub more : i < length ws
  pub is_rest : unpacked r ≡ rest (unpacked f) (get_or ws i 0)
  pub is_inside : unpacked s ≡ inside (unpacked f).depth (get_or ws i 0)
  pub allows : allowed (unpacked f) (get_or ws i 0) ≡ true

module _ {ws : List ℕ} {waiting : List codeFrame.Frame} {f i r s : ℕ} (state : Scanning ws waiting f i) (t : Turns ws f i r s) where
  on : scan (push (unpacked s) (push (unpacked r) (stacked waiting))) (drop (i + 1) ws) ≡ scan whole ws
  on =
      ap (λ h. scan (push h (push (unpacked r) (stacked waiting))) (drop (i + 1) ws)) t.is_inside
      ∙ ap (λ h. scan (push (inside (unpacked f).depth (get_or ws i 0)) (push h (stacked waiting))) (drop (i + 1) ws)) t.is_rest
      ∙ sym (rw t.allows at (turn state t.unfilled t.more))

  rest_shallow : (unpacked r).depth ≤ (i + 1) * argument_limit
  rest_shallow =
      let g = unpacked f in
      omega (arith, ap (λ h. h.depth) t.is_rest, rest_depth g.terms g.branches g.depth g.least (payload_of (get_or ws i 0)), state.shallow)

  inside_shallow : (unpacked s).depth ≤ (i + 1) * argument_limit
  unfolding inside_by
  inside_shallow =
      let w = get_or ws i 0 in
      omega (arith, ap (λ h. h.depth) t.is_inside, binding_few (kind_of w) (payload_of w), state.shallow)

  waits_on : Waiting ((i + 1) * argument_limit) (stacked waiting)
  waits_on = waiting_more _ _ (stacked waiting) (omega arith) state.waits

  pub turn_on : is_filled (unpacked s) ≡ true → Scanning ws waiting r (i + 1)
  turn_on q =
      record {
        each = omega (arith, state.each);
        shallow = rest_shallow;
        waits = waits_on;
        left = rw (push_filled (unpacked s) (push (unpacked r) (stacked waiting)) q) at on;
      }

  pub turn_in : is_filled (unpacked r) ≡ true → Scanning ws waiting s (i + 1)
  turn_in q =
      record {
        each = omega (arith, state.each);
        shallow = inside_shallow;
        waits = waits_on;
        left = rw (push_filled (unpacked r) (stacked waiting) q) at on;
      }

  module _ (waits_too : is_filled (unpacked r) ≡ false) where
    pub turn_pushes : (xs : List codeFrame.Frame) (x : codeFrame.Frame) → x.0 ≡ r → xs ≡ waiting ++ x ∷ [] → Scanning ws xs s (i + 1)
    turn_pushes xs x is e =
        let p : stacked xs ≡ unpacked r ∷ stacked waiting = rw (e, ← is) (stacked_more waiting x) in
        let more : length xs ≡ length waiting + 1 = rw (e, length-append) in
        record {
          each = omega (arith, state.each, more);
          shallow = inside_shallow;
          waits = rw p (rest_shallow, waits_too, waits_on);
          left = rw p (rw (push_open (unpacked r) (stacked waiting) waits_too) at on);
        }

    -- There are more frames than words.
    pub turn_full : is_filled (unpacked s) ≡ false → length waiting ≡ room → length ws ≤ workspace_most → false ≡ scan whole ws
    turn_full q h most =
        frames_above (drop (i + 1) ws) (unpacked s ∷ unpacked r ∷ stacked waiting)
        (omega (arith, length-drop (i + 1) ws, stacked_length waiting, state.each))
        ∙ (rw (push_open (unpacked s) (push (unpacked r) (stacked waiting)) q, push_open (unpacked r) (stacked waiting) waits_too) at on)
