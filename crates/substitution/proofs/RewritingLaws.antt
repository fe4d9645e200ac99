-- A walk that writes what stands for each word, up to a word `stop`: the words still to come lead to what all of them lead to.
use Prim.Native.Nat.{ℕ, zero, suc, ◌+◌, ◌*◌, ◌-◌, ◌≤◌, ◌<◌}
use mathlib.Core.Path.{◌≡◌, refl, sym, ◌∙◌, ap}
use mathlib.Core.List.{List, [], ◌∷◌, ◌++◌, append-nil, append_assoc}
use native.Mathlib.Numerals.{add-one}
use native.Mathlib.Omega.{arith}
use lib.IntN.{ℤ}
use lib.ListN.{length, get_or, drop, replicate, length-append, length-drop, drop_of_length-le}
use lib.Seq.{sets, length-sets, drop-cons, get_or-drop}
use Rattle.calculus.specs.Term.{Term, Terms, nil, cons, count}
use Rattle.calculus.specs.Words.{workspace_most, words}
use Rattle.calculus.specs.Skip.{arity, span}
use Rattle.calculus.specs.First.{first_term, first_terms}
use Rattle.calculus.proofs.Substitution.{shift_zero}
use Rattle.calculus.proofs.MarkedWords.{Every, every_first, every_rest}
use Rattle.words.specs.Bound.{bound}
use Rattle.words.specs.Placed.{Placed}
use Rattle.words.proofs.PlacedLaws.{sets-append}
use Rattle.walk.specs.Depths.{depths}
use Rattle.walk.specs.Rewritten.{shifting, substituting, rewritten, standing}
use Rattle.substitution.specs.Results.{Starts, Shiftable, shifted, Substitutable, substituted}
use Rattle.walk.proofs.DepthLaws.{length-items, span-depths}
use Rattle.substitution.proofs.Traversal.{marked, flat, MovableWord}
use Rattle.substitution.proofs.ResultLaws.{movable_starts, shift_starts, subst_starts}
use Rattle.walk.proofs.ScopeLaws.{to_come, come_first}
use Rattle.walk.proofs.EnterLaws.{Entered}
use Rattle.substitution.proofs.Walking.{Walking, walking_start, walking_some, walking_within, walking_inside, walking_number, walking_next, walking_lent}

pub placed_as : {before after vs us : List ℕ} {out end : ℕ} → vs ≡ us → Placed before out vs after end → Placed before out us after end
placed_as e v = rw e at v

-- All words of the items.
pub standing-all : (f : ℕ → ℕ → Term) (ws ds : List ℕ) (k : ℕ) → span (length ds) ws ≤ k → standing f k ds ws ≡ flat f (marked (depths ds ws) ws)
standing-all f [] ds zero h = refl
standing-all f [] ds (suc k) h = refl
standing-all f (w ∷ ws) [] zero h = refl
standing-all f (w ∷ ws) [] (suc k) h = refl
standing-all f (w ∷ ws) (d ∷ ds) zero h = absurd (omega arith)
standing-all f (w ∷ ws) (d ∷ ds) (suc k) h =
    ap (λ vs. rewritten f d w ++ vs) (standing-all f ws (replicate (arity w) (d + bound w) ++ ds) k (rw (length-items w d ds) (omega arith)))

pub record Rewriting (f : ℕ → ℕ → Term) (src : List ℕ) (body stop : ℕ) (dst₀ : List ℕ) (out : ℕ) (room₀ dst room : List ℕ) (o i pending depth top : ℕ) : Type 0 where
  pub walking : Walking src body room₀ room i pending depth top
  pub before : i ≤ stop
  pub ends : stop ≤ body + span 1 (drop body src)
  pub kept : length dst ≡ length dst₀
  pub work : sets dst o (standing f (stop - i) (to_come pending depth (drop top room)) (drop i src))
      ≡ sets dst₀ out (standing f (stop - body) (0 ∷ []) (drop body src))
  pub position : o + length (standing f (stop - i) (to_come pending depth (drop top room)) (drop i src))
      ≡ out + length (standing f (stop - body) (0 ∷ []) (drop body src))

pub rewriting_start : (f : ℕ → ℕ → Term) {src dst room : List ℕ} {body stop : ℕ} (out : ℕ) → length src ≤ workspace_most
    → Starts (drop body src) (first_term (drop body src)) → span 1 (drop body src) ≤ 2 * length room → body ≤ stop → stop ≤ body + span 1 (drop body src)
    → Rewriting f src body stop dst out room dst room out body 1 0 (length room)
rewriting_start f {room = room} out short h enough from to =
    let none : drop (length room) room ≡ [] = drop_of_length-le room {i = length room} (omega arith) in
    record { walking = walking_start short h enough; before = from; ends = to; kept = refl; work = rw none; position = rw none }

module _ {f : ℕ → ℕ → Term} {src : List ℕ} {body stop : ℕ} {dst₀ : List ℕ} {out : ℕ} {room₀ dst room : List ℕ} {o i pending depth top : ℕ}
    (v : Rewriting f src body stop dst₀ out room₀ dst room o i pending depth top) where
  pub rewriting_done : stop ≤ i → Placed dst₀ out (standing f (stop - body) (0 ∷ []) (drop body src)) dst o
  rewriting_done past =
      let z : stop - i ≡ 0 = omega arith in
      record { slice = rw z at v.work; position = omega (arith, rw z at v.position) }

  module _ (more : i < stop) where
    pub rewriting_some : 0 < pending
    rewriting_some = walking_some v.walking (omega (arith, v.ends))

    pub rewriting_within : (i < length src) × (length src ≤ workspace_most) × (body ≤ i)
    rewriting_within = walking_within v.walking rewriting_some

    abbrev w : ℕ
    w = get_or src i 0

    abbrev here : List ℕ
    here = rewritten f depth w

    abbrev ds : List ℕ
    ds = to_come (pending - 1) depth (drop top room)

    next_is : standing f (stop - i) (to_come pending depth (drop top room)) (drop i src)
        ≡ here ++ standing f (stop - (i + 1)) (replicate (arity w) (depth + bound w) ++ ds) (drop (i + 1) src)
    next_is =
        let e : stop - i ≡ suc (stop - (i + 1)) = omega arith in
        rw (e, come_first pending depth (drop top room) rewriting_some, drop-cons src i 0 rewriting_within.0, add-one i)

    -- There is room for what stands for the word.
    pub rewriting_room : o + length here ≤ out + length (standing f (stop - body) (0 ∷ []) (drop body src))
    rewriting_room = omega (arith, v.position, ap length next_is, length-append here (standing f (stop - (i + 1)) (replicate (arity w) (depth + bound w) ++ ds) (drop (i + 1) src)))

    pub rewriting_next : {o' pending' depth' top' : ℕ} {dst' room' : List ℕ} → Placed dst o here dst' o'
        → Entered (arity w) (bound w) pending depth top room pending' depth' top' room'
        → Rewriting f src body stop dst₀ out room₀ dst' room' o' (i + 1) pending' depth' top'
    rewriting_next n entered =
        let rest = standing f (stop - (i + 1)) (replicate (arity w) (depth + bound w) ++ ds) (drop (i + 1) src) in
        record {
          walking = walking_next v.walking rewriting_some entered;
          before = omega arith;
          ends = v.ends;
          kept = ap length n.slice ∙ length-sets dst o here ∙ v.kept;
          work =
              rw (entered.come, n.slice, n.position)
              (sym (sets-append here rest dst o) ∙ ap (sets dst o) (sym next_is) ∙ v.work);
          position = rw entered.come (omega (arith, n.position, v.position, ap length next_is, length-append here rest));
        }

-- A nested walk may write before `top`.
pub rewriting_lent : {f : ℕ → ℕ → Term} {src : List ℕ} {body stop : ℕ} {dst₀ : List ℕ} {out : ℕ} {room₀ dst room room' : List ℕ} {o i pending depth top : ℕ}
    → Rewriting f src body stop dst₀ out room₀ dst room o i pending depth top → length room' ≡ length room → drop top room' ≡ drop top room
    → Rewriting f src body stop dst₀ out room₀ dst room' o i pending depth top
rewriting_lent v same kept =
    record {
      walking = walking_lent v.walking same kept;
      before = v.before;
      ends = v.ends;
      kept = v.kept;
      work = rw kept v.work;
      position = rw kept v.position;
    }

-- One word more.
pub standing-more : (f : ℕ → ℕ → Term) (k : ℕ) (ws ds : List ℕ) → k < length (depths ds ws)
    → standing f (suc k) ds ws ≡ standing f k ds ws ++ rewritten f (get_or (depths ds ws) k 0) (get_or ws k 0)
standing-more f k [] ds h = absurd (omega arith)
standing-more f k (w ∷ ws) [] h = absurd (omega arith)
standing-more f zero (w ∷ ws) (d ∷ ds) h = append-nil (rewritten f d w)
standing-more f (suc k) (w ∷ ws) (d ∷ ds) h =
    let es = replicate (arity w) (d + bound w) ++ ds in
    ap (λ vs. rewritten f d w ++ vs) (standing-more f k ws es (omega arith)) ∙ sym (append_assoc (rewritten f d w) (standing f k es ws) _)

-- The only argument stands as it is for its index, 0, under no binder.
pub rewritten-alone : (xs : Terms) → count xs ≡ 1 → rewritten (substituting xs) 0 0 ≡ words xs
unfolding rewritten
rewritten-alone nil e = absurd (omega arith)
rewritten-alone (cons a nil) e = ap words (shift_zero 0 a) ∙ sym (append-nil (words a))
rewritten-alone (cons a (cons b xs)) e = absurd (omega arith)

-- A term moved, and a body with its arguments, up to the last word.
pub standing-shifted : (src : List ℕ) (at last : ℕ) (z : ℤ) → Starts (drop at src) (first_term (drop at src)) → last ≡ at + span 1 (drop at src)
    → standing (shifting z) (last - at) (0 ∷ []) (drop at src) ≡ words (shifted src at z)
unfolding shifted
standing-shifted src at last z h e =
    standing-all (shifting z) (drop at src) (0 ∷ []) (last - at) (omega arith) ∙ shift_starts (first_term (drop at src)) (drop at src) h z

pub standing-substituted : {src : List ℕ} {body args n last : ℕ} → Substitutable src body args n → last ≡ body + span 1 (drop body src)
    → standing (substituting (first_terms n (drop args src))) (last - body) (0 ∷ []) (drop body src) ≡ words (substituted src body args n)
unfolding substituted
standing-substituted {src} {body} {args} {n} {last} h e =
    standing-all _ (drop body src) (0 ∷ []) (last - body) (omega arith)
    ∙ subst_starts (first_term (drop body src)) (drop body src) h.body_starts (first_terms n (drop args src))

-- Each word of a term that may be moved may be moved.
every_at : {P : ℕ → ℕ → Type 0} (ns ws : List ℕ) (k : ℕ) → Every P (marked ns ws) → k < length ns → k < length ws → P (get_or ns k 0) (get_or ws k 0)
every_at [] ws k e l m = absurd (omega arith)
every_at (n ∷ ns) [] k e l m = absurd (omega arith)
every_at (n ∷ ns) (w ∷ ws) zero e l m = every_first e
every_at (n ∷ ns) (w ∷ ws) (suc k) e l m = every_at ns ws k (every_rest e) (omega arith) (omega arith)

pub moving-word : {src : List ℕ} {at : ℕ} {z : ℤ} {room₀ room : List ℕ} {i pending depth top : ℕ} → Shiftable src at z
    → Walking src at room₀ room i pending depth top → 0 < pending → MovableWord z depth (get_or src i 0)
moving-word {src} {at} {z} {i = i} {depth = depth} h v some =
    let ns = depths (0 ∷ []) (drop at src) in
    let within = walking_within v some in
    let e : at + (i - at) ≡ i = omega (arith, within) in
    let word : get_or (drop at src) (i - at) 0 ≡ get_or src i 0 = get_or-drop at src (i - at) 0 ∙ ap (λ k. get_or src k 0) e in
    rw (walking_number v some, word) at
    (every_at ns (drop at src) (i - at) (movable_starts _ (drop at src) h.starts z h.movable)
    (omega (arith, span-depths (drop at src) (0 ∷ []), walking_inside v some))
    (omega (arith, length-drop at src, within)))
