-- The turns of `measure`: what was counted and the occurrences to come are all occurrences.
use Prim.Native.Nat.{ℕ, zero, suc, ◌+◌, ◌-◌, ◌≤◌, ◌<◌}
use mathlib.Core.Path.{◌≡◌, refl, sym, ◌∙◌, ap}
use mathlib.Core.Bool.{Bool, true, false, cond}
use mathlib.Core.List.{List, [], ◌∷◌}
use native.Mathlib.Decide.{ℕ_discrete}
use native.Mathlib.Numerals.{add-one}
use native.Mathlib.Omega.{arith}
use borrow.Author.Tests.{eq-eqb, ne_eqb}
use lib.Dec.{eqb}
use lib.ListN.{length, get_or, drop, set, replicate, length-set, drop_of_length-le}
use lib.Seq.{drop-cons, drop-set-lt, get_or-set_same, get_or-set_other}
use Rattle.calculus.specs.Accepted.{argument_limit}
use Rattle.calculus.specs.Skip.{arity, span}
use Rattle.words.specs.Bound.{bound}
use Rattle.std.proofs.lemmas.List.{drop-replicate}
use Rattle.walk.specs.Depths.{depths}
use Rattle.walk.specs.Rewritten.{place, argument_at}
use Rattle.substitution.specs.Measure.{occurrences, Measurable, Measures}
use Rattle.std.specs.Prelude.{Some, None}
use Rattle.walk.proofs.RewrittenLaws.{argument_place, no_argument}
use Rattle.walk.proofs.ScopeLaws.{to_come, come_first}
use Rattle.walk.proofs.EnterLaws.{Entered}
use Rattle.substitution.proofs.WalkLaws.{starts_some}
use Rattle.substitution.proofs.Walking.{Walking, walking_start, walking_done, walking_within, walking_number, walking_next, nothing_left}

-- One more for a place.
told_set : (occurs : List ℕ) (k j : ℕ) → k < length occurs → get_or (set occurs k (get_or occurs k 0 + 1)) j 0 ≡ get_or occurs j 0 + cond (eqb k j) 1 0
told_set occurs k j h = go (ℕ_discrete k j)
  where
    go : Dec (k ≡ j) → get_or (set occurs k (get_or occurs k 0 + 1)) j 0 ≡ get_or occurs j 0 + cond (eqb k j) 1 0
    go (yes e) = rw (eq-eqb k j e) (rw (← e) (get_or-set_same occurs k (get_or occurs k 0 + 1) 0 h))
    go (no e) = rw (ne_eqb k j e) (get_or-set_other occurs k j (get_or occurs k 0 + 1) 0 (λ q. e (sym q)) ∙ omega arith)

one : (b : Bool) → cond b 1 0 ≤ 1
one true = omega arith
one false = omega arith

zeros_at : (m j : ℕ) → ◌≡◌ {A = ℕ} (get_or (replicate m 0) j 0) 0
zeros_at zero j = refl
zeros_at (suc m) zero = refl
zeros_at (suc m) (suc j) = zeros_at m j

occurrences_done : (n j : ℕ) (ws : List ℕ) → occurrences n j [] ws ≡ 0
occurrences_done n j [] = refl
occurrences_done n j (w ∷ ws) = refl

-- The walk has counted the words up to i, and stood under `last` binders at the one before.
pub record Counting (src : List ℕ) (body n : ℕ) (room₀ room occurs : List ℕ) (i pending depth top last : ℕ) : Type 0 where
  pub walking : Walking src body room₀ room i pending depth top
  pub some : 0 < span 1 (drop body src)
  pub few : n ≤ argument_limit
  pub places : length occurs ≡ suc argument_limit
  pub small : (j : ℕ) → get_or occurs j 0 ≤ i - body
  pub counted : (j : ℕ) → j < n
      → get_or occurs j 0 + occurrences n j (to_come pending depth (drop top room)) (drop i src) ≡ occurrences n j (0 ∷ []) (drop body src)
  pub rest : drop n occurs ≡ replicate (suc argument_limit - n) 0
  pub passed : 0 < i - body → last ≡ get_or (depths (0 ∷ []) (drop body src)) (i - body - 1) 0

pub counting_start : {src room occurs : List ℕ} {body n : ℕ} → Measurable src body n room → occurs ≡ replicate (suc argument_limit) 0
    → Counting src body n room room occurs body 1 0 (length room) 0
counting_start {src} {room} {occurs} {body} {n} h z =
    let zeros : (j : ℕ) → get_or occurs j 0 ≡ 0 = λ j. rw z (zeros_at (suc argument_limit) j) in
    let w = walking_start h.short h.starts h.enough in
    record {
      walking = w;
      some = starts_some h.starts;
      few = h.few;
      places = ap length z;
      small = λ j. omega (arith, zeros j);
      counted = λ j l. rw (zeros j, drop_of_length-le room {i = length room} (omega arith)) (omega arith);
      rest = rw z (drop-replicate n (suc argument_limit) 0);
      passed = λ q. absurd (omega arith);
    }

module _ {src : List ℕ} {body n : ℕ} {room₀ room occurs : List ℕ} {i pending depth top last : ℕ}
    (v : Counting src body n room₀ room occurs i pending depth top last) where
  pub counting_done : pending ≤ 0 → Measures src body n i last occurs
  counting_done none =
      let e = walking_done v.walking none in
      let z : pending ≡ 0 = omega arith in
      record {
        ends = e;
        occur = λ j l. omega (arith, rw (nothing_left v.walking z) at (v.counted j l), occurrences_done n j (drop i src));
        rest = v.rest;
        last_is = v.passed (omega (arith, e, v.some));
      }

  -- A turn, by what it leaves in the counts.
  module _ (some : 0 < pending) where
    abbrev w : ℕ
    w = get_or src i 0

    counting_turn : {occurs' : List ℕ} {pending' depth' top' : ℕ} {room' : List ℕ}
        → ((j : ℕ) → j < n → get_or occurs' j 0 ≡ get_or occurs j 0 + cond (eqb (place n depth w) j) 1 0) → ((j : ℕ) → get_or occurs' j 0 ≤ get_or occurs j 0 + 1)
        → length occurs' ≡ length occurs → drop n occurs' ≡ drop n occurs → Entered (arity w) (bound w) pending depth top room pending' depth' top' room'
        → Counting src body n room₀ room' occurs' (i + 1) pending' depth' top' depth
    counting_turn told few same behind entered =
        let u = v.walking in
        let more = walking_within u some in
        let shift : i + 1 - body - 1 ≡ i - body = omega (arith, more) in
        record {
          walking = walking_next u some entered;
          some = v.some;
          few = v.few;
          places = same ∙ v.places;
          small = λ j. omega (arith, few j, v.small j, more);
          counted = λ j h.
              rw (entered.come, add-one i)
              (omega (
                arith,
                told j h,
                rw (come_first pending depth (drop top room) (omega arith), drop-cons src i 0 more.0) at (v.counted j h),
              ));
          rest = behind ∙ v.rest;
          passed = λ q. sym (walking_number u some) ∙ ap (λ m. get_or (depths (0 ∷ []) (drop body src)) m 0) (sym shift);
        }

    -- An argument stands for the word.
    pub counting_next : {k pending' depth' top' : ℕ} {room' : List ℕ} → argument_at n depth w ≡ Some k
        → Entered (arity w) (bound w) pending depth top room pending' depth' top' room'
        → Counting src body n room₀ room' (set occurs k (get_or occurs k 0 + 1)) (i + 1) pending' depth' top' depth
    counting_next {k} e entered =
        let p = argument_place n depth w e in
        let inside : k < length occurs = omega (arith, p.1, v.few, v.places) in
        counting_turn
        (λ j h. told_set occurs k j inside ∙ ap (λ q. get_or occurs j 0 + cond (eqb q j) 1 0) p.0)
        (λ j. omega (arith, told_set occurs k j inside, one (eqb k j)))
        (length-set occurs k _)
        (drop-set-lt n occurs k _ p.1)
        entered

    -- None does.
    pub counting_past : {pending' depth' top' : ℕ} {room' : List ℕ} → argument_at n depth w ≡ None
        → Entered (arity w) (bound w) pending depth top room pending' depth' top' room'
        → Counting src body n room₀ room' occurs (i + 1) pending' depth' top' depth
    counting_past e entered =
        counting_turn
        (λ j h. rw (ne_eqb (place n depth w) j (λ q. omega (arith, q, no_argument n depth w e, h))) (omega arith))
        (λ j. omega arith)
        refl
        refl
        entered
