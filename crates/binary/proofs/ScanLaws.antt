-- A scan of the bits of an encoding.
use Prim.Native.Nat.{ℕ, min, zero, suc, ◌+◌, ◌*◌, ◌-◌, ◌≤◌, ◌<◌}
use mathlib.Core.Path.{◌≡◌, refl, sym, ap, ◌∙◌}
use mathlib.Core.Bool.{Bool, true, false, cond}
use mathlib.Core.List.{List, [], ◌∷◌, ◌++◌, append_assoc, append-nil}
use mathlib.Core.Option.{Option, some, none, map}
use native.Mathlib.Decide.{dec_le, dec_lt}
use native.Mathlib.Omega.{arith}
use borrow.Author.Tests.{eq-eqb, ne_eqb, lt-ltb, le-ltb, ltb-true, ltb-false}
use lib.Dec.{eqb, ltb}
use lib.ListN.{length, take, drop, set, length-append, length-drop, drop_of_length-le}
use lib.Seq.{sets, length-sets, drop-drop, length-take-le}
use Rattle.std.specs.Bool.{then_some}
use Rattle.words.proofs.RoomLaws.{room_of_length}
use Rattle.calculus.specs.Words.{variable_kind, abstraction_kind, application_kind, word, workspace_most}
use Rattle.encoding.specs.Bytes.{byte_bits, unpacked}
use Rattle.encoding.specs.Decoding.{words_in}
use Rattle.encoding.proofs.BytesLaws.{length-unpacked}
use Rattle.bits.specs.Runs.{run}
use Rattle.bits.specs.Tokens.{Token, early, abstraction, application, variable, token}
use Rattle.binary.specs.Scan.{word_most, clipped, all_clipped, Scans}

run_unended : (bs : List Bool) (i n : ℕ) → length bs ≤ run bs → words_in bs (suc i) (suc n) ≡ none
unfolding words_in
run_unended [] i n h = refl
run_unended (true ∷ bs) i n h = run_unended bs (suc i) n (omega arith)
run_unended (false ∷ bs) i n h = absurd (omega arith)

run-read : (bs : List Bool) (i n : ℕ) → run bs < length bs
    → words_in bs (suc i) (suc n) ≡ map (◌∷◌ (word variable_kind (i + run bs))) (words_in (drop (suc (run bs)) bs) 0 n)
unfolding words_in
run-read [] i n h = absurd (omega arith)
run-read (true ∷ bs) i n h =
    let e : suc i + run bs ≡ i + suc (run bs) = omega arith in
    run-read bs (suc i) n (omega arith) ∙ ap (λ k. map (◌∷◌ (word variable_kind k)) (words_in (drop (suc (run bs)) bs) 0 n)) e
run-read (false ∷ bs) i n h = let e : i ≡ i + 0 = omega arith in ap (λ k. map (◌∷◌ (word variable_kind k)) (words_in bs 0 n)) e

-- What the first token of bits says of the words of n + 1 terms.
abbrev pub Says : Token → List Bool → (n : ℕ) → Type 0
Says early bs n = words_in bs 0 (suc n) ≡ none
Says abstraction bs n = (2 ≤ length bs) × (words_in bs 0 (suc n) ≡ map (◌∷◌ (word abstraction_kind 0)) (words_in (drop 2 bs) 0 (suc n)))
Says application bs n = (2 ≤ length bs) × (words_in bs 0 (suc n) ≡ map (◌∷◌ (word application_kind 0)) (words_in (drop 2 bs) 0 (suc (suc n))))
Says (variable i) bs n = (i + 2 ≤ length bs) × (words_in bs 0 (suc n) ≡ map (◌∷◌ (word variable_kind i)) (words_in (drop (i + 2) bs) 0 n))

pub says : (bs : List Bool) (n : ℕ) → Says (token bs) bs n
unfolding words_in token
says [] n = refl
says (false ∷ []) n = refl
says (false ∷ false ∷ bs) n = (omega arith, refl)
says (false ∷ true ∷ bs) n = (omega arith, refl)
says (true ∷ bs) n = go (ltb (run bs) (length bs)) refl
  where
    go : (b : Bool) → ltb (run bs) (length bs) ≡ b → Says (cond b (variable (run bs)) early) (true ∷ bs) n
    go true e =
        let h = ltb-true (run bs) (length bs) e in
        let k : run bs + 2 ≡ suc (suc (run bs)) = omega arith in
        let z : 0 + run bs ≡ run bs = omega arith in
        (omega arith, rw k (run-read bs 0 n h ∙ ap (λ j. map (◌∷◌ (word variable_kind j)) (words_in (drop (suc (run bs)) bs) 0 n)) z))
    go false e = run_unended bs 0 n (ltb-false (run bs) (length bs) e)

pub clipped_variable : (i : ℕ) → i < workspace_most → word variable_kind i ≡ clipped (word variable_kind i)
unfolding clipped
clipped_variable i h = rw (lt-ltb (word variable_kind i) word_most (omega arith))

pub clipped_free : (i : ℕ) → workspace_most ≤ i → word_most ≡ clipped (word variable_kind i)
unfolding clipped
clipped_free i h = rw (le-ltb (word variable_kind i) word_most (omega arith))

pub clipped_least : (i : ℕ) → word variable_kind (min i workspace_most) ≡ clipped (word variable_kind i)
clipped_least i =
    elim (dec_lt i workspace_most) [
      | yes h ↦ ap (word variable_kind) {x = min i workspace_most} {y = i} (omega arith) ∙ clipped_variable i h
      | no h ↦ ap (word variable_kind) {x = min i workspace_most} {y = workspace_most} (omega arith) ∙ clipped_free i (omega arith)
    ]

pub clipped_plain : (k : ℕ) → k ≤ 2 → k ≡ clipped (word k 0)
unfolding clipped
clipped_plain k h = rw (lt-ltb (word k 0) word_most (omega arith)) (omega arith)

pub clipped-length : (ws : List ℕ) → length (all_clipped ws) ≡ length ws
clipped-length [] = refl
clipped-length (w ∷ ws) = ap suc (clipped-length ws)

pub clipped-more : (ws vs : List ℕ) → all_clipped (ws ++ vs) ≡ all_clipped ws ++ all_clipped vs
clipped-more [] vs = refl
clipped-more (w ∷ ws) vs = ap (λ us. clipped w ∷ us) (clipped-more ws vs)

sets_more : (ws : List ℕ) (i v : ℕ) (vs : List ℕ) → sets ws i (vs ++ v ∷ []) ≡ set (sets ws i vs) (i + length vs) v
sets_more ws i v [] = ap (λ k. set ws k v) {x = i} {y = i + 0} (omega arith)
sets_more ws i v (u ∷ vs) =
    let e : suc i + length vs ≡ i + suc (length vs) = omega arith in
    sets_more (set ws i u) (suc i) v vs ∙ ap (λ k. set (sets (set ws i u) (suc i) vs) k v) e

-- The scan stands at a bit: the words before it are put, so many terms are still to come, and the bits from there on tell what the whole encoding tells.
pub record Scanning (code : List Bool) (bits : ℕ) (words₀ words : List ℕ) (at terms count : ℕ) : Type 0 where
  pub code_length : length code ≡ bits
  pub done : List ℕ
  pub length_is : length done ≡ count
  pub put : words ≡ sets words₀ 0 (all_clipped done)
  pub tells : words_in code 0 1 ≡ map (λ ws. done ++ ws) (words_in (drop at code) 0 terms)
  pub inside : at ≤ bits
  pub counted : 2 * count ≤ at
  pub few : terms ≤ count + 1

pub scanning_start : (bytes : List ℕ) (bits : ℕ) (words : List ℕ) → bits ≤ byte_bits * length bytes → Scanning (take bits (unpacked bytes)) bits words words 0 1 0
scanning_start bytes bits words h =
    record {
      code_length = length-take-le bits (unpacked bytes) (omega (arith, length-unpacked bytes));
      done = [];
      length_is = refl;
      put = refl;
      tells = start (words_in (take bits (unpacked bytes)) 0 1);
      inside = omega arith;
      counted = omega arith;
      few = omega arith;
    }
  where
    start : (o : Option (List ℕ)) → o ≡ map (λ ws. [] ++ ws) o
    start none = refl
    start (some ws) = refl

module _ {code : List Bool} {bits : ℕ} {words₀ words : List ℕ} {at terms count : ℕ} (v : Scanning code bits words₀ words at terms count) where
  pub scanning_length : length words ≡ length words₀
  scanning_length = ap length v.put ∙ length-sets words₀ 0 (all_clipped v.done)

  -- One more word.
  next : (w terms' step : ℕ) → words_in (drop at code) 0 terms ≡ map (◌∷◌ w) (words_in (drop step (drop at code)) 0 terms')
      → 2 ≤ step → step ≤ length (drop at code) → terms' ≤ terms + 1 → (after : List ℕ) → after ≡ set words count (clipped w)
      → Scanning code bits words₀ after (at + step) terms' (count + 1)
  next w terms' step e two room t after s =
      record {
        code_length = v.code_length;
        done = v.done ++ (w ∷ []);
        length_is = length-append v.done (w ∷ []) ∙ omega (arith, v.length_is);
        put =
            s
            ∙ ap (λ ws. set ws count (clipped w)) v.put
            ∙ ap (λ k. set (sets words₀ 0 (all_clipped v.done)) k (clipped w)) here
            ∙ sym (sets_more words₀ 0 (clipped w) (all_clipped v.done))
            ∙ ap (sets words₀ 0) (sym (clipped-more v.done (w ∷ [])));
        tells =
            v.tells
            ∙ ap (map (λ ws. v.done ++ ws)) e
            ∙ onto (words_in (drop step (drop at code)) 0 terms')
            ∙ ap (λ bs. map (λ ws. (v.done ++ (w ∷ [])) ++ ws) (words_in bs 0 terms')) (drop-drop step at code);
        inside = omega (arith, length-drop at code, v.code_length, v.inside);
        counted = omega (arith, v.counted);
        few = omega (arith, v.few);
      }
    where
      here : count ≡ 0 + length (all_clipped v.done)
      here = omega (arith, clipped-length v.done, v.length_is)

      onto : (o : Option (List ℕ)) → map (λ ws. v.done ++ ws) (map (◌∷◌ w) o) ≡ map (λ ws. (v.done ++ (w ∷ [])) ++ ws) o
      onto none = refl
      onto (some ws) = ap some (sym (append_assoc v.done (w ∷ []) ws))

  -- No bits are left, or none are wanted.
  rest_none : bits ≤ at → drop at code ≡ []
  rest_none h = drop_of_length-le code {i = at} (omega (arith, v.code_length))

  all_told : {o : Option (List ℕ)} → words_in (drop at code) 0 terms ≡ o → words_in code 0 1 ≡ map (λ ws. v.done ++ ws) o
  all_told e = v.tells ∙ ap (map (λ ws. v.done ++ ws)) e

  pub left_over : terms ≡ 0 → at < bits → words_in code 0 1 ≡ none
  unfolding words_in
  left_over z h = all_told (go (drop at code) (omega (arith, length-drop at code, v.code_length)))
    where
      go : (bs : List Bool) → 0 < length bs → words_in bs 0 terms ≡ none
      go [] l = absurd (omega arith)
      go (b ∷ bs) l = rw z

  pub ended_early : (terms ≡ 0 → ⊥) → bits ≤ at → words_in code 0 1 ≡ none
  unfolding words_in
  ended_early n h = all_told {o = none} (rw (rest_none h) (go terms n))
    where
      go : (k : ℕ) → (k ≡ 0 → ⊥) → words_in [] 0 k ≡ none
      go zero m = absurd (m refl)
      go (suc k) m = refl

  pub whole : terms ≡ 0 → bits ≤ at → words_in code 0 1 ≡ some v.done
  unfolding words_in
  whole z h = all_told {o = some []} (rw (rest_none h, z)) ∙ ap some (append-nil v.done)

  pub scanned : bits ≤ at → Scans (words_in code 0 1) words₀ words (then_some (eqb terms 0) count)
  scanned h =
      elim (dec_le terms 0) [
        | yes z ↦ rw (eq-eqb terms 0 (omega arith)) (v.done, whole (omega arith) h, sym v.length_is, v.put)
        | no n ↦ rw (ne_eqb terms 0 (omega arith)) (ended_early (omega arith) h, room_of_length scanning_length)
      ]

  -- What the next token says.
  module _ (some_left : terms ≡ 0 → ⊥) where
    said : (t : Token) → t ≡ token (drop at code) → Says t (drop at code) (terms - 1)
    said t e = rw e (says (drop at code) (terms - 1))

    again : suc (terms - 1) ≡ terms
    again = omega (arith, some_left)

    pub said_early : early ≡ token (drop at code) → words_in code 0 1 ≡ none
    said_early e = all_told (rw again at (said early e))

    pub said_abstraction : abstraction ≡ token (drop at code) → (after : List ℕ) → after ≡ set words count 1 → Scanning code bits words₀ after (at + 2) terms (count + 1)
    said_abstraction e after s =
        let t = said abstraction e in
        next (word abstraction_kind 0) terms 2 (rw again at t.1) (omega arith) t.0 (omega arith) after (s ∙ ap (set words count) (clipped_plain 1 (omega arith)))

    pub said_application : application ≡ token (drop at code) → (after : List ℕ) → after ≡ set words count 2
        → Scanning code bits words₀ after (at + 2) (terms + 1) (count + 1)
    said_application e after s =
        let t = said application e in
        let more : suc (suc (terms - 1)) ≡ terms + 1 = omega (arith, some_left) in
        next (word application_kind 0) (terms + 1) 2 (rw (more, again) at t.1) (omega arith) t.0 (omega arith) after (s ∙ ap (set words count) (clipped_plain 2 (omega arith)))

    pub said_variable : (i : ℕ) → variable i ≡ token (drop at code) → (after : List ℕ) → after ≡ set words count (clipped (word variable_kind i))
        → Scanning code bits words₀ after (at + (i + 2)) (terms - 1) (count + 1)
    said_variable i e after s =
        let t = said (variable i) e in
        next (word variable_kind i) (terms - 1) (i + 2) (rw again at t.1) (omega arith) t.0 (omega arith) after s
