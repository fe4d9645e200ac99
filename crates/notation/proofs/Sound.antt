-- What the reader reads, the grammar gives: whatever stands behind a position is made of items.
use Prim.Native.Nat.{ℕ, zero, suc, ◌+◌, ◌*◌, ◌≤◌, ◌<◌}
use mathlib.Core.Path.{◌≡◌, refl, sym, ap}
use mathlib.Core.Bool.{Bool, true, false, cond, ◌&&◌, ◌||◌}
use mathlib.Core.List.{List, [], ◌∷◌, ◌++◌, append_assoc, append-nil}
use mathlib.Core.Option.{some, none}
use native.Mathlib.Omega.{arith}
use native.Mathlib.Nat.{mul-le-mul_right}
use lib.Dec.{leb, eqb}
use borrow.Author.Tests.{leb-true, eqb-true}
use Rattle.calculus.specs.Term.{Term}
use Rattle.calculus.specs.Accepted.{index_limit}
use Rattle.calculus.specs.Words.{word, variable_kind, abstraction_kind, application_kind, words}
use Rattle.calculus.proofs.All.{All, nothing, holds, all-bind, all_some}
use Rattle.notation.specs.Grammar.{space, opening, closing, zero_digit, backslash, Digits, no_digit, digit, Index, zero_itself, no_leading_zero, Place, anywhere, last, Category, item, items, Spells, index, parentheses, abstraction, one, applied, Line}
use Rattle.notation.specs.Reader.{Sign, State, wanted, number, begun, begins, apply, is_index, settle, on_digit, on_close, popped, on_begun, step, scan, finish, line_words}
use Rattle.notation.proofs.SignLaws.{Is, a_digit, a_gap, an_opening, a_closing, a_lambda, no_sign, sign_is}
use Rattle.notation.proofs.Complete.{Fits}

-- What may follow an item, with the counts and the words that are read of it.
data After : List ℕ → ℕ → List ℕ → List ℕ → Type 0 where
  nothing_more : After [] 0 [] []
  closed : {bs ns ws : List ℕ} {n : ℕ} → After bs n ns ws → After (closing ∷ bs) 0 (n ∷ ns) ws
  more : {p : Place} {bs cs ns ws : List ℕ} {n : ℕ} {a : Term} → Spells item p bs a → Fits p n → After cs n ns ws
      → After (space ∷ (bs ++ cs)) (suc n) ns (words a ++ ws)

data Started : List ℕ → ℕ → List ℕ → List ℕ → Type 0 where
  starts : {p : Place} {bs cs ns ws : List ℕ} {n : ℕ} {a : Term} → Spells item p bs a → Fits p n → After cs n ns ws
      → Started (bs ++ cs) n ns (words a ++ ws)

data Going : List ℕ → (v p : ℕ) → ℕ → List ℕ → List ℕ → Type 0 where
  goes : {bs cs ns ws : List ℕ} {n v p : ℕ} → Digits bs p v → 10 ≤ p → After cs n ns ws → Going (bs ++ cs) v p n ns ws

abbrev Sound : List ℕ → State → Type 0
Sound bs (wanted n ns ws) = After bs n ns ws
Sound bs (number v p n ns ws) = Going bs v p n ns ws
Sound bs (begun n ns ws) = Started bs n ns ws

-- Numbers.
digits_below : {bs : List ℕ} {p v : ℕ} → Digits bs p v → v < p
digits_below no_digit = omega arith
digits_below (digit {d = d} {p = p} h ds) = omega (arith, mul-le-mul_right p h, digits_below ds)

no_digits : {bs : List ℕ} {p v : ℕ} → Digits bs p v → p ≡ 1 → (bs ≡ []) × (v ≡ 0)
no_digits no_digit e = (refl, refl)
no_digits (digit h ds) e = absurd (omega (arith, digits_below ds))

an_index : {bs : List ℕ} {p v : ℕ} → Digits bs p v → 10 ≤ p → v ≤ index_limit → p ≤ v * 10 → Index bs v
an_index no_digit h l g = absurd (omega arith)
an_index (digit {d = zero} f ds) h l g = absurd (omega (arith, digits_below ds))
an_index (digit {d = suc d} f ds) h l g = no_leading_zero {d = suc d} (omega arith) f ds l

one_digit : {bs : List ℕ} {p v : ℕ} → Digits bs p v → v ≤ index_limit → p ≡ 10 → Index bs v
one_digit no_digit l e = absurd (omega arith)
one_digit (digit {d = zero} {p = p} {n = v} f ds) l e =
    let r = no_digits ds (omega arith) in let z : 0 * p + v ≡ 0 = omega (arith, r.1) in rw (z, r.0) zero_itself
one_digit (digit {d = suc d} f ds) l e = no_leading_zero {d = suc d} (omega arith) f ds l

-- The places: an item that may stand anywhere may stand last.
as_last : {f : Category} {p : Place} {bs : List ℕ} {t : Term} → Spells f p bs t → Spells f last bs t
as_last (index i) = index i
as_last (parentheses s) = parentheses s
as_last (abstraction s) = abstraction s
as_last (one s) = one (as_last s)
as_last (applied s u) = applied s (as_last u)

-- A whole term in front of what is behind it in the terms around it.
data Whole : List ℕ → List ℕ → List ℕ → Type 0 where
  whole : {bs cs ns ws : List ℕ} {t : Term} → Line bs t → After cs 0 ns ws → Whole (bs ++ cs) ns (words t ++ ws)

pub apply_suc : (n : ℕ) (ws : List ℕ) → apply (suc n) ws ≡ apply n (word application_kind 0 ∷ ws)
apply_suc zero ws = refl
apply_suc (suc n) ws = ap (λ (vs : List ℕ). word application_kind 0 ∷ vs) (apply_suc n ws)

gather : {p : Place} {bs cs ns ws : List ℕ} {n : ℕ} {f : Term} → Spells items p bs f → Fits p n → After cs n ns ws → Whole (bs ++ cs) ns (apply n (words f ++ ws))
gather s h nothing_more = whole (as_last s) nothing_more
gather s h (closed r) = whole (as_last s) (closed r)
gather {p = anywhere} {bs = bs} {f = f} s h (more {p = p} {bs = cs} {cs = ds} {ws = ws} {n = n} {a = a} u g r) =
    rw (apply_suc n (words f ++ (words a ++ ws)), ← append_assoc (words f) (words a) ws, ← append_assoc bs (space ∷ cs) ds) (gather {p = p} (applied s u) g r)
gather {p = last} s h (more u g r) = absurd (omega arith)

started_whole : {bs ns ws : List ℕ} {n : ℕ} → Started bs n ns ws → Whole bs ns (apply n ws)
started_whole (starts s h r) = gather (one s) h r

-- A state that an item starts in.
begin_index : {bs : List ℕ} {p v n : ℕ} {ns ws : List ℕ} → Digits bs p v → 10 ≤ p → (x y z : Bool) → leb v index_limit ≡ x → leb p (v * 10) ≡ y → eqb p 10 ≡ z
    → {cs : List ℕ} → After cs n ns ws
    → All (λ b. Started (bs ++ cs) b.count b.stack b.words) (cond (x && (y || z)) (some (begins n ns (word variable_kind v ∷ ws))) none)
begin_index {p = p} {v = v} ds h true true z e f g r =
    holds (starts {p = anywhere} (index (an_index ds h (leb-true v index_limit e) (leb-true p (v * 10) f))) tt r)
begin_index {p = p} {v = v} ds h true false true e f g r =
    holds (starts {p = anywhere} (index (one_digit ds (leb-true v index_limit e) (eqb-true p 10 g))) tt r)
begin_index ds h true false false e f g r = nothing
begin_index ds h false y z e f g r = nothing

settle_sound : {bs : List ℕ} (σ : State) → Sound bs σ → All (λ b. Started bs b.count b.stack b.words) (settle σ)
unfolding settle is_index
settle_sound (wanted n ns ws) r = nothing
settle_sound (number v p n ns ws) (goes ds h r) = begin_index ds h _ _ _ refl refl refl r
settle_sound (begun n ns ws) r = holds r

closing_sound : {bs : List ℕ} (σ : State) → Sound bs σ → All (Sound (closing ∷ bs)) (on_close σ)
unfolding on_close
closing_sound (wanted n ns ws) r = holds (closed r)
closing_sound (number v p n ns ws) r = nothing
closing_sound (begun n ns ws) r = nothing

pub all_cond : {A : Type 0} {P : A → Type 0} (a : A) (x : Bool) → P a → All P (cond x (some a) none)
all_cond a true p = holds p
all_cond a false p = nothing

digit_sound : {bs : List ℕ} (d : ℕ) (σ : State) → d ≤ 9 → Sound bs σ → All (Sound ((zero_digit + d) ∷ bs)) (on_digit d σ)
unfolding on_digit
digit_sound d (wanted n ns ws) h r =
    let e : d * 1 + 0 ≡ d = omega arith in holds (goes (rw e at (digit h no_digit)) (omega arith) r)
digit_sound d (number v p n ns ws) h (goes ds g r) = all_cond _ (leb p index_limit) (goes (digit h ds) (omega arith) r)
digit_sound d (begun n ns ws) h r = nothing

space_sound : {bs ns ws : List ℕ} {n : ℕ} → Started bs n ns ws → After (space ∷ bs) (suc n) ns ws
space_sound (starts s h r) = more s h r

lambda_sound : {bs ns ws : List ℕ} → Whole bs ns ws → Started (backslash ∷ bs) 0 ns (word abstraction_kind 0 ∷ ws)
lambda_sound (whole s r) = starts (abstraction s) refl r

opening_sound : {bs ns ws : List ℕ} → Whole bs ns ws → All (Sound (opening ∷ bs)) (popped ns ws)
unfolding popped
opening_sound (whole s nothing_more) = nothing
opening_sound (whole {bs = bs} s (closed {bs = cs} r)) = holds (rw (append_assoc bs (closing ∷ []) cs) at (starts {p = anywhere} (parentheses s) tt r))

step_sound : {b : ℕ} {s : Sign} {bs : List ℕ} (σ : State) → Is b s → Sound bs σ → All (Sound (b ∷ bs)) (step s σ)
unfolding step on_begun
step_sound σ (a_digit d e h) r = rw e (digit_sound d σ h r)
step_sound σ (a_closing e) r = rw e (closing_sound σ r)
step_sound σ (a_gap e) r = rw e (all-bind _ (settle_sound σ r) (λ b q. holds (space_sound q)))
step_sound σ (a_lambda e) r = rw e (all-bind _ (settle_sound σ r) (λ b q. holds (lambda_sound (started_whole q))))
step_sound σ (an_opening e) r = rw e (all-bind _ (settle_sound σ r) (λ b q. opening_sound (started_whole q)))
step_sound σ no_sign r = all-bind _ (settle_sound σ r) (λ b q. nothing)

scan_sound : (bs : List ℕ) → All (Sound bs) (scan bs)
unfolding scan
scan_sound [] = holds nothing_more
scan_sound (b ∷ bs) = all-bind _ (scan_sound bs) (λ σ r. step_sound σ (sign_is b) r)

-- What the reader hands out.
abbrev pub Given : List ℕ → List ℕ → Type 0
Given bs vs = (t : Term) × Line bs t × (words t ≡ vs)

finish_sound : {bs ns ws : List ℕ} → Whole bs ns ws → All (Given bs) (finish ns ws)
unfolding finish
finish_sound (whole {bs = bs} {t = t} s nothing_more) = holds (t, rw (sym (append-nil bs)) at s, sym (append-nil (words t)))
finish_sound (whole s (closed r)) = nothing

pub words_sound : (bs : List ℕ) {vs : List ℕ} → line_words bs ≡ some vs → Given bs vs
unfolding line_words
words_sound bs q =
    all_some (rw q at (all-bind _ (scan_sound bs) (λ σ r. all-bind _ (settle_sound σ r) (λ b h. finish_sound (started_whole h)))))
