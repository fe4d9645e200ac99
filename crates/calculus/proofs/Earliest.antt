-- The first step among those at the positions of a sequence, from its parts. Nothing here speaks of terms.
use Prim.Native.Nat.{ℕ, zero, suc, ◌+◌, ◌-◌, ◌≤◌, ◌<◌}
use mathlib.Core.Path.{◌≡◌, refl, ◌∙◌, ap}
use mathlib.Core.Bool.{Bool, true, false, cond}
use mathlib.Core.Option.{Option, some, none, map, or_else}
use lib.Dec.{ltb}
use borrow.Author.Tests.{lt-ltb, le-ltb, ltb-false}
use native.Mathlib.Omega.{arith}
use Rattle.calculus.specs.Contraction.{Rule}
use Rattle.calculus.specs.Step.{Step, in_whole, at_first, first_of}
use Rattle.calculus.specs.Position.{through}

-- What a test of positions chooses where the position lies in the part of n words, and where it lies p words behind it.
pub choose_part : {A : Type 0} {p n : ℕ} (x y : A) → p < n → cond (ltb p n) x y ≡ x
choose_part {p = p} {n} x y h = rw (lt-ltb p n h)

pub choose_behind : {A : Type 0} (n p : ℕ) (x : A) (f : ℕ → A) → cond (ltb (n + p) n) x (f (n + p - n)) ≡ f p
choose_behind n p x f =
    let e : n + p - n ≡ p = omega arith in
    rw (le-ltb (n + p) n (omega arith), e)

-- The step given, if there is one, is the one at the first position that has one; none says that no position has one.
pub data Earliest {A : Type 0} (f : ℕ → Option (Rule × A)) : Option (Step A) → Type 0 where
  never : ((q : ℕ) → f q ≡ none) → Earliest f none
  first : {c : Step A} → f c.position ≡ some (c.rule, c.result) → ((q : ℕ) → q < c.position → f q ≡ none) → Earliest f (some c)

pub earliest_through : {A B : Type 0} {f : ℕ → Option (Rule × A)} {o : Option (Step A)} (g : A → B) → Earliest f o
    → Earliest (λ p. map (through g) (f p)) (map (in_whole g) o)
earliest_through g (never h) = never (λ q. ap (map (through g)) (h q))
earliest_through g (first e h) = first (ap (map (through g)) e) (λ q l. ap (map (through g)) (h q l))

-- One position and those behind it.
pub earliest_word : {A : Type 0} {g : ℕ → Option (Rule × A)} {o : Option (Step A)} (f : ℕ → Option (Rule × A)) → ((p : ℕ) → f (suc p) ≡ g p)
    → Earliest g o → Earliest f (first_of 1 (at_first (f zero)) o)
unfolding or_else
earliest_word {A} {g} f tail h = go (f zero) refl h
  where
    below : (q : ℕ) → f zero ≡ none → ((p : ℕ) → p < q → g p ≡ none) → (p : ℕ) → p < 1 + q → f p ≡ none
    below q e k zero l = e
    below q e k (suc p) l = tail p ∙ k p (omega arith)

    next : (p : ℕ) → f (1 + p) ≡ g p
    next p = let e : 1 + p ≡ suc p = omega arith in ap f e ∙ tail p

    go : {o : Option (Step A)} (x : Option (Rule × A)) → f zero ≡ x → Earliest g o → Earliest f (first_of 1 (at_first x) o)
    go (some c) e k = first e (λ q l. absurd (omega arith))
    go none e (never k) = never (elim [ zero ↦ e | suc p ↦ tail p ∙ k p ])
    go none e (first {c = c} d k) = first (next c.position ∙ d) (below c.position e k)

-- The positions below n and those from n on.
pub earliest_append : {A : Type 0} {f g : ℕ → Option (Rule × A)} {o o' : Option (Step A)} (n : ℕ) → ((p : ℕ) (c : Rule × A) → f p ≡ some c → p < n)
    → Earliest f o → Earliest g o' → Earliest (λ p. cond (ltb p n) (f p) (g (p - n))) (first_of n o o')
unfolding or_else
earliest_append {A} {f} {g} n within h k = go h k
  where
    absent : (p : ℕ) → f p ≡ none → (n ≤ p → g (p - n) ≡ none) → cond (ltb p n) (f p) (g (p - n)) ≡ none
    absent p e d = choose (ltb p n) refl
      where
        choose : (b : Bool) → ltb p n ≡ b → cond b (f p) (g (p - n)) ≡ none
        choose true t = e
        choose false t = d (ltb-false p n t)

    go : {o o' : Option (Step A)} → Earliest f o → Earliest g o' → Earliest (λ p. cond (ltb p n) (f p) (g (p - n))) (first_of n o o')
    go (never e) (never d) = never (λ q. absent q (e q) (λ l. d (q - n)))
    go (never e) (first {c = c} d k) =
        first (choose_behind n c.position _ g ∙ d) (λ q l. absent q (e q) (λ m. k (q - n) (omega arith)))
    go (first {c = c} e h) k =
        let l = within c.position (c.rule, c.result) e in
        first (choose_part _ _ l ∙ e) (λ q m. absent q (h q m) (λ l'. absurd (omega arith)))
