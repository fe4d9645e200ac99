-- A property of what an option holds, if it holds anything. Its laws follow the functions that compute options, so that a property of a
-- result is proved in the order in which the result is made, with no equation to take apart.
use Prim.Native.Nat.{ℕ, ◌≤◌, ◌<◌}
use mathlib.Core.Path.{◌≡◌, refl}
use mathlib.Core.Bool.{Bool, true, false, cond}
use mathlib.Core.Logic.{ite}
use mathlib.Core.Option.{Option, some, none, map, get_or, bind, some-ne-none}
use lib.Dec.{T, ltb, eqb, eqb→eq}
use borrow.Author.Tests.{ltb-true, ltb-false}

pub data All {A : Type 0} (P : A → Type 0) : Option A → Type 0 where
  nothing : All P none
  holds : {a : A} → P a → All P (some a)

pub all_map : {A B : Type 0} {P : A → Type 0} {Q : B → Type 0} (f : A → B) {o : Option A} → All P o → ((a : A) → P a → Q (f a)) → All Q (map f o)
all_map f nothing g = nothing
all_map f (holds {a} p) g = holds (g a p)

pub all-bind : {A B : Type 0} {P : A → Type 0} {Q : B → Type 0} (f : A → Option B) {o : Option A} → All P o → ((a : A) → P a → All Q (f a)) → All Q (bind o f)
unfolding bind
all-bind f nothing g = nothing
all-bind f (holds {a} p) g = g a p

pub all-eqb : {A : Type 0} {P : A → Type 0} (m n : ℕ) {x y : Option A} → (m ≡ n → All P x) → All P y → All P (cond (eqb m n) x y)
all-eqb {P = P} m n {x} {y} p q = go (eqb m n) (λ t. p (eqb→eq m n t))
  where
    go : (b : Bool) → (T b → All P x) → All P (cond b x y)
    go true r = r tt
    go false r = q

pub all-ltb : {A : Type 0} {P : A → Type 0} (m n : ℕ) {x y : Option A} → (m < n → All P x) → (n ≤ m → All P y) → All P (cond (ltb m n) x y)
all-ltb {P = P} m n {x} {y} p q = go (ltb m n) refl
  where
    go : (b : Bool) → ltb m n ≡ b → All P (cond b x y)
    go true e = p (ltb-true m n e)
    go false e = q (ltb-false m n e)

pub all_ite : {A C : Type 0} {P : A → Type 0} (d : Dec C) (a : A) → (C → P a) → All P (ite d (some a) none)
all_ite (yes c) a p = holds (p c)
all_ite (no c) a p = nothing

pub all_weaken : {A : Type 0} {P Q : A → Type 0} {o : Option A} → All P o → ((a : A) → P a → Q a) → All Q o
all_weaken nothing g = nothing
all_weaken (holds {a} p) g = holds (g a p)

pub all_itself : {A : Type 0} (o : Option A) → All (λ a. o ≡ some a) o
all_itself none = nothing
all_itself (some a) = holds refl

pub all_some : {A : Type 0} {P : A → Type 0} {a : A} → All P (some a) → P a
all_some (holds p) = p

-- A relation of what two options hold: both hold something and it is related, or neither does.
pub data Both {A B : Type 0} (R : A → B → Type 0) : Option A → Option B → Type 0 where
  neither : Both R none none
  each : {a : A} {b : B} → R a b → Both R (some a) (some b)

pub both_map : {A B C D : Type 0} {R : A → B → Type 0} {S : C → D → Type 0} (f : A → C) (g : B → D) {o : Option A} {o' : Option B}
    → Both R o o' → ((a : A) (b : B) → R a b → S (f a) (g b)) → Both S (map f o) (map g o')
both_map f g neither h = neither
both_map f g (each {a} {b} r) h = each (h a b r)

pub both_cond : {A B : Type 0} {R : A → B → Type 0} (t : Bool) {x y : Option A} {x' y' : Option B} → Both R x x' → Both R y y'
    → Both R (cond t x y) (cond t x' y')
both_cond true p q = p
both_cond false p q = q

pub both_get_d : {A B : Type 0} {R : A → B → Type 0} {o : Option A} {o' : Option B} {a : A} {b : B} → Both R o o' → R a b
    → R (get_or o a) (get_or o' b)
both_get_d neither r = r
both_get_d (each r) s = r

pub both_sym : {A B : Type 0} {R : A → B → Type 0} {S : B → A → Type 0} {o : Option A} {o' : Option B} → Both R o o'
    → ((a : A) (b : B) → R a b → S b a) → Both S o' o
both_sym neither h = neither
both_sym (each {a} {b} r) h = each (h a b r)

-- What the one holds, the other does too; where the one holds nothing, neither does the other.
pub both_some : {A B : Type 0} {R : A → B → Type 0} {o : Option A} {b : B} → Both R o (some b) → (a : A) × (o ≡ some a) × R a b
both_some (each {a} r) = (a, refl, r)

pub both_none : {A B : Type 0} {R : A → B → Type 0} {o : Option A} {o' : Option B} → Both R o o' → o ≡ none → o' ≡ none
both_none neither q = refl
both_none (each {a} r) q = absurd (some-ne-none a q)
