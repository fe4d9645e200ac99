-- Contraction inverted, by the expression: which contractions it has, from those of its parts (`invert`); and the leftmost one from those of its
-- parts (`leftmost_from_parts`), also where there is none (`two_none`, `root_none`).
use Prim.Native.Nat.{ℕ}
use mathlib.Core.Path.{◌≡◌, refl, ◌∙◌, ap, ap₂}
use mathlib.Core.Logic.{◌⊎◌, inl, inr, ◌↔◌}
use mathlib.Core.Option.{Option, some, none, map, or_else, map-eq-none_iff, some-ne-none}
use Rattle.calculus.specs.Term.{Sort, term, terms, branches, Exp, var, lam, app, con, case, num, nil, cons, end, branch, Term, Terms, Branches}
use Rattle.calculus.specs.Words.{size}
use Rattle.calculus.specs.Contraction.{Rule, Contracts, at_beta, at_case, at_numeral, in_body, in-function, in-argument, in-arguments, in-subject, in-branches, in-first, in-later, in-branch, in-later-branch}
use Rattle.calculus.specs.Conversion.{Contraction}
use Rattle.calculus.specs.Step.{contractum, Step, in_whole, at_first, first_of, first_step}
use Rattle.calculus.specs.Leftmost.{leftmost}

-- Some part contracts, and the whole becomes g with it; or the term itself does.
abbrev pub Inverted : {s : Sort} → Exp s → Exp s → Type 0
Inverted (var i) g = ⊥
Inverted (lam b) g = (b' : Term) × Contraction term b b' × (lam b' ≡ g)
Inverted (app f a) g =
    ((r : Rule) × (contractum (app f a) ≡ some (r, g)))
    ⊎ (((f' : Term) × Contraction term f f' × (app f' a ≡ g)) ⊎ ((a' : Term) × Contraction term a a' × (app f a' ≡ g)))
Inverted (con t xs) g = (xs' : Terms) × Contraction terms xs xs' × (con t xs' ≡ g)
Inverted (case e bs) g =
    ((r : Rule) × (contractum (case e bs) ≡ some (r, g)))
    ⊎ (((e' : Term) × Contraction term e e' × (case e' bs ≡ g)) ⊎ ((bs' : Branches) × Contraction branches bs bs' × (case e bs' ≡ g)))
Inverted (num n) g = (r : Rule) × (contractum (num n) ≡ some (r, g))
Inverted nil g = ⊥
Inverted (cons a xs) g = ((a' : Term) × Contraction term a a' × (cons a' xs ≡ g)) ⊎ ((xs' : Terms) × Contraction terms xs xs' × (cons a xs' ≡ g))
Inverted end g = ⊥
Inverted (branch t n b bs) g =
    ((b' : Term) × Contraction term b b' × (branch t n b' bs ≡ g)) ⊎ ((bs' : Branches) × Contraction branches bs bs' × (branch t n b bs' ≡ g))

pub invert : {s : Sort} {p : ℕ} {r : Rule} {e g : Exp s} → Contracts s p r e g → Inverted e g
invert {r = r} at_beta = inl (r, refl)
invert {r = r} (at_case h) = inl (r, ap (map _) h)
invert {r = r} at_numeral = (r, refl)
invert {r = r} (in_body {p = p} {b' = b} c) = (b, (p, r, c), refl)
invert {r = r} (in-function {p = p} {f' = f} c) = inr (inl (f, (p, r, c), refl))
invert {r = r} (in-argument {p = p} {a' = a} c) = inr (inr (a, (p, r, c), refl))
invert {r = r} (in-arguments {p = p} {xs' = xs} c) = (xs, (p, r, c), refl)
invert {r = r} (in-subject {p = p} {e' = e} c) = inr (inl (e, (p, r, c), refl))
invert {r = r} (in-branches {p = p} {bs' = bs} c) = inr (inr (bs, (p, r, c), refl))
invert {r = r} (in-first {p = p} {a' = a} c) = inl (a, (p, r, c), refl)
invert {r = r} (in-later {p = p} {xs' = xs} c) = inr (xs, (p, r, c), refl)
invert {r = r} (in-branch {p = p} {b' = b} c) = inl (b, (p, r, c), refl)
invert {r = r} (in-later-branch {p = p} {bs' = bs} c) = inr (bs, (p, r, c), refl)

-- The results of a step, of a rule, and of one or the other.
abbrev results : {A : Type 0} → Option (Step A) → Option A
results o = map (λ c. c.result) o

abbrev pub result : Option (Rule × Term) → Option Term
result o = map (λ c. c.1) o

first_results : {A : Type 0} (n : ℕ) (x y : Option (Step A)) → results (first_of n x y) ≡ or_else (results x) (results y)
unfolding or_else
first_results n none none = refl
first_results n none (some c) = refl
first_results n (some c) y = refl

part_results : {A B : Type 0} (f : A → B) (o : Option (Step A)) → results (map (in_whole f) o) ≡ map f (results o)
part_results f none = refl
part_results f (some c) = refl

root_results : (o : Option (Rule × Term)) → results (at_first o) ≡ result o
root_results none = refl
root_results (some c) = refl

two_results : {A B C : Type 0} (n : ℕ) (f : A → C) (x : Option (Step A)) (g : B → C) (y : Option (Step B))
    → results (first_of n (map (in_whole f) x) (map (in_whole g) y)) ≡ or_else (map f (results x)) (map g (results y))
two_results n f x g y =
    first_results n (map (in_whole f) x) (map (in_whole g) y) ∙ ap₂ or_else (part_results f x) (part_results g y)

-- Behind a word, one part or two.
word_results : {A B : Type 0} (f : A → B) (x : Option (Step A)) → results (first_of 1 none (map (in_whole f) x)) ≡ map f (results x)
unfolding or_else
word_results f x = first_results 1 none (map (in_whole f) x) ∙ part_results f x

word_two_results : {A B C : Type 0} (o : Option (Step C)) (n : ℕ) (f : A → C) (x : Option (Step A)) (g : B → C) (y : Option (Step B))
    → results (first_of 1 o (first_of n (map (in_whole f) x) (map (in_whole g) y)))
    ≡ or_else (results o) (or_else (map f (results x)) (map g (results y)))
word_two_results o n f x g y =
    first_results 1 o (first_of n (map (in_whole f) x) (map (in_whole g) y)) ∙ ap (or_else (results o)) (two_results n f x g y)

-- The leftmost contraction, from the contraction of the term itself and the leftmost ones of its parts.
abbrev pub from_parts : {s : Sort} → Exp s → Option (Exp s)
from_parts (var i) = none
from_parts (lam b) = map lam (leftmost b)
from_parts (app f a) = or_else (result (contractum (app f a))) (or_else (map (λ f'. app f' a) (leftmost f)) (map (app f) (leftmost a)))
from_parts (con t xs) = map (con t) (leftmost xs)
from_parts (case e bs) = or_else (result (contractum (case e bs))) (or_else (map (λ e'. case e' bs) (leftmost e)) (map (case e) (leftmost bs)))
from_parts (num n) = result (contractum (num n))
from_parts nil = none
from_parts (cons a xs) = or_else (map (λ a'. cons a' xs) (leftmost a)) (map (cons a) (leftmost xs))
from_parts end = none
from_parts (branch t n b bs) = or_else (map (λ b'. branch t n b' bs) (leftmost b)) (map (branch t n b) (leftmost bs))

-- Of an application and of a case: the term itself, then two parts.
root_two_results : {A B : Type 0} (t : Term) (n : ℕ) (f : A → Term) (x : Option (Step A)) (g : B → Term) (y : Option (Step B))
    → results (first_of 1 (at_first (contractum t)) (first_of n (map (in_whole f) x) (map (in_whole g) y)))
    ≡ or_else (result (contractum t)) (or_else (map f (results x)) (map g (results y)))
root_two_results t n f x g y =
    word_two_results (at_first (contractum t)) n f x g y
    ∙ ap (λ o. or_else o (or_else (map f (results x)) (map g (results y)))) (root_results (contractum t))

pub leftmost_from_parts : {s : Sort} (e : Exp s) → leftmost e ≡ from_parts e
unfolding leftmost first_step or_else
leftmost_from_parts (var i) = refl
leftmost_from_parts (lam b) = word_results lam (first_step b)
leftmost_from_parts (app f a) = root_two_results (app f a) (size f) (λ f'. app f' a) (first_step f) (app f) (first_step a)
leftmost_from_parts (con t xs) = word_results (con t) (first_step xs)
leftmost_from_parts (case e bs) = root_two_results (case e bs) (size e) (λ e'. case e' bs) (first_step e) (case e) (first_step bs)
leftmost_from_parts (num n) = refl
leftmost_from_parts nil = refl
leftmost_from_parts (cons a xs) = two_results (size a) (λ a'. cons a' xs) (first_step a) (cons a) (first_step xs)
leftmost_from_parts end = refl
leftmost_from_parts (branch t n b bs) =
    word_two_results none (size b) (λ b'. branch t n b' bs) (first_step b) (branch t n b) (first_step bs)

-- There is no leftmost contraction exactly where no rule applies to the term itself and there is none in a part.
pub or_else_none : {A : Type 0} (x y : Option A) → (or_else x y ≡ none) ↔ ((x ≡ none) × (y ≡ none))
unfolding or_else
or_else_none none y = (λ q. (refl, q), λ (p, q). q)
or_else_none (some a) y = (λ q. absurd (some-ne-none a q), λ (p, q). absurd (some-ne-none a p))

pub two_none : {A B C : Type 0} (f : A → C) (x : Option A) (g : B → C) (y : Option B)
    → (or_else (map f x) (map g y) ≡ none) ↔ ((x ≡ none) × (y ≡ none))
two_none f x g y =
    let h = or_else_none (map f x) (map g y) in
    let k = map-eq-none_iff f x in
    let l = map-eq-none_iff g y in
    (λ q. (k.0 (h.0 q).0, l.0 (h.0 q).1), λ (p, q). h.1 (k.1 p, l.1 q))

pub root_none : {A B : Type 0} (t : Term) (f : A → Term) (x : Option A) (g : B → Term) (y : Option B)
    → (or_else (result (contractum t)) (or_else (map f x) (map g y)) ≡ none) ↔ ((contractum t ≡ none) × (x ≡ none) × (y ≡ none))
root_none t f x g y =
    let h = or_else_none (result (contractum t)) (or_else (map f x) (map g y)) in
    let k = map-eq-none_iff (λ c. c.1) (contractum t) in
    let l = two_none f x g y in
    (λ q. let (a, b) = l.0 (h.0 q).1 in (k.0 (h.0 q).0, a, b), λ (p, a, b). h.1 (k.1 p, l.1 (a, b)))
