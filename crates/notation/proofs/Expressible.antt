-- The terms that have a line are those of variables, abstractions and applications with indices up to 32,767.
use Prim.Native.Nat.{ℕ, zero, suc, ◌+◌, ◌*◌, ◌/◌, ◌%◌, ◌≤◌, ◌<◌}
use mathlib.Core.Path.{◌≡◌}
use mathlib.Core.List.{List, [], ◌∷◌}
use native.Mathlib.Omega.{arith}
use native.Mathlib.Nat.{mod-lt, div-add-mod', div-lt_iff_lt-mul, le-div_iff_mul-le}
use native.Mathlib.Decide.{dec_lt}
use Rattle.calculus.specs.Term.{Term, var, lam, app, con, case, num}
use Rattle.calculus.specs.Accepted.{index_limit}
use Rattle.notation.specs.Theorems.{Expressible, ExpressibleExact}
use Rattle.notation.specs.Grammar.{zero_digit, Digits, no_digit, digit, Index, zero_itself, no_leading_zero, Place, anywhere, last, Category, item, Spells, index, parentheses, abstraction, one, applied}

-- Powers of ten.
data Tens : ℕ → Type 0 where
  unit : Tens 1
  ten : {p : ℕ} → Tens p → Tens (p * 10)

positive : {p : ℕ} → Tens p → 0 < p
positive unit = omega arith
positive (ten t) = omega (arith, positive t)

digits : {p : ℕ} (n : ℕ) → Tens p → n < p → (bs : List ℕ) × Digits bs p n
digits n unit h = let e : 0 ≡ n = omega arith in ([], rw e at no_digit)
digits n (ten {p} t) h =
    let r = digits (n % p) t (mod-lt n (positive t)) in
    let q : n / p < 10 = (div-lt_iff_lt-mul (positive t)).1 (omega arith) in
    ((zero_digit + n / p) ∷ r.0, rw (div-add-mod' n p) at (digit {d = n / p} (omega arith) r.1))

leading : {p : ℕ} (n : ℕ) → Tens p → p ≤ n → n < p * 10 → n ≤ index_limit → (bs : List ℕ) × Index bs n
leading {p} n t g h l =
    let r = digits (n % p) t (mod-lt n (positive t)) in
    let q : n / p < 10 = (div-lt_iff_lt-mul (positive t)).1 (omega arith) in
    let o : 1 ≤ n / p = (le-div_iff_mul-le (positive t)).1 (omega arith) in
    ((zero_digit + n / p) ∷ r.0, rw (div-add-mod' n p) at (no_leading_zero o (omega arith) r.1 (rw (div-add-mod' n p) l)))

decimal : (n : ℕ) → n ≤ index_limit → (bs : List ℕ) × Index bs n
decimal zero l = (zero_digit ∷ [], zero_itself)
decimal (suc n) l = first unit (λ h. first (ten unit) (λ h. first (ten (ten unit)) (λ h. first (ten (ten (ten unit))) (λ h. first (ten (ten (ten (ten unit)))) (λ h. absurd (omega arith)) h) h) h) h) (omega arith)
  where
    first : {p : ℕ} → Tens p → (p * 10 ≤ suc n → (bs : List ℕ) × Index bs (suc n)) → p ≤ suc n → (bs : List ℕ) × Index bs (suc n)
    first {p} t k g = go (dec_lt (suc n) (p * 10))
      where
        go : Dec (suc n < p * 10) → (bs : List ℕ) × Index bs (suc n)
        go (yes h) = leading (suc n) t g h l
        go (no h) = k (omega arith)

spelled : (t : Term) (p : Place) → Expressible t → (bs : List ℕ) × Spells item p bs t
spelled (var i) p h = let r = decimal i h in (r.0, index r.1)
spelled (lam b) p h = let r = spelled b last h in (_, parentheses (one (abstraction (one r.1))))
spelled (app f a) p h =
    let r = spelled f anywhere h.0 in
    let s = spelled a last h.1 in
    (_, parentheses (applied (one r.1) s.1))
spelled (con t xs) p h = absurd h.0
spelled (case e bs) p h = absurd h.0
spelled (num n) p h = absurd h

index_small : {bs : List ℕ} {i : ℕ} → Index bs i → i ≤ index_limit
index_small zero_itself = omega arith
index_small (no_leading_zero h g ds l) = l

pub spells_expressible : {f : Category} {p : Place} {bs : List ℕ} {t : Term} → Spells f p bs t → Expressible t
spells_expressible (index i) = index_small i
spells_expressible (parentheses s) = spells_expressible s
spells_expressible (abstraction s) = spells_expressible s
spells_expressible (one s) = spells_expressible s
spells_expressible (applied s u) = (spells_expressible s, spells_expressible u)

pub expressible_exact : ExpressibleExact
expressible_exact t = (λ l. spells_expressible l.1, λ h. let r = spelled t last h in (r.0, one r.1))
