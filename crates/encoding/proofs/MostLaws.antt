-- The most bits that a combinator of so many words has. A variable has at most one bit more than there are abstractions around it, and each variable but
-- one takes an application too: the sum is largest where a quarter of the words are variables.
use Prim.Native.Nat.{ℕ, zero, suc, ◌+◌, ◌*◌, ◌≤◌}
use mathlib.Core.Bool.{true, false}
use mathlib.Core.List.{[], ◌∷◌}
use native.Mathlib.Nat.{mul-le-mul_left}
use native.Mathlib.Omega.{arith}
use lib.ListN.{length, replicate, length-append, length-replicate}
use Rattle.calculus.specs.Term.{Term, var, lam, app, con, case, num}
use Rattle.calculus.specs.Words.{words, size}
use Rattle.encoding.specs.Bits.{bits, CombinatorUnder}
use Rattle.encoding.specs.Theorems.{BitsMost}

-- n variables are among the words of t, and this bounds its bits under d binders.
record Counted (d : ℕ) (t : Term) (n : ℕ) : Type 0 where
  few : 2 * n ≤ size t + 1
  most : length (bits t) + 2 * (n * n) ≤ n * (d + size t) + 2 * size t

-- Of an application, by its parts.
together : (d m n s r b c : ℕ) → 2 * m ≤ s + 1 → 2 * n ≤ r + 1 → b + 2 * (m * m) ≤ m * (d + s) + 2 * s → c + 2 * (n * n) ≤ n * (d + r) + 2 * r
    → suc (suc (b + c)) + 2 * ((m + n) * (m + n)) ≤ (m + n) * (d + suc (s + r)) + 2 * suc (s + r)
together d m n s r b c few few' most most' = omega (arith, most, most', mul-le-mul_left m few', mul-le-mul_left n few)

counted : (d : ℕ) (t : Term) → CombinatorUnder d t → (n : ℕ) × Counted d t n
counted d (var i) h =
    (1, record { few = omega arith; most = omega (arith, h, length-append (replicate (suc i) true) (false ∷ []), length-replicate (suc i) true) })
counted d (lam b) h =
    let c = counted (suc d) b h in
    let n = c.0 in
    (n, record { few = omega (arith, c.1.few); most = omega (arith, c.1.most) })
counted d (app f a) h =
    let x = counted d f h.0 in
    let y = counted d a h.1 in
    let s = length-append (words f) (words a) in (
      x.0 + y.0,
      record {
        few = omega (arith, x.1.few, y.1.few, s);
        most =
            rw (length-append (bits f) (bits a), s)
            (together d x.0 y.0 (size f) (size a) (length (bits f)) (length (bits a)) x.1.few y.1.few x.1.most y.1.most);
      },
    )
counted d (con t xs) h = absurd h.0
counted d (case e bs) h = absurd h.0
counted d (num n) h = absurd h

squares : (a b : ℕ) → 2 * (a * b) ≤ a * a + b * b
squares zero b = omega arith
squares (suc a) zero = omega arith
squares (suc a) (suc b) = omega (arith, squares a b)

pub bits_most : BitsMost
bits_most t h =
    let c = counted 0 t h in
    omega (arith, c.1.most, squares (4 * c.0) (size t))
