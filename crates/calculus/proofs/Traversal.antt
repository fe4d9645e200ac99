-- Laws of traversals, which put a term for each variable by its index and the binders crossed. One law, of a traversal after another, gives the
-- laws of shift and substitution after one another.
use Prim.Native.Nat.{ℕ, suc, ◌+◌, ◌≤◌, ◌<◌}
use mathlib.Core.Path.{◌≡◌, refl, ◌∙◌, ap, ap₂}
use mathlib.Core.Bool.{Bool, true, false}
use native.Mathlib.Omega.{arith}
use lib.Dec.{ltb}
use borrow.Author.Tests.{ltb-true, ltb-false}
use Rattle.calculus.specs.Term.{Sort, Exp, var, lam, app, con, case, num, nil, cons, end, branch, Term}
use Rattle.calculus.specs.Traverse.{traverse}

-- A traversal after another is one traversal if it is so at variables. The later one starts c binders further in.
module _ (f g h : ℕ → ℕ → Term) (c : ℕ) (variable : (d d' i : ℕ) → d' ≡ d + c → traverse g d' (f d i) ≡ h d i) where
  pub traverse-after : {s : Sort} (d d' : ℕ) (e : Exp s) → d' ≡ d + c → traverse g d' (traverse f d e) ≡ traverse h d e
  traverse-after d d' (var i) q = variable d d' i q
  traverse-after d d' (lam b) q = ap lam (traverse-after (suc d) (suc d') b (omega arith))
  traverse-after d d' (app u a) q = ap₂ app (traverse-after d d' u q) (traverse-after d d' a q)
  traverse-after d d' (con t xs) q = ap (con t) (traverse-after d d' xs q)
  traverse-after d d' (case e bs) q = ap₂ case (traverse-after d d' e q) (traverse-after d d' bs q)
  traverse-after d d' (num n) q = refl
  traverse-after d d' nil q = refl
  traverse-after d d' (cons a xs) q = ap₂ cons (traverse-after d d' a q) (traverse-after d d' xs q)
  traverse-after d d' end q = refl
  traverse-after d d' (branch t n b bs) q = ap₂ (branch t n) (traverse-after (d + n) (d' + n) b (omega arith)) (traverse-after d d' bs q)

-- The same for two that start under equally many binders.
pub traverse-traverse : (f g h : ℕ → ℕ → Term) → ((d i : ℕ) → traverse g d (f d i) ≡ h d i)
    → {s : Sort} (d : ℕ) (e : Exp s) → traverse g d (traverse f d e) ≡ traverse h d e
traverse-traverse f g h variable d e =
    traverse-after f g h 0 (λ d d' i q. ap (λ c. traverse g c (f d i)) (omega arith) ∙ variable d i) d d e (omega arith)

-- A traversal that puts each variable for itself changes nothing.
module _ (f : ℕ → ℕ → Term) (variable : (d i : ℕ) → f d i ≡ var i) where
  pub traverse-identity : {s : Sort} (d : ℕ) (e : Exp s) → traverse f d e ≡ e
  traverse-identity d (var i) = variable d i
  traverse-identity d (lam b) = ap lam (traverse-identity (suc d) b)
  traverse-identity d (app u a) = ap₂ app (traverse-identity d u) (traverse-identity d a)
  traverse-identity d (con t xs) = ap (con t) (traverse-identity d xs)
  traverse-identity d (case e bs) = ap₂ case (traverse-identity d e) (traverse-identity d bs)
  traverse-identity d (num n) = refl
  traverse-identity d nil = refl
  traverse-identity d (cons a xs) = ap₂ cons (traverse-identity d a) (traverse-identity d xs)
  traverse-identity d end = refl
  traverse-identity d (branch t n b bs) = ap₂ (branch t n) (traverse-identity (d + n) b) (traverse-identity d bs)

-- An index is bound by one of the d binders crossed, or it lies past them.
pub below_or_above : {P : Type 0} (i d : ℕ) → (i < d → P) → (d ≤ i → P) → P
below_or_above {P} i d below above = by (ltb i d) refl
  where
    by : (b : Bool) → ltb i d ≡ b → P
    by true q = below (ltb-true i d q)
    by false q = above (ltb-false i d q)
