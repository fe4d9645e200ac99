-- What is asked of every word of an expression, kept by a traversal, and asked of more: one law for both (`everywhere_traverse`,
-- `everywhere_implies`), whatever is asked.
use Prim.Native.Nat.{ℕ, suc, ◌+◌}
use mathlib.Core.Path.{◌≡◌, refl, subst}
use Rattle.calculus.specs.Term.{Sort, Exp, var, lam, app, con, case, num, nil, cons, end, branch, Term, Branches}
use Rattle.calculus.specs.Traverse.{traverse}
use Rattle.calculus.specs.Everywhere.{Asked, Everywhere}
use Rattle.calculus.proofs.Spine.{spine, spine_traverse, count-traverse}
use Rattle.calculus.proofs.Traversal.{traverse-identity}

-- What P asks of the words other than variables gives what Q asks of them; of a case also where branches of the same tags take the place of others.
pub record Implies {D E : Type 0} (P : Asked D) (Q : Asked E) : Type 0 where
  pub constructors : (t n : ℕ) → P.of_constructor t n → Q.of_constructor t n
  pub cases : (bs cs : Branches) → spine bs ≡ spine cs → P.of_case bs → Q.of_case cs
  pub branches : (t n : ℕ) → P.of_branch t n → Q.of_branch t n
  pub numerals : (n : ℕ) → P.of_numeral n → Q.of_numeral n

-- R relates the places before and after and the binders crossed, also under a binder.
pub record Related {D E : Type 0} (P : Asked D) (Q : Asked E) (R : D → E → ℕ → Type 0) : Type 0 where
  pub abstractions : (d : D) (e : E) (c : ℕ) → R d e c → R (P.places.under_abstraction d) (Q.places.under_abstraction e) (suc c)
  pub bodies : (d : D) (e : E) (c n : ℕ) → R d e c → R (P.places.under_branch d n) (Q.places.under_branch e n) (c + n)

module _
    {D E : Type 0}
    {P : Asked D}
    {Q : Asked E}
    {R : D → E → ℕ → Type 0}
    (f : ℕ → ℕ → Term)
    (implies : Implies P Q)
    (related : Related P Q R)
    (variable : (d : D) (e : E) (c i : ℕ) → R d e c → P.of_variable d i → Everywhere Q e (f c i))
  where
    -- A traversal gives what Q asks, from what P asks, if it does so at variables.
    pub everywhere_traverse : {s : Sort} (d : D) (e : E) (c : ℕ) → R d e c → (x : Exp s) → Everywhere P d x → Everywhere Q e (traverse f c x)
    everywhere_traverse d e c r (var i) h = variable d e c i r h
    everywhere_traverse d e c r (lam b) h = everywhere_traverse _ _ _ (related.abstractions d e c r) b h
    everywhere_traverse d e c r (app g a) h = (everywhere_traverse d e c r g h.0, everywhere_traverse d e c r a h.1)
    everywhere_traverse d e c r (con t xs) h =
        (rw (count-traverse f c xs) (implies.constructors t _ h.0), everywhere_traverse d e c r xs h.1)
    everywhere_traverse d e c r (case x bs) h = (
      implies.cases bs (traverse f c bs) (spine_traverse f c bs) h.0,
      everywhere_traverse d e c r x h.1,
      everywhere_traverse d e c r bs h.2,
    )
    everywhere_traverse d e c r (num n) h = implies.numerals n h
    everywhere_traverse d e c r nil h = tt
    everywhere_traverse d e c r (cons a xs) h = (everywhere_traverse d e c r a h.0, everywhere_traverse d e c r xs h.1)
    everywhere_traverse d e c r end h = tt
    everywhere_traverse d e c r (branch t n b bs) h = (
      implies.branches t n h.0,
      everywhere_traverse _ _ _ (related.bodies d e c n r) b h.1,
      everywhere_traverse d e c r bs h.2,
    )

-- Without a traversal: one that puts each variable for itself.
pub everywhere_implies : {D E : Type 0} {P : Asked D} {Q : Asked E} {R : D → E → ℕ → Type 0} → Implies P Q → Related P Q R
    → ((d : D) (e : E) (c i : ℕ) → R d e c → P.of_variable d i → Q.of_variable e i)
    → {s : Sort} (d : D) (e : E) → R d e 0 → (x : Exp s) → Everywhere P d x → Everywhere Q e x
everywhere_implies {Q = Q} implies related variable d e r x h =
    subst (Everywhere Q e) (traverse-identity (λ c i. var i) (λ c i. refl) 0 x)
    (everywhere_traverse (λ c i. var i) implies related variable d e 0 r x h)
