-- A relation of terms, member by member: related arguments, and related branches of the same tags and bound counts. Then what stands for an index and
-- what the case rule selects are related too, or there is nothing on either side. Parallel reduction is such a relation.
use Prim.Native.Nat.{ℕ, suc, ◌-◌}
use mathlib.Core.Path.{◌≡◌, refl, ap}
use mathlib.Core.Option.{Option}
use lib.Dec.{eqb}
use lib.IntN.{pos}
use Rattle.calculus.specs.Term.{Sort, terms, branches, Exp, var, nil, cons, end, branch, Term, Terms, Branches, count, is_default}
use Rattle.calculus.specs.Shift.{shift}
use Rattle.calculus.specs.Substitution.{argument, subst}
use Rattle.calculus.specs.Contraction.{default, listed, select}
use Rattle.calculus.proofs.All.{Both, neither, each, both_cond, both_get_d}
use Rattle.calculus.proofs.Traversal.{below_or_above}
use Rattle.calculus.proofs.Substitution.{lift, lift_below, lift_above, put}

pub data Members (R : Term → Term → Type 0) : (s : Sort) → Exp s → Exp s → Type 0 where
  no_terms : Members R terms nil nil
  a_term : {a a' : Term} {xs xs' : Terms} → R a a' → Members R terms xs xs' → Members R terms (cons a xs) (cons a' xs')
  no_branches : Members R branches end end
  a_branch : {t n : ℕ} {b b' : Term} {bs bs' : Branches} → R b b' → Members R branches bs bs' → Members R branches (branch t n b bs) (branch t n b' bs')

module _ {R : Term → Term → Type 0} where
  pub members_count : {xs xs' : Terms} → Members R terms xs xs' → count xs ≡ count xs'
  members_count no_terms = refl
  members_count (a_term r m) = ap suc (members_count m)

  pub members_argument : {xs xs' : Terms} (i : ℕ) → Members R terms xs xs' → Both R (argument xs i) (argument xs' i)
  members_argument i no_terms = neither
  members_argument i (a_term {xs' = xs'} r m) = rw (members_count m) (both_cond (eqb i (count xs')) (each r) (members_argument i m))

  pub members_put : ((i : ℕ) → R (var i) (var i)) → {xs xs' : Terms} (i : ℕ) → Members R terms xs xs' → R (put xs i) (put xs' i)
  unfolding put
  members_put variable {xs} {xs'} i m = rw (members_count m) (both_get_d (members_argument i m) (variable (i - count xs')))

  members_default : {bs bs' : Branches} → Members R branches bs bs' → Both R (default bs) (default bs')
  members_default no_branches = neither
  members_default (a_branch {t = u} {n = n} r ms) = both_cond (is_default u n) (each r) (members_default ms)

  -- What the case rule selects, if related arguments put into related bodies give related terms.
  module _ {xs xs' : Terms} (closed : (b b' : Term) → R b b' → R (subst xs 0 b) (subst xs' 0 b')) (t : ℕ) (m : Members R terms xs xs') where
    members_listed : {rest rest' : Option Term} {bs bs' : Branches} → Both R rest rest' → Members R branches bs bs' → Both R (listed rest t xs bs) (listed rest' t xs' bs')
    members_listed k no_branches = k
    members_listed k (a_branch {t = u} {n = n} {b = b} {b' = b'} r ms) =
        rw (members_count m)
        (both_cond (is_default u n) (members_listed k ms)
        (both_cond (eqb t u) (both_cond (eqb (count xs') n) (each (closed b b' r)) neither) (members_listed k ms)))

    pub members_select : {bs bs' : Branches} → Members R branches bs bs' → Both R (select t xs bs) (select t xs' bs')
    members_select ms = members_listed (members_default ms) ms

  -- Related terms for each index are related under any number of binders.
  pub lift_related : ((i : ℕ) → R (var i) (var i)) → ((n : ℕ) (t u : Term) → R t u → R (shift (pos n) 0 t) (shift (pos n) 0 u))
      → (σ τ : ℕ → Term) → ((i : ℕ) → R (σ i) (τ i)) → (d i : ℕ) → R (lift σ d i) (lift τ d i)
  lift_related variable shifted σ τ h d i =
      below_or_above i d
      (λ l. rw (lift_below σ d i l, lift_below τ d i l) (variable i))
      (λ l. rw (lift_above σ d i l, lift_above τ d i l) (shifted d (σ (i - d)) (τ (i - d)) (h (i - d))))
