-- Parallel reduction: any of the redexes of an expression contracted at once. Its rules contract an application whose function reduces to an
-- abstraction, a case whose subject reduces to a constructor, and a numeral, so some redexes that arise on the way may be contracted too. It is closed under
-- substitution (`par_subst`), and every reduct of an expression reduces on to the complete development of that expression (`triangle`).
use Prim.Native.Nat.{ℕ, suc, ◌+◌}
use mathlib.Core.Path.{◌≡◌, refl, sym, ◌∙◌, ap}
use mathlib.Core.Bool.{Bool, true, false, cond}
use mathlib.Core.Option.{Option, some, none, map, get_or}
use native.Mathlib.Nat.{add-zero}
use native.Mathlib.Numerals.{add-one}
use lib.Dec.{eqb}
use lib.IntN.{pos}
use borrow.Author.Tests.{eqb-true}
use Rattle.calculus.specs.Term.{Sort, term, terms, branches, Exp, var, lam, app, con, case, num, nil, cons, end, branch, Term, Terms, Branches, count, is_default}
use Rattle.calculus.specs.Shift.{shift}
use Rattle.calculus.specs.Substitution.{subst}
use Rattle.calculus.specs.Numeral.{numeral}
use Rattle.calculus.specs.Contraction.{by_case, default, listed, select}
use Rattle.calculus.specs.Step.{contractum}
use Rattle.calculus.proofs.All.{Both, neither, each}
use Rattle.calculus.proofs.DefaultLaws.{default_is}
use Rattle.calculus.proofs.Inversion.{result}
use Rattle.calculus.proofs.Spine.{count-traverse}
use Rattle.calculus.proofs.Substitution.{lift, sub, shift_is_sub, put, subst_is_sub, sub-subst}
use Rattle.calculus.proofs.NumeralLaws.{numeral-sub}
use Rattle.calculus.proofs.Members.{Members, no_terms, a_term, no_branches, a_branch, members_put, members_select, lift_related}

pub data Par : (s : Sort) → Exp s → Exp s → Type 0 where
  par_var : {i : ℕ} → Par term (var i) (var i)
  par_lam : {b b' : Term} → Par term b b' → Par term (lam b) (lam b')
  par_app : {f f' a a' : Term} → Par term f f' → Par term a a' → Par term (app f a) (app f' a')
  par_beta : {f a a' b : Term} → Par term f (lam b) → Par term a a' → Par term (app f a) (subst (cons a' nil) 0 b)
  par_con : {t : ℕ} {xs xs' : Terms} → Par terms xs xs' → Par term (con t xs) (con t xs')
  par_case : {e e' : Term} {bs bs' : Branches} → Par term e e' → Par branches bs bs' → Par term (case e bs) (case e' bs')
  par_inspect : {e u : Term} {t : ℕ} {xs : Terms} {bs bs' : Branches} → Par term e (con t xs) → Par branches bs bs' → select t xs bs' ≡ some u
      → Par term (case e bs) u
  par_num : {n : ℕ} → Par term (num n) (num n)
  par_numeral : {n : ℕ} → Par term (num n) (numeral n)
  par_nil : Par terms nil nil
  par_cons : {a a' : Term} {xs xs' : Terms} → Par term a a' → Par terms xs xs' → Par terms (cons a xs) (cons a' xs')
  par_end : Par branches end end
  par_branch : {t n : ℕ} {b b' : Term} {bs bs' : Branches} → Par term b b' → Par branches bs bs' → Par branches (branch t n b bs) (branch t n b' bs')

pub par_refl : {s : Sort} (e : Exp s) → Par s e e
par_refl (var i) = par_var
par_refl (lam b) = par_lam (par_refl b)
par_refl (app f a) = par_app (par_refl f) (par_refl a)
par_refl (con t xs) = par_con (par_refl xs)
par_refl (case e bs) = par_case (par_refl e) (par_refl bs)
par_refl (num n) = par_num
par_refl nil = par_nil
par_refl (cons a xs) = par_cons (par_refl a) (par_refl xs)
par_refl end = par_end
par_refl (branch t n b bs) = par_branch (par_refl b) (par_refl bs)

-- The case rule commutes with substitution.
module _ (σ : ℕ → Term) (d : ℕ) where
  default-sub : (bs : Branches) → default (sub σ d bs) ≡ map (sub σ d) (default bs)
  default-sub end = refl
  default-sub (branch u n b bs) = rw (default-sub bs) (by (is_default u n) refl)
    where
      by : (q : Bool) → is_default u n ≡ q → cond q (some (sub σ (d + n) b)) (map (sub σ d) (default bs)) ≡ map (sub σ d) (cond q (some b) (default bs))
      by true h = rw ((default_is u n h).1, add-zero d)
      by false h = refl

  listed-sub : (rest : Option Term) (t : ℕ) (xs : Terms) (bs : Branches)
      → listed (map (sub σ d) rest) t (sub σ d xs) (sub σ d bs) ≡ map (sub σ d) (listed rest t xs bs)
  listed-sub rest t xs end = refl
  listed-sub rest t xs (branch u n b bs) =
      rw (count-traverse (lift σ) d xs, listed-sub rest t xs bs) (by (is_default u n) (eqb t u) (eqb (count xs) n) refl)
    where
      by : (q tag arity : Bool) → eqb (count xs) n ≡ arity
          → cond q (map (sub σ d) (listed rest t xs bs))
          (cond tag (cond arity (some (subst (sub σ d xs) 0 (sub σ (d + n) b))) none) (map (sub σ d) (listed rest t xs bs)))
          ≡ map (sub σ d) (cond q (listed rest t xs bs) (cond tag (cond arity (some (subst xs 0 b)) none) (listed rest t xs bs)))
      by true tag arity h = refl
      by false true true h = rw (← eqb-true (count xs) n h) (ap some (sym (sub-subst σ d xs b)))
      by false true false h = refl
      by false false arity h = refl

  pub select-sub : (t : ℕ) (xs : Terms) (bs : Branches) → select t (sub σ d xs) (sub σ d bs) ≡ map (sub σ d) (select t xs bs)
  select-sub t xs bs = rw (default-sub bs) (listed-sub (default bs) t xs bs)

-- If the terms of σ reduce to those of τ, under any number of binders, then so does what σ makes of an expression to what τ makes of its reducts.
module _ (σ τ : ℕ → Term) (variable : (d i : ℕ) → Par term (lift σ d i) (lift τ d i)) where
  par_traverse : {s : Sort} {e e' : Exp s} (d : ℕ) → Par s e e' → Par s (sub σ d e) (sub τ d e')
  par_traverse d (par_var {i = i}) = variable d i
  par_traverse d (par_lam p) = par_lam (par_traverse (suc d) p)
  par_traverse d (par_app p q) = par_app (par_traverse d p) (par_traverse d q)
  par_traverse d (par_beta {a' = a} {b = b} p q) = rw (sub-subst τ d (cons a nil) b, add-one) (par_beta (par_traverse d p) (par_traverse d q))
  par_traverse d (par_con p) = par_con (par_traverse d p)
  par_traverse d (par_case p q) = par_case (par_traverse d p) (par_traverse d q)
  par_traverse d (par_inspect {t = t} {xs = xs} {bs' = bs} p q h) =
      par_inspect (par_traverse d p) (par_traverse d q) (select-sub τ d t xs bs ∙ ap (map (sub τ d)) h)
  par_traverse d par_num = par_num
  par_traverse d (par_numeral {n = n}) = rw (numeral-sub τ d n) par_numeral
  par_traverse d par_nil = par_nil
  par_traverse d (par_cons p q) = par_cons (par_traverse d p) (par_traverse d q)
  par_traverse d par_end = par_end
  par_traverse d (par_branch {n = n} p q) = par_branch (par_traverse (d + n) p) (par_traverse d q)

pub par_shift : {s : Sort} {e e' : Exp s} (n d : ℕ) → Par s e e' → Par s (shift (pos n) d e) (shift (pos n) d e')
par_shift {e = e} {e' = e'} n d p =
    rw (shift_is_sub n d e, shift_is_sub n d e') (par_traverse up up (λ d i. par_refl (lift up d i)) d p)
  where
    up : ℕ → Term
    up i = var (i + n)

pub par_sub : (σ τ : ℕ → Term) → ((i : ℕ) → Par term (σ i) (τ i)) → {s : Sort} {e e' : Exp s} (d : ℕ) → Par s e e' → Par s (sub σ d e) (sub τ d e')
par_sub σ τ h d p = par_traverse σ τ (lift_related {R = Par term} (λ i. par_var) (λ n t u. par_shift n 0) σ τ h) d p

pub par_arguments : {xs xs' : Terms} → Par terms xs xs' → Members (Par term) terms xs xs'
par_arguments par_nil = no_terms
par_arguments (par_cons p q) = a_term p (par_arguments q)

pub par_branches : {bs bs' : Branches} → Par branches bs bs' → Members (Par term) branches bs bs'
par_branches par_end = no_branches
par_branches (par_branch p q) = a_branch p (par_branches q)

-- Parallel reduction is closed under substitution.
pub par_subst : {xs xs' : Terms} {s : Sort} {e e' : Exp s} (d : ℕ) → Par terms xs xs' → Par s e e' → Par s (subst xs d e) (subst xs' d e')
par_subst {xs} {xs'} {e = e} {e' = e'} d p q =
    rw (subst_is_sub xs d e, subst_is_sub xs' d e')
    (par_sub (put xs) (put xs') (λ i. members_put {R = Par term} (λ i. par_var) i (par_arguments p)) d q)

-- What the case rule selects reduces to what it selects from the reducts.
pub par_select : {xs xs' : Terms} {bs bs' : Branches} (t : ℕ) → Par terms xs xs' → Par branches bs bs'
    → Both (Par term) (select t xs bs) (select t xs' bs')
par_select t p q = members_select {R = Par term} (λ b b'. par_subst 0 p) t (par_arguments p) (par_branches q)

-- A term contracted if it is itself a redex.
abbrev fired : Term → Term
fired t = get_or (result (contractum t)) t

-- What the case rule gives.
abbrev selected : Option Term → Option Term
selected o = result (map (λ u. (by_case, u)) o)

par_selected : {o o' : Option Term} {u u' : Term} → Both (Par term) o o' → Par term u u'
    → Par term (get_or (selected o) u) (get_or (selected o') u')
par_selected neither p = p
par_selected (each h) p = h

-- The complete development: the parts developed, then the whole contracted if it is a redex.
unfoldable pub develop : {s : Sort} → Exp s → Exp s
develop (var i) = var i
develop (lam b) = lam (develop b)
develop (app f a) = fired (app (develop f) (develop a))
develop (con t xs) = con t (develop xs)
develop (case e bs) = fired (case (develop e) (develop bs))
develop (num n) = fired (num n)
develop nil = nil
develop (cons a xs) = cons (develop a) (develop xs)
develop end = end
develop (branch t n b bs) = branch t n (develop b) (develop bs)

app_to_fired : {f f' a a' : Term} → Par term f f' → Par term a a' → Par term (app f a) (fired (app f' a'))
app_to_fired {f' = var i} p q = par_app p q
app_to_fired {f' = lam b} p q = par_beta p q
app_to_fired {f' = app g c} p q = par_app p q
app_to_fired {f' = con t xs} p q = par_app p q
app_to_fired {f' = case e bs} p q = par_app p q
app_to_fired {f' = num n} p q = par_app p q

par_fired_app : {f f' a a' : Term} → Par term f f' → Par term a a' → Par term (fired (app f a)) (fired (app f' a'))
par_fired_app par_var r = app_to_fired par_var r
par_fired_app (par_lam p) r = par_subst 0 (par_cons r par_nil) p
par_fired_app (par_app p q) r = app_to_fired (par_app p q) r
par_fired_app (par_beta p q) r = app_to_fired (par_beta p q) r
par_fired_app (par_con p) r = app_to_fired (par_con p) r
par_fired_app (par_case p q) r = app_to_fired (par_case p q) r
par_fired_app (par_inspect p q h) r = app_to_fired (par_inspect p q h) r
par_fired_app par_num r = app_to_fired par_num r
par_fired_app par_numeral r = app_to_fired par_numeral r

case_to_fired : {e e' : Term} {bs bs' : Branches} → Par term e e' → Par branches bs bs' → Par term (case e bs) (fired (case e' bs'))
case_to_fired {e' = var i} p q = par_case p q
case_to_fired {e' = lam b} p q = par_case p q
case_to_fired {e' = app f a} p q = par_case p q
case_to_fired {e} {e' = con t xs} {bs} {bs'} p q = by (select t xs bs') refl
  where
    by : (o : Option Term) → select t xs bs' ≡ o → Par term (case e bs) (get_or (selected o) (case (con t xs) bs'))
    by none h = par_case p q
    by (some u) h = par_inspect p q h
case_to_fired {e' = case e cs} p q = par_case p q
case_to_fired {e' = num n} p q = par_case p q

par_fired_case : {e e' : Term} {bs bs' : Branches} → Par term e e' → Par branches bs bs' → Par term (fired (case e bs)) (fired (case e' bs'))
par_fired_case par_var r = case_to_fired par_var r
par_fired_case (par_lam p) r = case_to_fired (par_lam p) r
par_fired_case (par_app p q) r = case_to_fired (par_app p q) r
par_fired_case (par_beta p q) r = case_to_fired (par_beta p q) r
par_fired_case {bs = bs} {bs' = bs'} (par_con {t = t} {xs = xs} {xs' = xs'} p) r =
    par_selected (par_select t p r) (par_case (par_con p) r)
par_fired_case (par_case p q) r = case_to_fired (par_case p q) r
par_fired_case (par_inspect p q h) r = case_to_fired (par_inspect p q h) r
par_fired_case par_num r = case_to_fired par_num r
par_fired_case par_numeral r = case_to_fired par_numeral r

-- Whatever is contracted at once, the rest of the development can follow at once.
pub triangle : {s : Sort} {e g : Exp s} → Par s e g → Par s g (develop e)
unfolding develop
triangle par_var = par_var
triangle (par_lam p) = par_lam (triangle p)
triangle (par_app p q) = app_to_fired (triangle p) (triangle q)
triangle (par_beta p q) = par_fired_app (triangle p) (triangle q)
triangle (par_con p) = par_con (triangle p)
triangle (par_case p q) = case_to_fired (triangle p) (triangle q)
triangle (par_inspect p q h) = rw h at (par_fired_case (triangle p) (triangle q))
triangle par_num = par_numeral
triangle (par_numeral {n = n}) = par_refl (numeral n)
triangle par_nil = par_nil
triangle (par_cons p q) = par_cons (triangle p) (triangle q)
triangle par_end = par_end
triangle (par_branch p q) = par_branch (triangle p) (triangle q)
