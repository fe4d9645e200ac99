-- Contraction at a place ("Contraction"): the beta, the case and the numeral rule, legal at every redex, under binders, in arguments and in branches.
--
-- `Contracts s p r e g` says that e, of sort s, becomes g by one contraction with rule r of the redex whose first word stands at position p of
-- e's words. A case whose branch of the tag binds another number than the constructor's arguments is stuck, even beside a default, and so is an
-- application of a constructor: no rule applies to them. Where branches repeat a tag, which no accepted term does, the first of them other than a default
-- decides, and of several defaults the first is taken.
use Rattle.std.specs.Prelude.{ℕ, suc, ◌+◌, ◌≡◌, cond, eqb}
use Rattle.std.proofs.Math.Option.{Option, some, none}
use Rattle.calculus.specs.Term.{Sort, term, terms, branches, Exp, lam, app, con, case, num, nil, cons, end, branch, Term, Terms, Branches, count, is_default}
use Rattle.calculus.specs.Words.{size}
use Rattle.calculus.specs.Numeral.{numeral}
use Rattle.calculus.specs.Substitution.{subst}

pub data Rule : Type 0 where
  by_beta by_case by_numeral : Rule

-- The body of the default, if there is one: it binds nothing.
abbrev pub default : Branches → Option Term
default end = none
default (branch u n b bs) = cond (is_default u n) (some b) (default bs)

-- What the branches other than the default make of a constructor's tag and arguments: the body of the branch of that tag, with the arguments for the
-- bound indices, if the branch binds as many as there are arguments; and `rest` where none of them has the tag.
abbrev pub listed : (rest : Option Term) → ℕ → Terms → Branches → Option Term
listed rest t xs end = rest
listed rest t xs (branch u n b bs) =
    cond (is_default u n) (listed rest t xs bs)
    (cond (eqb t u) (cond (eqb (count xs) n) (some (subst xs 0 b)) none)
    (listed rest t xs bs))

-- What the case rule makes of a constructor's tag and arguments and the branches: a branch other than the default that has the tag decides alone; where none
-- has it, the default's body as it stands, if there is one.
abbrev pub select : ℕ → Terms → Branches → Option Term
select t xs bs = listed (default bs) t xs bs

pub data Contracts : (s : Sort) → ℕ → Rule → Exp s → Exp s → Type 0 where
  at_beta : {b a : Term} → Contracts term 0 by_beta (app (lam b) a) (subst (cons a nil) 0 b)
  at_case : {t : ℕ} {xs : Terms} {bs : Branches} {u : Term} → select t xs bs ≡ some u → Contracts term 0 by_case (case (con t xs) bs) u
  at_numeral : {n : ℕ} → Contracts term 0 by_numeral (num n) (numeral n)
  in_body : {p : ℕ} {r : Rule} {b b' : Term} → Contracts term p r b b' → Contracts term (suc p) r (lam b) (lam b')
  in-function : {p : ℕ} {r : Rule} {f f' a : Term} → Contracts term p r f f' → Contracts term (suc p) r (app f a) (app f' a)
  in-argument : {p : ℕ} {r : Rule} {f a a' : Term} → Contracts term p r a a' → Contracts term (suc (size f + p)) r (app f a) (app f a')
  in-arguments : {p : ℕ} {r : Rule} {t : ℕ} {xs xs' : Terms} → Contracts terms p r xs xs' → Contracts term (suc p) r (con t xs) (con t xs')
  in-subject : {p : ℕ} {r : Rule} {e e' : Term} {bs : Branches} → Contracts term p r e e' → Contracts term (suc p) r (case e bs) (case e' bs)
  in-branches : {p : ℕ} {r : Rule} {e : Term} {bs bs' : Branches} → Contracts branches p r bs bs'
      → Contracts term (suc (size e + p)) r (case e bs) (case e bs')
  in-first : {p : ℕ} {r : Rule} {a a' : Term} {xs : Terms} → Contracts term p r a a' → Contracts terms p r (cons a xs) (cons a' xs)
  in-later : {p : ℕ} {r : Rule} {a : Term} {xs xs' : Terms} → Contracts terms p r xs xs' → Contracts terms (size a + p) r (cons a xs) (cons a xs')
  in-branch : {p : ℕ} {r : Rule} {t n : ℕ} {b b' : Term} {bs : Branches} → Contracts term p r b b'
      → Contracts branches (suc p) r (branch t n b bs) (branch t n b' bs)
  in-later-branch : {p : ℕ} {r : Rule} {t n : ℕ} {b : Term} {bs bs' : Branches} → Contracts branches p r bs bs'
      → Contracts branches (suc (size b + p)) r (branch t n b bs) (branch t n b bs')
