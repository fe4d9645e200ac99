-- Contraction as functions ("Contraction"): what a redex becomes, and the first step of an expression. The relation `Contracts` is the definition;
-- `LeftmostStep`, `LeftmostNone`, `RedexFirst` and `RedexNone` state that the functions follow it.
use Rattle.std.specs.Prelude.{ℕ, ◌+◌}
use Rattle.std.proofs.Math.Option.{Option, some, none, map, or_else}
use Rattle.calculus.specs.Term.{Sort, Exp, var, lam, app, con, case, num, nil, cons, end, branch, Term}
use Rattle.calculus.specs.Words.{size}
use Rattle.calculus.specs.Numeral.{numeral}
use Rattle.calculus.specs.Substitution.{subst}
use Rattle.calculus.specs.Contraction.{Rule, by_beta, by_case, by_numeral, select}

-- What a term that is itself a redex becomes, and by which rule; none where no rule applies to the term itself.
abbrev pub contractum : Term → Option (Rule × Term)
contractum (var i) = none
contractum (lam b) = none
contractum (app (var i) a) = none
contractum (app (lam b) a) = some (by_beta, subst (cons a nil) 0 b)
contractum (app (app f g) a) = none
contractum (app (con t xs) a) = none
contractum (app (case e bs) a) = none
contractum (app (num n) a) = none
contractum (con t xs) = none
contractum (case (var i) bs) = none
contractum (case (lam b) bs) = none
contractum (case (app f a) bs) = none
contractum (case (con t xs) bs) = map (λ u. (by_case, u)) (select t xs bs)
contractum (case (case e cs) bs) = none
contractum (case (num n) bs) = none
contractum (num n) = some (by_numeral, numeral n)

-- One contraction: the position at which its redex starts, the rule, and what the whole becomes.
pub record Step (A : Type 0) : Type 0 where
  pub position : ℕ
  pub rule : Rule
  pub result : A

-- A step of a part as one of the whole, and a step that starts n words further on.
abbrev pub in_whole : {A B : Type 0} → (A → B) → Step A → Step B
in_whole f c = record { position = c.position; rule = c.rule; result = f c.result }

abbrev pub behind : {A : Type 0} → ℕ → Step A → Step A
behind n c = record { position = n + c.position; rule = c.rule; result = c.result }

-- The step at the first word.
abbrev pub at_first : {A : Type 0} → Option (Rule × A) → Option (Step A)
at_first o = map (λ c. record { position = 0; rule = c.0; result = c.1 }) o

-- The first step of n words, or of those behind them where there is none.
abbrev pub first_of : {A : Type 0} → ℕ → Option (Step A) → Option (Step A) → Option (Step A)
first_of n here there = or_else here (map (behind n) there)

-- The step whose redex starts earliest: that of the term itself comes before those of its parts, and these follow each other as their words do.
unfoldable pub first_step : {s : Sort} → Exp s → Option (Step (Exp s))
first_step (var i) = none
first_step (lam b) = first_of 1 none (map (in_whole lam) (first_step b))
first_step (app f a) =
    first_of 1 (at_first (contractum (app f a)))
    (first_of (size f) (map (in_whole (λ f'. app f' a)) (first_step f)) (map (in_whole (app f)) (first_step a)))
first_step (con t xs) = first_of 1 none (map (in_whole (con t)) (first_step xs))
first_step (case e bs) =
    first_of 1 (at_first (contractum (case e bs)))
    (first_of (size e) (map (in_whole (λ e'. case e' bs)) (first_step e)) (map (in_whole (case e)) (first_step bs)))
first_step (num n) = at_first (contractum (num n))
first_step nil = none
first_step (cons a xs) = first_of (size a) (map (in_whole (λ a'. cons a' xs)) (first_step a)) (map (in_whole (cons a)) (first_step xs))
first_step end = none
first_step (branch t n b bs) =
    first_of 1 none
    (first_of (size b) (map (in_whole (λ b'. branch t n b' bs)) (first_step b)) (map (in_whole (branch t n b)) (first_step bs)))
