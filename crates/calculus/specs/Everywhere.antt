-- A statement about an expression that asks something of each of its words, by kind and by the place where the word stands: the number of binders
-- around it, or nothing where the statement does not depend on that.
use Rattle.std.specs.Prelude.{ℕ, suc, ◌+◌}
use Rattle.calculus.specs.Term.{Sort, Exp, var, lam, app, con, case, num, nil, cons, end, branch, Branches, count}

-- Where a body stands, by the place of its abstraction, and by that of its branch and the number of variables that this binds.
pub record Places (Place : Type 0) : Type 0 where
  pub under_abstraction : Place → Place
  pub under_branch : Place → ℕ → Place

-- The place is the number of binders around.
abbrev pub binders : Places ℕ
binders = record { under_abstraction = suc; under_branch = ◌+◌ }

-- All places are alike.
abbrev pub anywhere : Places (Unit {0})
anywhere = record { under_abstraction = λ d. tt; under_branch = λ d n. tt }

-- What is asked of a variable by its place and index, of a constructor by its tag and number of arguments, of a case by its branches, of a branch
-- by its tag and bound count, and of a numeral.
pub record Asked (Place : Type 0) : Type 1 where
  pub places : Places Place
  pub of_variable : Place → (i : ℕ) → Type 0
  pub of_constructor : (tag arguments : ℕ) → Type 0
  pub of_case : Branches → Type 0
  pub of_branch : (tag bound : ℕ) → Type 0
  pub of_numeral : ℕ → Type 0

-- Only variables are asked something.
abbrev pub variables : {Place : Type 0} → Places Place → (Place → ℕ → Type 0) → Asked Place
variables p P =
    record {
      places = p;
      of_variable = P;
      of_constructor = λ t n. Unit {0};
      of_case = λ bs. Unit {0};
      of_branch = λ t n. Unit {0};
      of_numeral = λ n. Unit {0};
    }

-- Only variables, abstractions and applications stand there, and of variables something is asked.
abbrev pub pure_terms : {Place : Type 0} → Places Place → (Place → ℕ → Type 0) → Asked Place
pure_terms p P =
    record {
      places = p;
      of_variable = P;
      of_constructor = λ t n. ⊥;
      of_case = λ bs. ⊥;
      of_branch = λ t n. ⊥;
      of_numeral = λ n. ⊥;
    }

-- Every word of the expression has what is asked of it; d is the place of the expression.
abbrev pub Everywhere : {Place : Type 0} {s : Sort} → Asked Place → Place → Exp s → Type 0
Everywhere P d (var i) = P.of_variable d i
Everywhere P d (lam b) = Everywhere P (P.places.under_abstraction d) b
Everywhere P d (app f a) = Everywhere P d f × Everywhere P d a
Everywhere P d (con t xs) = P.of_constructor t (count xs) × Everywhere P d xs
Everywhere P d (case e bs) = P.of_case bs × Everywhere P d e × Everywhere P d bs
Everywhere P d (num n) = P.of_numeral n
Everywhere P d nil = Unit {0}
Everywhere P d (cons a xs) = Everywhere P d a × Everywhere P d xs
Everywhere P d end = Unit {0}
Everywhere P d (branch t n b bs) = P.of_branch t n × Everywhere P (P.places.under_branch d n) b × Everywhere P d bs
