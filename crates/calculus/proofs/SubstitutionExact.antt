-- What a shift and a substitution put for an index, by its position; through every other form they go by computation.
use Prim.Native.Nat.{ℕ, suc, ◌-◌, ◌≤◌}
use mathlib.Core.Path.{◌≡◌, refl, sym, ◌∙◌, ap}
use mathlib.Core.List.{List, [], ◌∷◌, ◌++◌}
use mathlib.Core.Option.{some, none}
use native.Mathlib.Omega.{arith}
use lib.ListN.{length, length-append}
use borrow.Author.Tests.{lt-ltb, le-ltb, eq-eqb, ne_eqb}
use Rattle.calculus.specs.Term.{lam, nil, cons, Term, Terms, count}
use Rattle.calculus.specs.Traverse.{traverse}
use Rattle.calculus.specs.Substitution.{argument, replaced}
use Rattle.calculus.specs.Theorems.{Through, ShiftExact, arguments, SubstitutionExact}
use Rattle.calculus.proofs.Move.{move_exact, move_down}

through : (f : ℕ → ℕ → Term) → Through (λ s d e. traverse f d e)
through f =
    record {
      of_abstraction = λ d b. ap (λ n. lam (traverse f n b)) (omega arith);
      of_application = λ d g a. refl;
      of_constructor = λ d t xs. refl;
      of_case = λ d e bs. refl;
      of_numeral = λ d n. refl;
      of_no_argument = λ d. refl;
      of_argument = λ d a xs. refl;
      of_no_branch = λ d. refl;
      of_branch = λ d t n b bs. refl;
    }

pub shift_exact : ShiftExact
shift_exact =
    record {
      bound = λ z d i l. rw (lt-ltb i d l);
      free = λ z d i n l e. rw (le-ltb i d l, move_exact z i n e);
      through = λ z. through _;
    }

count-arguments : (xs : Terms) → count xs ≡ length (arguments xs)
count-arguments nil = refl
count-arguments (cons a xs) = ap suc (count-arguments xs)

-- An argument is the index of as many as stand after it, and no index past them is one.
argument-at : (xs : Terms) (before : List Term) (a : Term) (after : List Term) → arguments xs ≡ before ++ (a ∷ after) → argument xs (length after) ≡ some a
argument-at nil [] a after e = let z : ◌≡◌ {A = ℕ} 0 1 = cc in absurd (omega arith)
argument-at nil (b ∷ before) a after e = let z : ◌≡◌ {A = ℕ} 0 1 = cc in absurd (omega arith)
argument-at (cons x xs) [] a after e =
    let first : x ≡ a = cc in
    let others : arguments xs ≡ after = cc in
    rw (eq-eqb (length after) (count xs) (ap length (sym others) ∙ sym (count-arguments xs))) (ap some first)
argument-at (cons x xs) (b ∷ before) a after e =
    let others : arguments xs ≡ before ++ (a ∷ after) = cc in
    let many : count xs ≡ length (before ++ (a ∷ after)) = count-arguments xs ∙ ap length others in
    rw (ne_eqb (length after) (count xs) (λ k. omega (arith, many, length-append before (a ∷ after)))) (argument-at xs before a after others)

argument_none : (xs : Terms) (k : ℕ) → length (arguments xs) ≤ k → argument xs k ≡ none
argument_none nil k h = refl
argument_none (cons a xs) k h =
    rw (ne_eqb k (count xs) (λ e. omega (arith, count-arguments xs))) (argument_none xs k (omega arith))

pub substitution_exact : SubstitutionExact
substitution_exact =
    record {
      bound = λ xs d i l. rw (lt-ltb i d l);
      replaced = λ xs d i before a after e l k. rw (le-ltb i d l, k) (ap (replaced xs d i) (argument-at xs before a after e));
      past = λ xs d i l.
          rw (le-ltb i d (omega arith), argument_none xs (i - d) (omega arith), move_down (count xs) i, count-arguments xs);
      through = λ xs. through _;
    }
