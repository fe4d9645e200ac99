-- The starred bench pairs ("Bench pairs"), from the word lists there through `read`; C is 16 and the budget 0 where the row names none.
use Rattle.std.specs.Prelude.{ℕ, ◌≡◌, List, [], ◌∷◌, ◌++◌}
use Rattle.std.proofs.Math.Option.{Option, some, none, map, bind}
use Rattle.calculus.specs.Words.{words}
use Rattle.calculus.specs.Read.{read}
use Rattle.calculus.specs.Leftmost.{leftmost}
use Rattle.calculus.specs.Rounds.{Verdict, Same, Different, Budget, Shown, shows, rounds}

-- The words after one leftmost contraction of the term that these words are: none where they are no term, and none inside where it is normal.
unfoldable pub contracted : List ℕ → Option (Option (List ℕ))
contracted ws = map (λ t. map words (leftmost t)) (read ws)

abbrev pub shown : Verdict → (spent left right position : ℕ) → Shown
shown v s l r p = record { verdict = v; spent = s; left = l; right = r; position = p }

-- What the rounds show for two lists of words, none where one of them is no term.
unfoldable pub judged : (left right : List ℕ) (C budget : ℕ) → Option Shown
judged left right C budget =
    bind (read left) (λ t. map (λ u. shows (rounds C budget t u)) (read right))

-- Loop ("Bench pairs"), and the variables of free number 0 and 1.
abbrev pub loop : List ℕ
loop = 2 ∷ 1 ∷ 2 ∷ 0 ∷ 0 ∷ 1 ∷ 2 ∷ 0 ∷ 0 ∷ []

-- The first of two arguments: an application of (λ λ 1) to f0, with the second argument still to come.
abbrev pub projection : List ℕ
projection = 2 ∷ 2 ∷ 1 ∷ 1 ∷ 8 ∷ 0 ∷ []

abbrev pub f0 : List ℕ
f0 = 0 ∷ []

abbrev pub f1 : List ℕ
f1 = 8 ∷ []

pub record Starred : Type 0 where
  pub one_contraction : contracted (2 ∷ 1 ∷ 0 ∷ 24 ∷ []) ≡ some (some (24 ∷ []))
  pub first_of_two : contracted (projection ++ f1) ≡ some (some (2 ∷ 1 ∷ 8 ∷ 8 ∷ []))
  pub second_of_two : contracted (2 ∷ 1 ∷ 8 ∷ 8 ∷ []) ≡ some (some (0 ∷ []))
  pub same_within_budget : judged (projection ++ f1) f0 16 2 ≡ some (shown Same 2 1 1 0)
  pub budget_one_short : judged (projection ++ f1) f0 16 1 ≡ some (shown Budget 1 4 1 0)
  pub free_variables_differ : judged f0 f1 16 0 ≡ some (shown Different 0 1 1 0)
  pub loop-against-itself : judged loop loop 16 0 ≡ some (shown Same 0 9 9 0)
  pub loop-runs-to-budget : judged loop f0 16 5 ≡ some (shown Budget 5 9 1 0)
  pub loop-thrown-away : judged (projection ++ loop) f0 16 2 ≡ some (shown Same 2 1 1 0)
  pub argument_raised : contracted (1 ∷ 2 ∷ 1 ∷ 1 ∷ 8 ∷ 0 ∷ []) ≡ some (some (1 ∷ 1 ∷ 8 ∷ []))
  pub no_eta : judged (1 ∷ 2 ∷ 8 ∷ 0 ∷ []) f0 16 0 ≡ some (shown Different 0 4 1 0)
  pub branch_of_the_tag : contracted (20 ∷ 267 ∷ 40 ∷ 133 ∷ 0 ∷ 269 ∷ 0 ∷ []) ≡ some (some (40 ∷ []))
  pub last_argument_is_index_0 : contracted (12 ∷ 147 ∷ 0 ∷ 8 ∷ 149 ∷ 0 ∷ []) ≡ some (some (8 ∷ []))
  pub other_count_is_stuck : contracted (12 ∷ 139 ∷ 0 ∷ 133 ∷ 0 ∷ []) ≡ some none
