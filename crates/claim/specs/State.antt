-- The session ("A press"): it keeps total spent, both lengths and the last verdict. A fresh session has total 0, both lengths 0 and last verdict
-- Budget.
use Rattle.std.specs.Prelude.{ℕ, ◌+◌, Bool, ◌&&◌, leb}
use Rattle.calculus.specs.Rounds.{Verdict, Budget}

pub record Session : Type 0 where
  pub total : ℕ
  pub left : ℕ
  pub right : ℕ
  pub verdict : Verdict

abbrev pub fresh : Session
fresh = record { total = 0; left = 0; right = 0; verdict = Budget }

-- A budget is at most 1,000,000, and total spent plus budget at most 1,000,000,000.
abbrev pub budget_limit : ℕ
budget_limit = 1000000

abbrev pub total_limit : ℕ
total_limit = 1000000000

-- Budget and total pass refusal 9.
abbrev pub affordable : (budget total : ℕ) → Bool
affordable budget total = leb budget budget_limit && leb (total + budget) total_limit
