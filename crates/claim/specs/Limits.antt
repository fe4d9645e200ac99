-- The edges of what refusal 9 passes, and a fresh session field by field.
use Rattle.std.specs.Prelude.{◌≡◌, true, false}
use Rattle.calculus.specs.Rounds.{Budget}
use Rattle.claim.specs.State.{fresh, affordable}

pub record Limits : Type 0 where
  pub budget_1000000 : affordable 1000000 0 ≡ true
  pub budget_1000001 : affordable 1000001 0 ≡ false
  pub total_1000000000 : affordable 1000000 999000000 ≡ true
  pub total_1000000001 : affordable 1000000 999000001 ≡ false
  pub fresh_total : fresh.total ≡ 0
  pub fresh_left : fresh.left ≡ 0
  pub fresh_right : fresh.right ≡ 0
  pub fresh_verdict : fresh.verdict ≡ Budget
