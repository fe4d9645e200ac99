-- What a press is handed, what it answers, and what it leaves ("A press").
use Rattle.std.specs.Prelude.{ℕ, List}
use Rattle.calculus.specs.Refusal.{Refusal}
use Rattle.calculus.specs.Rounds.{Shown}
use Rattle.claim.specs.State.{Session}

-- A press's answer: a refusal, or verdict, spent, both lengths and the position.
pub data Answer : Type 0 where
  refused : Refusal → Answer
  shown : Shown → Answer

-- What one press leaves to the next: both workspaces and the session.
pub record Memory : Type 0 where
  pub left : List ℕ
  pub right : List ℕ
  pub session : Session

-- What a press is handed beside them: a scratch, the length of each side's term, and a budget.
pub record Call : Type 0 where
  pub scratch : List ℕ
  pub left_length : ℕ
  pub right_length : ℕ
  pub budget : ℕ

-- Everything at exit.
pub record Pressed : Type 0 where
  pub answer : Answer
  pub memory : Memory
  pub scratch : List ℕ
