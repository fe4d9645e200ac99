-- What is owed about a press ("A press", "Numbers for refused calls"), on any workspaces, session, scratch, lengths and budget: in numbers, orders and
-- relations, not by the tests of its definition.
use Rattle.std.specs.Prelude.{◌+◌, ◌-◌, ◌≤◌, ◌≡◌, ◌++◌, length, replicate}
use Rattle.calculus.specs.Term.{Term}
use Rattle.calculus.specs.Words.{words, size, workspace_least, workspace_most}
use Rattle.calculus.specs.Theorems.{Held}
use Rattle.calculus.specs.Refusal.{Refusal, WrongWorkspace, OverBudget, NoTerm}
use Rattle.calculus.specs.Rounds.{shows, rounds}
use Rattle.claim.specs.State.{budget_limit, total_limit}
use Rattle.claim.specs.Answer.{refused, shown, Memory, Call, Pressed}
use Rattle.claim.specs.Press.{press}

-- What passes refusal 7: both workspaces and the scratch have one length, from 16 to 2,048 words.
pub record LengthsFit (memory : Memory) (call : Call) : Type 0 where
  pub least : workspace_least ≤ length memory.left
  pub most : length memory.left ≤ workspace_most
  pub right-length : length memory.right ≡ length memory.left
  pub scratch_length : length call.scratch ≡ length memory.left

-- What passes refusal 9: the budget is at most 1,000,000, and total spent plus budget at most 1,000,000,000.
pub record Affords (memory : Memory) (call : Call) : Type 0 where
  pub budget_fits : call.budget ≤ budget_limit
  pub total_fits : memory.session.total + call.budget ≤ total_limit

-- A refusal, and everything as it was: written out again, so that what is owed does not lean on `refuse`.
abbrev pub unchanged : Memory → Call → Refusal → Pressed
unchanged memory call why = record { answer = refused why; memory = memory; scratch = call.scratch }

-- What a press does: 7 first, then 9, then 10 where the left workspace holds no term of the given length, then 10 where the right one holds none, and nothing
-- is changed; otherwise the answer, both terms with zeros after them, the session and a scratch of zeros, as the rounds from the two terms give them. The five
-- cases exclude each other and leave nothing out.
pub record PressesExactly (memory : Memory) (call : Call) : Type 0 where
  pub wrong-workspace : (LengthsFit memory call → ⊥) → press memory call ≡ unchanged memory call WrongWorkspace
  pub over_budget : LengthsFit memory call → (Affords memory call → ⊥) → press memory call ≡ unchanged memory call OverBudget
  pub no_left_term : LengthsFit memory call → Affords memory call → ((t : Term) → Held memory.left call.left_length t → ⊥)
      → press memory call ≡ unchanged memory call NoTerm
  pub no_right_term : LengthsFit memory call → Affords memory call → (t : Term) → Held memory.left call.left_length t
      → ((u : Term) → Held memory.right call.right_length u → ⊥) → press memory call ≡ unchanged memory call NoTerm
  pub leaves : LengthsFit memory call → Affords memory call → (t u : Term) → Held memory.left call.left_length t
      → Held memory.right call.right_length u
      → (let C = length memory.left in
      let end = rounds C call.budget t u in
      press memory call
      ≡ record {
        answer = shown (shows end);
        memory =
            record {
              left = words end.left ++ replicate (C - size end.left) 0;
              right = words end.right ++ replicate (C - size end.right) 0;
              session =
                  record {
                    total = memory.session.total + end.spent;
                    left = size end.left;
                    right = size end.right;
                    verdict = end.verdict;
                  };
            };
        scratch = replicate C 0;
      })

abbrev pub PressingExact : Type 0
PressingExact = (memory : Memory) (call : Call) → PressesExactly memory call
