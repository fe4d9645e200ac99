-- A press ("A press", "Numbers for refused calls"), as a function of everything at entry to everything at exit.
use Rattle.std.specs.Prelude.{ℕ, ◌+◌, cond, [], ◌∷◌, length, replicate}
use Rattle.std.proofs.Math.Option.{Option, some, none}
use Rattle.calculus.specs.Term.{Term}
use Rattle.calculus.specs.Words.{words, size}
use Rattle.calculus.specs.Workspace.{sized, term_at, padded}
use Rattle.calculus.specs.Refusal.{Refusal, WrongWorkspace, OverBudget, NoTerm}
use Rattle.calculus.specs.Rounds.{Outcome, shows, rounds}
use Rattle.claim.specs.State.{Session, affordable}
use Rattle.claim.specs.Answer.{refused, shown, Memory, Call, Pressed}

-- A refused press changes nothing.
abbrev pub refuse : Memory → Call → Refusal → Pressed
refuse memory call why = record { answer = refused why; memory = memory; scratch = call.scratch }

-- What the rounds leave: both current terms with zeros after them, the scratch all zeros, and the session renewed, of which only the total is
-- read.
abbrev pub conclude : (C : ℕ) → Session → Outcome → Pressed
conclude C session end =
    record {
      answer = shown (shows end);
      memory =
          record {
            left = padded C (words end.left);
            right = padded C (words end.right);
            session =
                record {
                  total = session.total + end.spent;
                  left = size end.left;
                  right = size end.right;
                  verdict = end.verdict;
                };
          };
      scratch = replicate C 0;
    }

-- Refusal 10 on the left, then on the right, then the rounds.
abbrev pub press_terms : Memory → Call → Option Term → Option Term → Pressed
press_terms memory call none u = refuse memory call NoTerm
press_terms memory call (some t) none = refuse memory call NoTerm
press_terms memory call (some t) (some u) =
    conclude (length memory.left) memory.session (rounds (length memory.left) call.budget t u)

unfoldable pub press : Memory → Call → Pressed
press memory call =
    cond (sized (length memory.left ∷ length memory.right ∷ length call.scratch ∷ []))
    (cond (affordable call.budget memory.session.total)
    (press_terms memory call (term_at memory.left call.left_length) (term_at memory.right call.right_length))
    (refuse memory call OverBudget))
    (refuse memory call WrongWorkspace)
