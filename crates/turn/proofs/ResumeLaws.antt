-- Where the search goes on after a round: no redex starts before.
use Prim.Native.Nat.{ℕ, ◌<◌}
use mathlib.Core.Path.{◌≡◌}
use mathlib.Core.Option.{none}
use Rattle.calculus.specs.Term.{Term}
use Rattle.calculus.specs.Position.{contract_at}
use Rattle.calculus.specs.Rounds.{next}
use Rattle.calculus.proofs.PositionLaws.{redex_first}
use Rattle.calculus.proofs.ResumeLaws.{none_before, none_anywhere}
use Rattle.turn.specs.Turn.{Plan}
use Rattle.calculus.proofs.RoundsLaws.{next_is, next_normal}
use Rattle.turn.proofs.TurnLaws.{Planned, is_normal, contracts}
use Rattle.turn.specs.Resume.{resume_at}

-- In the term after a side's part in a round no redex starts before the position to resume at.
pub resumes : (t : Term) (n : ℕ) {plan : Plan} → Planned t plan → (q : ℕ) → q < resume_at n plan → contract_at q (next t) ≡ none
resumes t n (is_normal r l) q h = rw (next_normal t l) (none_anywhere t r q)
resumes t n (contracts p u r c l) q h = rw (next_is t l) (none_before p t u c ((redex_first t p).0 r).1 q h)
