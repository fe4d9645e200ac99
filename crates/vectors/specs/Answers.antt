-- Answers and sessions beside those that a vector expects.
use Rattle.std.specs.Prelude.{ℕ, Bool, false, ◌&&◌, eqb}
use Rattle.calculus.specs.Rounds.{Verdict, verdict_number}
use Rattle.calculus.specs.Refusal.{number}
use Rattle.claim.specs.State.{Session}
use Rattle.claim.specs.Answer as press
use Rattle.calculus.specs.Bringing as bring

-- Verdicts are compared by their numbers.
abbrev pub same_verdict : Verdict → Verdict → Bool
same_verdict v u = eqb (verdict_number v) (verdict_number u)

abbrev pub is_session : Session → (total left right : ℕ) → Verdict → Bool
is_session s total left right v = ((eqb s.total total && eqb s.left left) && eqb s.right right) && same_verdict s.verdict v

-- A press answered this verdict with these numbers, or this refusal.
abbrev pub is_shown : press.Answer → Verdict → (spent left right position : ℕ) → Bool
is_shown (press.refused why) v s l r p = false
is_shown (press.shown a) v s l r p =
    (((eqb a.spent s && eqb a.left l) && eqb a.right r) && eqb a.position p) && same_verdict a.verdict v

abbrev pub is_refused : press.Answer → ℕ → Bool
is_refused (press.refused why) k = eqb (number why) k
is_refused (press.shown a) k = false

-- A call that brings a term in or writes one returned this number.
abbrev pub is_returned : bring.Result → ℕ → Bool
is_returned (bring.refused n) k = false
is_returned (bring.returned n) k = eqb n k
