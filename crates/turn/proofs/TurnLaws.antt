-- What a side's plan tells of its term, and what the words of two terms tell of point 1.
use Prim.Native.Nat.{ℕ}
use mathlib.Core.Path.{◌≡◌, refl, sym, ◌∙◌, ap}
use mathlib.Core.Logic.{if_pos, if_neg}
use mathlib.Core.Option.{Option, some, none, bind, map}
use Rattle.calculus.specs.Term.{Term}
use Rattle.calculus.specs.Words.{words, size}
use Rattle.calculus.specs.Accepted.{Accepted}
use Rattle.calculus.specs.Leftmost.{leftmost}
use Rattle.calculus.specs.Position.{contract_at, redex_at}
use Rattle.calculus.specs.Equality.{equal?}
use Rattle.calculus.specs.Comparison.{Comparison, equal, differ, compare}
use Rattle.calculus.specs.Rounds.{next_length, same, at_once}
use Rattle.calculus.proofs.PositionLaws.{redex_first, leftmost-at_redex}
use Rattle.calculus.proofs.RoundsLaws.{next_is}
use Rattle.calculus.proofs.ComparisonLaws.{equal≢differ, equal_terms_compared}
use Rattle.turn.specs.Turn.{Plan, normal, contract, length_in, plan_at, planned, at_once_by, at_once_in}

-- What a side's plan tells of its term.
pub data Planned (t : Term) : Plan → Type 0 where
  is_normal : redex_at t ≡ none → leftmost t ≡ none → Planned t normal
  contracts : (p : ℕ) (u : Term) → redex_at t ≡ some p → contract_at p t ≡ some u → leftmost t ≡ some u → Planned t (contract p (size u))

at_redex : (t : Term) {r : Option ℕ} → redex_at t ≡ r → leftmost t ≡ bind r (λ p. contract_at p t)
at_redex t e = leftmost-at_redex t ∙ ap (λ r. bind r (λ p. contract_at p t)) e

planned-at : (t : Term) (r : Option ℕ) → redex_at t ≡ r → Planned t (plan_at t r)
unfolding bind
planned-at t none e = is_normal e (at_redex t e)
planned-at t (some p) e =
    let (u, c) = ((redex_first t p).0 e).0 in
    let l : leftmost t ≡ some u = at_redex t e ∙ c in
    rw (next_is t l) (contracts p u e c l)

pub planned_tells : (t : Term) → Planned t (planned t)
planned_tells t = planned-at t (redex_at t) refl

-- The plan has the next term's length.
pub planned-length : (t : Term) → length_in (planned t) ≡ next_length t
planned-length t = by (planned_tells t)
  where
    by : {p : Plan} → Planned t p → length_in p ≡ next_length t
    by (is_normal r l) = sym (ap (map size) l)
    by (contracts p u r c l) = sym (ap (map size) l)

-- Point 1 is what the words of the terms tell.
asked_by : (t u : Term) → Accepted 0 t → Accepted 0 u → (c : Comparison) → compare t u ≡ c → at_once_by c ≡ at_once t u
unfolding same
asked_by t u h k equal e = sym (if_pos (equal? t u) ((equal_terms_compared t u h k).0 e) _ _)
asked_by t u h k (differ p) e = sym (if_neg (equal? t u) (λ q. equal≢differ (sym ((equal_terms_compared t u h k).1 q) ∙ e)) _ _)

pub asked : (t u : Term) → Accepted 0 t → Accepted 0 u → at_once_in (words t) (words u) ≡ at_once t u
asked t u h k = asked_by t u h k (compare t u) refl
