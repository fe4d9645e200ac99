-- The rounds as the code makes them: what a side's plan tells of the workspace that holds its term, and a turn of the loop.
use Prim.Native.Nat.{ℕ}
use mathlib.Core.Path.{◌≡◌, sym, ◌∙◌, ap}
use mathlib.Core.List.{List, ◌++◌}
use mathlib.Core.Option.{Option, some, none, none-ne-some, some-ne-none, some-injective}
use native.Mathlib.Nat.{not-suc-le-zero}
use lib.ListN.{drop}
use Rattle.calculus.specs.Words.{words, size}
use Rattle.calculus.specs.Position.{redex_at}
use Rattle.calculus.specs.Rounds.{next}
use Rattle.redex.specs.declared.Redex.{Redex}
use Rattle.std.specs.Prelude as code
use Rattle.redex.specs.Held.{held, Holds}
use Rattle.search.specs.Search.{Searched}
use Rattle.search.specs.Search as search
use Rattle.step.specs.Contract as step
use Rattle.redex.specs.Next as stepNext
use Rattle.turn.specs.Turn.{Plan, normal, contract, plan_at, planned}
use Rattle.turn.specs.Types.{plan_of}
use Rattle.turn.specs.Resume.{resume_at}
use Rattle.rounds.specs.Advance.{Advances, scratch_after, Advanced}
use Rattle.redex.proofs.HeldLaws.{next_term, Start, term_at_start}
use Rattle.calculus.proofs.RoundsLaws.{next_is, next_normal}
use Rattle.turn.proofs.TurnLaws.{Planned, is_normal, contracts, planned_tells}

-- The search may start at the first word.
pub searched : {ws : List ℕ} {n : ℕ} → Holds ws n → Searched ws n 0
searched h = record { holds = h; before = λ p k. absurd (not-suc-le-zero k) }

module _ (ws : List ℕ) (n : ℕ) where
  -- The next term of a side is that of the step at its redex.
  plan_next : {p : ℕ} → redex_at (held ws n) ≡ some p → stepNext.next ws n p ≡ next (held ws n)
  plan_next {p} e = by (planned_tells (held ws n))
    where
      by : {plan : Plan} → Planned (held ws n) plan → stepNext.next ws n p ≡ next (held ws n)
      by (is_normal r l) = absurd (none-ne-some p (sym r ∙ e))
      by (contracts q u r c l) =
          let same : p ≡ q = some-injective p q (sym e ∙ r) in
          rw same (next_term ws n q u c ∙ sym (next_is (held ws n) l))

  -- What the search found is the plan of the definition.
  pub plan_is : (todo : code.Option Redex) → search.Planned ws n todo → plan_of todo ≡ planned (held ws n)
  plan_is code.None e = sym (ap (plan_at (held ws n)) e)
  plan_is (code.Some r) p =
      ap (contract r.at) (p.1.length_is ∙ ap size (plan_next p.0)) ∙ sym (ap (plan_at (held ws n)) p.0)

abbrev contracts_at : Plan → Option ℕ
contracts_at normal = none
contracts_at (contract p n) = some p

-- A side's part in a round, by its plan.
module _ {ws scratch room : List ℕ} {n : ℕ} {todo : code.Option Redex} (h : Advances ws n todo scratch room) where
  start : Start ws n (held ws n)
  start = term_at_start ws n (held ws n) h.holds.term

  told : plan_of todo ≡ planned (held ws n)
  told = plan_is ws n todo h.plan

  pub advance_normal : todo ≡ code.None → Advanced ws n todo scratch n n ws scratch
  advance_normal e = by (planned_tells (held ws n)) (sym told ∙ ap plan_of e)
    where
      by : {q : Plan} → Planned (held ws n) q → q ≡ normal → Advanced ws n todo scratch n n ws scratch
      by (is_normal r l) f =
          let same = next_normal (held ws n) l in
          record {
            returned = sym start.long ∙ ap size (sym same);
            resumes = ap (resume_at n) (sym (ap plan_of e) ∙ told);
            workspace = rw same (rw start.long (sym start.start));
            written = sym (ap (λ q. scratch_after q ws scratch) e);
          }
      by (contracts p u r c l) f = absurd (some-ne-none p (ap contracts_at f))

  module _ {r : Redex} (e : todo ≡ code.Some r) where
    found : search.Planned ws n (code.Some r)
    found = rw e at h.plan

    to : stepNext.next ws n r.at ≡ next (held ws n)
    to = plan_next ws n found.0

    pub advance-room : step.HasRoom ws n r scratch room
    advance-room =
        let long : r.length ≡ size (next (held ws n)) = found.1.length_is ∙ ap size to in
        record { plan = found.1; fits = rw long h.fits; scratch_fits = rw long h.scratch_fits; room_fits = h.room_fits }

    pub advance-contracted : {m from : ℕ} {ws' scratch' : List ℕ} → step.Contracted ws n r scratch m ws' scratch' → from ≡ resume_at m (plan_of (code.Some r))
        → Advanced ws n todo scratch m from ws' scratch'
    advance-contracted {m} d k =
        record {
          returned = d.returned ∙ ap size to;
          resumes = k ∙ ap (resume_at m) (sym (ap plan_of e) ∙ told);
          workspace = d.workspace ∙ ap (λ t. words t ++ drop (size t) ws) to;
          written = d.written ∙ sym (ap (λ q. scratch_after q ws scratch) e);
        }
