-- A press in the words of the claim: on workspaces that hold two terms it answers as `reply_to` says, and leaves workspaces that hold the terms that
-- `advance` says.
use Prim.Native.Nat.{ℕ, ◌+◌}
use mathlib.Core.Path.{◌≡◌, refl, sym, ◌∙◌, ap, subst}
use mathlib.Core.Bool.{Bool, true, false, cond, not, ◌&&◌, ◌||◌}
use mathlib.Core.List.{List, [], ◌∷◌}
use mathlib.Core.Option.{Option, some, none}
use native.Mathlib.Omega.{arith}
use lib.Dec.{leb, ltb, eqb}
use lib.ListN.{length, replicate}
use borrow.Author.Tests.{ltb-true, ltb-false, le-leb, lt-leb}
use Rattle.calculus.specs.Term.{Term}
use Rattle.calculus.specs.Words.{words, size}
use Rattle.calculus.specs.Workspace.{sized, term_at, padded}
use Rattle.calculus.specs.Refusal.{Refusal, WrongWorkspace, OverBudget, NoTerm}
use Rattle.calculus.specs.Rounds.{Outcome, Shown, at_once, rounds}
use Rattle.claim.specs.State.{budget_limit, total_limit, affordable}
use Rattle.claim.specs.Answer.{refused, shown, Memory, Call, Pressed}
use Rattle.claim.specs.Press.{refuse, conclude, press_terms, press}
use Rattle.claim.specs.Claim.{Contains, Reply, refuses, spends, reply_of, Progress, reply_to, advance, LeavesBy}
use Rattle.calculus.proofs.RoundsLaws.{Walk, walked, walk_fits}
use Rattle.calculus.proofs.WalkLaws.{walk_accepted}
use Rattle.claim.proofs.PressingLaws.{press_tests}
use Rattle.claim.proofs.Workspaces.{sized_right, sized_scratch, term_at_holds, holds_term_at, holds_padded, holds_fits}

-- The memory is where the list of calls stands.
pub record Stands (C : ℕ) (s : Progress) (m : Memory) : Type 0 where
  pub total_is : m.session.total ≡ s.total
  pub left_holds : Contains C s.left m.left
  pub right_holds : Contains C s.right m.right

-- A press refused as the reply says, or made with the rounds that spend what the reply says.
pub data Answered (C : ℕ) (s : Progress) (m : Memory) (c : Call) : Reply → Pressed → Type 0 where
  turned_down : (why : Refusal) → Answered C s m c (refuses why) (refuse m c why)
  made : length c.scratch ≡ C
      → Answered C s m c (spends (rounds C c.budget s.left s.right).spent) (conclude C m.session (rounds C c.budget s.left s.right))

-- The tests of a press pass where those of the table fail.
leb_not_ltb : (a b : ℕ) → leb a b ≡ not (ltb b a)
leb_not_ltb a b = by (ltb b a) refl
  where
    by : (t : Bool) → ltb b a ≡ t → leb a b ≡ not t
    by true e = lt-leb a b (ltb-true b a e)
    by false e = le-leb a b (ltb-false b a e)

none_of_two : (a b : Bool) → (not a && not b) ≡ not (a || b)
none_of_two true b = refl
none_of_two false b = refl

abbrev overspent : (budget total : ℕ) → Bool
overspent budget total = ltb budget_limit budget || ltb total_limit (total + budget)

affordable_not : (budget total : ℕ) → affordable budget total ≡ not (overspent budget total)
affordable_not budget total =
    rw (leb_not_ltb budget budget_limit, leb_not_ltb (total + budget) total_limit) (none_of_two (ltb budget_limit budget) (ltb total_limit (total + budget)))

answered_tests : (s : Progress) (m : Memory) (c : Call) (fits over l r : Bool) → (fits ≡ true → length c.scratch ≡ length m.left)
    → Answered (length m.left) s m c
    (cond (not fits) (refuses WrongWorkspace) (cond over (refuses OverBudget) (cond (not l || not r) (refuses NoTerm) (spends (rounds (length m.left) c.budget s.left s.right).spent))))
    (cond fits (cond (not over) (press_terms m c (cond l (some s.left) none) (cond r (some s.right) none)) (refuse m c OverBudget)) (refuse m c WrongWorkspace))
answered_tests s m c false over l r h = turned_down WrongWorkspace
answered_tests s m c true true l r h = turned_down OverBudget
answered_tests s m c true false false r h = turned_down NoTerm
answered_tests s m c true false true false h = turned_down NoTerm
answered_tests s m c true false true true h = made (h refl)

answered_here : (s : Progress) (m : Memory) (c : Call) → Stands (length m.left) s m
    → Answered (length m.left) s m c (reply_to (length m.left) s c) (press m c)
answered_here s m c h =
    let C = length m.left in
    let total-test : affordable c.budget m.session.total ≡ not (overspent c.budget s.total)
    = ap (affordable c.budget) h.total_is ∙ affordable_not c.budget s.total in
    rw (press_tests m c, h.right_holds.length_is, total-test, term_at_holds h.left_holds c.left_length, term_at_holds h.right_holds c.right_length)
    (answered_tests s m c (sized (C ∷ C ∷ length c.scratch ∷ [])) (overspent c.budget s.total)
    (eqb c.left_length (size s.left)) (eqb c.right_length (size s.right)) (sized_scratch C C (length c.scratch)))

pub answered : {C : ℕ} {s : Progress} {m : Memory} → Stands C s m → (c : Call) → Answered C s m c (reply_to C s c) (press m c)
answered {C} {s} {m} h c =
    subst (λ k. Stands k s m → Answered k s m c (reply_to k s c) (press m c)) h.left_holds.length_is (answered_here s m c) h

-- Workspaces and session as rounds leave them, by the session's total then.
abbrev pub concluded : (C total : ℕ) → Outcome → Memory
concluded C total o =
    record {
      left = padded C (words o.left);
      right = padded C (words o.right);
      session = record { total = total; left = size o.left; right = size o.right; verdict = o.verdict };
    }

-- Workspaces that hold two terms hold, with zeros after them, those that a walk leads to.
pub holds_walk : {C s : ℕ} {t u t' u' : Term} {ws vs : List ℕ} → Contains C t ws → Contains C u vs → Walk at_once C s t u t' u'
    → Contains C t' (padded C (words t')) × Contains C u' (padded C (words u'))
holds_walk h k w =
    let (f, g) = walk_fits at_once w in
    let (a, b) = walk_accepted w in
    (holds_padded (a h.holds.accepted) (f (holds_fits h)), holds_padded (b k.holds.accepted) (g (holds_fits k)))

pub stands_first : {C : ℕ} {t u : Term} (m : Memory) → Contains C t m.left → Contains C u m.right
    → Stands C (record { total = m.session.total; left = t; right = u }) m
stands_first m h k = record { total_is = refl; left_holds = h; right_holds = k }

pub stands_concluded : {C : ℕ} {t u : Term} {ws vs : List ℕ} → Contains C t ws → Contains C u vs → (B total : ℕ)
    → (let o = rounds C B t u in Stands C (record { total = total; left = o.left; right = o.right }) (concluded C total o))
stands_concluded {C} {t} {u} h k B total =
    let (l, r) = holds_walk h k (walked at_once C B t u) in
    record { total_is = refl; left_holds = l; right_holds = r }

-- After the press the memory is where `advance` says.
pub stands_next : {C : ℕ} {s : Progress} {m : Memory} {c : Call} {r : Reply} {p : Pressed} → Stands C s m → Answered C s m c r p
    → Stands C (advance C s c r) p.memory
stands_next h (turned_down why) = h
stands_next {C} {s} {c = c} h (made e) =
    let o = rounds C c.budget s.left s.right in
    let (l, r) = holds_walk h.left_holds h.right_holds (walked at_once C c.budget s.left s.right) in
    record { total_is = ap (λ n. n + o.spent) h.total_is; left_holds = l; right_holds = r }

pub refused≢shown : {why : Refusal} {a : Shown} → refused why ≡ shown a → ⊥
refused≢shown e = let z : ◌≡◌ {A = ℕ} 0 1 = cc in omega arith

pub shown_injective : {a b : Shown} → shown a ≡ shown b → a ≡ b
shown_injective e = cc

-- The answer is the reply.
pub reply_answered : {C : ℕ} {s : Progress} {m : Memory} {c : Call} {r : Reply} {p : Pressed} → Answered C s m c r p → reply_of p.answer ≡ r
reply_answered (turned_down why) = refl
reply_answered (made e) = refl

pub leaves_answered : {C : ℕ} {s : Progress} {m : Memory} {c : Call} {r : Reply} {p : Pressed} → Answered C s m c r p → LeavesBy m c p p.answer
leaves_answered (turned_down why) = (refl, refl, refl, refl)
leaves_answered (made e) = ap (λ n. replicate n 0) (sym e)

-- What an unrefused press has passed, and the two terms it is made on.
pub record Passed (m : Memory) (c : Call) (t u : Term) : Type 0 where
  pub size_passes : sized (length m.left ∷ length m.right ∷ length c.scratch ∷ []) ≡ true
  pub budget_passes : affordable c.budget m.session.total ≡ true
  pub left-term : term_at m.left c.left_length ≡ some t
  pub right-term : term_at m.right c.right_length ≡ some u

pub press_passed : {m : Memory} {c : Call} {t u : Term} → Passed m c t u
    → press m c ≡ conclude (length m.left) m.session (rounds (length m.left) c.budget t u)
press_passed {m} {c} h = rw (press_tests m c, h.size_passes, h.budget_passes, h.left-term, h.right-term)

pub passed : (m : Memory) (c : Call) {a : Shown} → (press m c).answer ≡ shown a → (t : Term) × (u : Term) × Passed m c t u
passed m c {a} e = by _ _ _ _ refl refl refl refl (rw (press_tests m c) at e)
  where
    by : (x y : Bool) (t u : Option Term) → sized (length m.left ∷ length m.right ∷ length c.scratch ∷ []) ≡ x
        → affordable c.budget m.session.total ≡ y → term_at m.left c.left_length ≡ t → term_at m.right c.right_length ≡ u
        → (cond x (cond y (press_terms m c t u) (refuse m c OverBudget)) (refuse m c WrongWorkspace)).answer ≡ shown a → (t : Term) × (u : Term) × Passed m c t u
    by false y t u p q f g e = absurd (refused≢shown e)
    by true false t u p q f g e = absurd (refused≢shown e)
    by true true none u p q f g e = absurd (refused≢shown e)
    by true true (some t) none p q f g e = absurd (refused≢shown e)
    by true true (some t) (some u) p q f g e = (t, u, record { size_passes = p; budget_passes = q; left-term = f; right-term = g })

-- The workspaces that it leaves hold the terms that its rounds end in.
pub holds_passed : {m : Memory} {c : Call} {t u : Term} → Passed m c t u
    → (let C = length m.left in let o = rounds C c.budget t u in
    Contains C o.left (padded C (words o.left)) × Contains C o.right (padded C (words o.right)))
holds_passed {m} {c} {t} {u} h =
    holds_walk (holds_term_at m.left c.left_length h.left-term)
    (subst (λ n. Contains n u m.right) (sized_right _ _ _ h.size_passes) (holds_term_at m.right c.right_length h.right-term))
    (walked at_once (length m.left) c.budget t u)
