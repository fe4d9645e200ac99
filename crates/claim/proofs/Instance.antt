-- The claim at lists of presses, and what the lists do, computed: one that ends in Same with each refusal of a press once, and two, in workspaces of
-- different lengths, that end in Different. What the claim and the two-press rule suppose holds of them.
use Prim.Native.Nat.{ℕ, ◌-◌}
use mathlib.Core.Path.{◌≡◌, refl}
use mathlib.Core.List.{List, [], ◌∷◌, map}
use mathlib.Core.Logic.Dec
use mathlib.Core.Logic.{inl, inr}
use mathlib.Core.Option.{some, none, bind, or_else}
use native.Mathlib.Decide.{ℕ_discrete, dec_le, dec_lt}
use native.Mathlib.Omega.{arith}
use lib.ListN.{length, take, replicate}
use Rattle.calculus.specs.Term.{Term, var, lam, app}
use Rattle.calculus.specs.Decide.{both₃, is_tag?, starts_above?, rising?, everywhere?, tagged?, accepted?}
use Rattle.calculus.specs.Read.{take_term, take_terms, take_branches, read_lam, read_app, read_con, read_case, read_branch, item, items, one_term, read}
use Rattle.calculus.specs.Step.{first_step}
use Rattle.calculus.specs.Leftmost.{leftmost}
use Rattle.calculus.specs.Equality.{tree, from_trees, equal?}
use Rattle.calculus.specs.Workspace.{term_at}
use Rattle.calculus.specs.Conversion.{Joined}
use Rattle.calculus.specs.Comparison.{FirstDifference}
use Rattle.calculus.specs.Rounds.{Same, Different, Budget, Full, same, rounds_in, rounds_by}
use Rattle.calculus.specs.Refusal.{WrongWorkspace, OverBudget, NoTerm}
use Rattle.calculus.specs.Bench.{shown as showing}
use Rattle.claim.specs.State.{fresh}
use Rattle.claim.specs.Limits.{Limits}
use Rattle.claim.specs.Answer.{refused, shown, Memory, Call}
use Rattle.claim.specs.Press.{press}
use Rattle.claim.specs.Presses.{final, history, spent_in, budget_in_one_go}
use Rattle.claim.specs.Claim.{Contains, Again, Ended, in_all, SameTerms, Claim, together}
use Rattle.claim.proofs.Claim.{every_list_of_presses}
use Rattle.claim.proofs.TwoPresses.{two_presses}

abbrev call : (scratch left right budget : ℕ) → Call
call scratch left right budget = record { scratch = replicate scratch 7; left_length = left; right_length = right; budget = budget }

-- 2,2,1,1,8,0,8 against f0 ("Bench pairs"), with C 16 and from a session of total 5. The words after the terms and the session are any.
abbrev left_term : Term
left_term = app (app (lam (lam (var 1))) (var 0)) (var 1)

abbrev right_term : Term
right_term = var 0

abbrev start : Memory
start =
    record {
      left = 2 ∷ 2 ∷ 1 ∷ 1 ∷ 8 ∷ 0 ∷ 8 ∷ replicate 9 7;
      right = 0 ∷ replicate 15 7;
      session = record { total = 5; left = 3; right = 4; verdict = Full };
    }

-- The same from another total.
abbrev total : ℕ → Memory
total n = record { left = start.left; right = start.right; session = record { total = n; left = 3; right = 4; verdict = Full } }

-- 1. A scratch of 15 words: refused, 7.
-- 2. The left term goes to 2,1,8,8, the right one is normal, and a second contraction would pass the budget: Budget, spent 1, total 5 + 1.
-- 3. The first 7 words of the left workspace, 2,1,8,8,0,0,0, are no term: refused, 10.
-- 4. A budget above 1,000,000: refused, 9.
-- 5. The left term goes to 0, which the right one is: Same, spent 1, total 6 + 1.
abbrev calls : List Call
calls = call 15 7 1 1 ∷ call 16 7 1 1 ∷ call 16 7 1 1 ∷ call 16 4 1 1000001 ∷ call 16 4 1 1 ∷ []

-- After them one that spends 0 and gives Same again, and one with lengths of earlier terms.
abbrev later : List Call
later = call 16 1 1 1000000 ∷ call 16 4 1 1 ∷ []

-- All refused, 7 and 10.
abbrev refusing : List Call
refusing = call 15 7 1 1 ∷ call 16 6 1 1 ∷ []

pub record Computed : Type 0 where
  pub answers :
      map (λ e. e.1) (history start calls)
      ≡ refused WrongWorkspace ∷ shown (showing Budget 1 4 1 0) ∷ refused NoTerm ∷ refused OverBudget ∷ shown (showing Same 1 1 1 0) ∷ []
  pub after-two-calls :
      final start (take 2 calls)
      ≡ record {
        left = 2 ∷ 1 ∷ 8 ∷ 8 ∷ replicate 12 0;
        right = 0 ∷ replicate 15 0;
        session = record { total = 6; left = 4; right = 1; verdict = Budget };
      }
  pub after-all :
      final start calls
      ≡ record {
        left = 0 ∷ replicate 15 0;
        right = 0 ∷ replicate 15 0;
        session = record { total = 7; left = 1; right = 1; verdict = Same };
      }
  pub budget-in-one-go : budget_in_one_go (history start calls) ≡ some 2
  pub spent : spent_in (history start calls) ≡ 2
  pub ended : Ended start calls (showing Same 1 1 1 0)
  pub later_answers : map (λ e. e.1) (history (final start calls) later) ≡ shown (showing Same 0 1 1 0) ∷ refused NoTerm ∷ []
  pub refused_all : budget_in_one_go (history start refusing) ≡ none
  pub total_at_its_limit : (press (total 999999999) (call 16 7 1 1)).answer ≡ shown (showing Budget 1 4 1 0)
  pub total_above_its_limit : (press (total 1000000000) (call 16 7 1 1)).answer ≡ refused OverBudget
  -- Presses that meet two refusals, neighbours in the order of the checks, and one that is refused for the right side alone.
  pub workspace_before_budget : (press start (call 15 7 1 1000001)).answer ≡ refused WrongWorkspace
  pub budget_before_term : (press start (call 16 6 1 1000001)).answer ≡ refused OverBudget
  pub total_before_term : (press (total 1000000000) (call 16 7 2 1)).answer ≡ refused OverBudget
  pub no_term_on_the_right : (press start (call 16 7 2 1)).answer ≡ refused NoTerm

-- (\x.x f1) f0, 2,1,2,0,16,0, against f0 f2, 2,0,16, in workspaces of C words and from a fresh session: with 16 words a press of budget 0 stops at
-- Budget and the next one ends in Different; with 20 words one press ends there at once. The left term goes to 2,0,8: the first terms differ at word 1, and
-- those that stand there at the end at word 2.
abbrev contracting : Term
contracting = app (lam (app (var 0) (var 2))) (var 0)

abbrev other : Term
other = app (var 0) (var 2)

abbrev pair : (C : ℕ) → Memory
pair C =
    record {
      left = 2 ∷ 1 ∷ 2 ∷ 0 ∷ 16 ∷ 0 ∷ replicate (C - 6) 7;
      right = 2 ∷ 0 ∷ 16 ∷ replicate (C - 3) 7;
      session = fresh;
    }

abbrev in_two : List Call
in_two = call 16 6 3 0 ∷ call 16 6 3 1 ∷ []

abbrev in_one : List Call
in_one = call 20 6 3 5 ∷ []

pub record Apart : Type 0 where
  pub in-two-answers : map (λ e. e.1) (history (pair 16) in_two) ≡ shown (showing Budget 0 6 3 0) ∷ shown (showing Different 1 3 3 2) ∷ []
  pub in-one-answers : map (λ e. e.1) (history (pair 20) in_one) ≡ shown (showing Different 1 3 3 2) ∷ []
  pub in-two-left :
      final (pair 16) in_two
      ≡ record {
        left = 2 ∷ 0 ∷ 8 ∷ replicate 13 0;
        right = 2 ∷ 0 ∷ 16 ∷ replicate 13 0;
        session = record { total = 1; left = 3; right = 3; verdict = Different };
      }
  pub first_ended : Ended (pair 16) (take 1 in_two) (showing Budget 0 6 3 0)
  pub later_answer : map (λ e. e.1) (history (final (pair 16) in_two) (call 16 3 3 0 ∷ [])) ≡ shown (showing Different 0 3 3 2) ∷ []
  pub in-two-ended : Ended (pair 16) in_two (showing Different 1 3 3 2)
  pub in-one-ended : Ended (pair 20) in_one (showing Different 1 3 3 2)
  pub first_press : (press (pair 16) (call 16 6 3 0)).answer ≡ shown (showing Budget 0 6 3 0)
  pub second_press : (press (press (pair 16) (call 16 6 3 0)).memory (call 16 6 3 1)).answer ≡ shown (showing Different 1 3 3 2)
  pub in-two-spent : spent_in (history (pair 16) in_two) ≡ 1
  pub on_first_terms : (press (pair 20) (call 20 6 3 1)).answer ≡ shown (showing Different 1 3 3 2)
  pub on_first_terms_with_more : (press (pair 20) (call 20 6 3 1000000)).answer ≡ shown (showing Different 1 3 3 2)

pub computed : Computed
unfolding press term_at read items item take_term take_terms take_branches read_lam read_app read_con read_case read_branch one_term accepted? everywhere? tagged? both₃ is_tag? starts_above? rising? Dec.and dec_le dec_lt bind or_else first_step leftmost tree from_trees equal? ℕ_discrete same rounds_in rounds_by
computed =
    record {
      answers = refl;
      after-two-calls = refl;
      after-all = refl;
      budget-in-one-go = refl;
      spent = refl;
      ended = refl;
      later_answers = refl;
      refused_all = refl;
      total_at_its_limit = refl;
      total_above_its_limit = refl;
      workspace_before_budget = refl;
      budget_before_term = refl;
      total_before_term = refl;
      no_term_on_the_right = refl;
    }

pub apart : Apart
unfolding press term_at read items item take_term take_terms take_branches read_lam read_app read_con read_case read_branch one_term accepted? everywhere? tagged? both₃ is_tag? starts_above? rising? Dec.and dec_le dec_lt bind or_else first_step leftmost tree from_trees equal? ℕ_discrete same rounds_in rounds_by
apart =
    record {
      in-two-answers = refl;
      in-one-answers = refl;
      in-two-left = refl;
      first_ended = refl;
      later_answer = refl;
      in-two-ended = refl;
      in-one-ended = refl;
      first_press = refl;
      second_press = refl;
      in-two-spent = refl;
      on_first_terms = refl;
      on_first_terms_with_more = refl;
    }

pub left_holds : Contains 16 left_term start.left
left_holds = record { holds = record { within = omega arith; words_are = refl; accepted = omega arith }; length_is = refl }

pub right_holds : Contains 16 right_term start.right
right_holds = record { holds = record { within = omega arith; words_are = refl; accepted = omega arith }; length_is = refl }

pub claimed : Claim 16 left_term right_term start calls
claimed = every_list_of_presses 16 left_term right_term start left_holds right_holds calls

pub unchanged : final start refusing ≡ start
unchanged = (every_list_of_presses 16 left_term right_term start left_holds right_holds refusing).all_refused computed.refused_all

pub stayed : Again (showing Same 0 1 1 0) (history (final start calls) later) × (final (final start calls) later ≡ final start calls)
stayed = claimed.stays (showing Same 1 1 1 0) computed.ended (inl refl) later

pub limits : Limits
unfolding term_at read items item take_term take_terms take_branches read_lam read_app read_con read_case read_branch one_term accepted? everywhere? tagged? both₃ is_tag? starts_above? rising? Dec.and dec_le dec_lt bind
limits =
    record {
      budget_1000000 = refl;
      budget_1000001 = refl;
      total_1000000000 = refl;
      total_1000000001 = refl;
      fresh_total = refl;
      fresh_left = refl;
      fresh_right = refl;
      fresh_verdict = refl;
    }

contracting_holds : (C : ℕ) → length (pair C).left ≡ C → Contains C contracting (pair C).left
contracting_holds C e = record { holds = record { within = omega arith; words_are = refl; accepted = omega arith }; length_is = e }

other_holds : (C : ℕ) → length (pair C).right ≡ C → Contains C other (pair C).right
other_holds C e = record { holds = record { within = omega arith; words_are = refl; accepted = omega arith }; length_is = e }

pub claimed_apart : Claim 16 contracting other (pair 16) in_two
claimed_apart = every_list_of_presses 16 contracting other (pair 16) (contracting_holds 16 refl) (other_holds 16 refl) in_two

-- Both lists agree, a press on the first terms gives what they end in, no chain joins the terms, they differ first at word 2, every later
-- press says so again, Budget has no position, and the two presses of the first list are one.
pub agreed : (in_all (pair 16) in_two (showing Different 1 3 3 2) ≡ in_all (pair 20) in_one (showing Different 1 3 3 2))
    × SameTerms (showing Different 1 3 3 2) (final (pair 16) in_two) (final (pair 20) in_one)
agreed =
    claimed_apart.agree (showing Different 1 3 3 2) apart.in-two-ended (inr refl) 20 (pair 20) in_one (contracting_holds 20 refl) (other_holds 20 refl)
    (showing Different 1 3 3 2) apart.in-one-ended (inr refl)

pub again : (showing Different 1 3 3 2 ≡ in_all (pair 16) in_two (showing Different 1 3 3 2))
    × SameTerms (showing Different 1 3 3 2) (press (pair 20) (call 20 6 3 1)).memory (final (pair 16) in_two)
again =
    claimed_apart.on_first_terms (showing Different 1 3 3 2) apart.in-two-ended (inr refl) 20 (pair 20) (call 20 6 3 1) (omega arith)
    (contracting_holds 20 refl) (other_holds 20 refl) (omega (arith, apart.in-two-spent)) (showing Different 1 3 3 2) apart.on_first_terms

pub again_with_more : (showing Different 1 3 3 2 ≡ in_all (pair 16) in_two (showing Different 1 3 3 2))
    × SameTerms (showing Different 1 3 3 2) (press (pair 20) (call 20 6 3 1000000)).memory (final (pair 16) in_two)
again_with_more =
    claimed_apart.on_first_terms (showing Different 1 3 3 2) apart.in-two-ended (inr refl) 20 (pair 20) (call 20 6 3 1000000) (omega arith)
    (contracting_holds 20 refl) (other_holds 20 refl) (omega (arith, apart.in-two-spent)) (showing Different 1 3 3 2) apart.on_first_terms_with_more

pub not_joined : Joined contracting other → ⊥
not_joined = claimed_apart.different (showing Different 1 3 3 2) apart.in-two-ended refl

pub differ_at_2 : FirstDifference 2 (take 3 (final (pair 16) in_two).left) (take 3 (final (pair 16) in_two).right)
differ_at_2 = claimed_apart.first_difference (showing Different 1 3 3 2) apart.in-two-ended refl

pub stayed_apart : Again (showing Different 0 3 3 2) (history (final (pair 16) in_two) (call 16 3 3 0 ∷ []))
    × (final (final (pair 16) in_two) (call 16 3 3 0 ∷ []) ≡ final (pair 16) in_two)
stayed_apart = claimed_apart.stays (showing Different 1 3 3 2) apart.in-two-ended (inr refl) (call 16 3 3 0 ∷ [])

pub no_position_with_budget : (showing Budget 0 6 3 0).position ≡ 0
no_position_with_budget =
    (every_list_of_presses 16 contracting other (pair 16) (contracting_holds 16 refl) (other_holds 16 refl) (take 1 in_two)).no_position
    (showing Budget 0 6 3 0) apart.first_ended (λ e. let z : ◌≡◌ {A = ℕ} 0 1 = cc in omega arith)

pub together_once : ((press (pair 16) (together (call 16 6 3 0) (replicate 16 3) 0 1)).answer ≡ shown (showing Different 1 3 3 2))
    × ((press (pair 16) (together (call 16 6 3 0) (replicate 16 3) 0 1)).memory ≡ (press (press (pair 16) (call 16 6 3 0)).memory (call 16 6 3 1)).memory)
together_once =
    two_presses (pair 16) (call 16 6 3 0) (call 16 6 3 1) (replicate 16 3) (showing Budget 0 6 3 0) (showing Different 1 3 3 2) refl apart.first_press refl refl
    apart.second_press (omega arith)
