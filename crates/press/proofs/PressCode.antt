-- A press as the code makes it: the refusals by their tests, and what is concluded from the words that the rounds leave.
use Prim.Native.Nat.{ℕ, ◌+◌, ◌-◌, ◌≤◌}
use mathlib.Core.Path.{◌≡◌, refl, sym, ◌∙◌, ap, ap₂}
use mathlib.Core.Bool.{Bool, true, false, ◌&&◌, true≢false, false≢true}
use mathlib.Core.List.{List, [], ◌∷◌, ◌++◌}
use mathlib.Core.Option.{Option, some, none, get_or, Option-elim}
use native.Mathlib.Nat.{le_trans}
use native.Mathlib.Omega.{arith}
use lib.Dec.{leb}
use lib.ListN.{length, take, replicate, length-append}
use borrow.Author.Tests.{le-leb}
use Rattle.calculus.specs.Term.{Term, var}
use Rattle.calculus.specs.Words.{words, size, workspace_most}
use Rattle.calculus.specs.Workspace.{sized, term_at, padded}
use Rattle.calculus.specs.Refusal.{WrongWorkspace, OverBudget, NoTerm}
use Rattle.calculus.specs.Rounds.{Outcome, Shown, rounds}
use Rattle.calculus.proofs.WorkspaceLaws.{sized_most, term_at_exact}
use Rattle.claim.proofs.Workspaces.{sized_right, sized_scratch}
use Rattle.words.proofs.ClearLaws.{cleared_padded}
use Rattle.redex.specs.Held.{held, Holds}
use Rattle.rounds.specs.Run.{Ready, Ran}
use Rattle.terms.specs.IsTerm.{is_term}
use Rattle.claim.specs.State.{Session, affordable}
use Rattle.claim.specs.Answer.{shown, Memory, Call, Pressed}
use Rattle.claim.specs.Press.{refuse, conclude, press_terms, press}

-- What the rounds leave: each term fits its workspace, and with the words after the terms cleared it is what `conclude` says.
module _ {C budget : ℕ} {o : Outcome} {a : Shown} {cs ws vs cs' : List ℕ} (h : Ran C budget o a cs ws vs cs') where
  left-length : a.left ≡ size o.left
  left-length = ap (λ a. a.left) h.shown_is

  right-length : a.right ≡ size o.right
  right-length = ap (λ a. a.right) h.shown_is

  pub ran_left_fits : a.left ≤ length ws
  ran_left_fits = omega (arith, left-length, ap length h.left_words, length-append (words o.left) h.left_others)

  pub ran_right_fits : a.right ≤ length vs
  ran_right_fits = omega (arith, right-length, ap length h.right_words, length-append (words o.right) h.right_others)

  pub ran_concludes : (s : Session) {l r c : List ℕ} → length cs ≡ C
      → l ≡ take a.left ws ++ replicate (length ws - a.left) 0 → r ≡ take a.right vs ++ replicate (length vs - a.right) 0 → c ≡ take 0 cs' ++ replicate (length cs' - 0) 0
      → ◌≡◌ {A = Pressed}
      (record {
        answer = shown a;
        memory =
            record { left = l; right = r; session = record { total = s.total + a.spent; left = a.left; right = a.right; verdict = a.verdict } };
        scratch = c;
      })
      (conclude C s o)
  ran_concludes s {l} {r} {c} lc el er ec i =
      let left : l ≡ padded C (words o.left) = el ∙ cleared_padded C ws h.left_others o.left a.left h.left_words left-length h.left-length in
      let right : r ≡ padded C (words o.right) = er ∙ cleared_padded C vs h.right_others o.right a.right h.right_words right-length h.right-length in
      let zeros : length cs' - 0 ≡ C = omega (arith, ap length h.scratch_room.left, h.scratch_room.length_stays) in
      let scratch : c ≡ replicate C 0 = ec ∙ ap (λ k. replicate k 0) zeros in
      let a' = h.shown_is in
      record {
        answer = shown (a' i);
        memory =
            record {
              left = left i;
              right = right i;
              session = record { total = s.total + (a' i).spent; left = (a' i).left; right = (a' i).right; verdict = (a' i).verdict };
            };
        scratch = scratch i;
      }

-- The test behind refusal 10, in a workspace.
module _ (ws : List ℕ) (n : ℕ) (limit : length ws ≤ workspace_most) where
  abbrev is_some : Option Term → Bool
  is_some o = Option-elim o false (λ t. true)

  tells_none : (o : Option Term) → term_at ws n ≡ o → (leb n workspace_most && is_some o) ≡ false → o ≡ none
  unfolding Option-elim
  tells_none none e h = refl
  tells_none (some t) e h =
      let b = le-leb n workspace_most (le_trans ((term_at_exact ws n t).0 e).within limit) in absurd (true≢false (sym (ap (λ x. x && true) b) ∙ h))

  tells_some : (b : Bool) (o : Option Term) → (b && is_some o) ≡ true → o ≡ some (get_or o (var 0))
  unfolding Option-elim
  tells_some true none h = absurd (false≢true h)
  tells_some true (some t) h = refl
  tells_some false o h = absurd (false≢true h)

  pub not_term : is_term ws n ≡ false → term_at ws n ≡ none
  unfolding is_term
  not_term h = tells_none (term_at ws n) refl h

  pub is_held : is_term ws n ≡ true → Holds ws n
  unfolding is_term held
  is_held h = record { term = tells_some (leb n workspace_most) (term_at ws n) h; limit = limit }

-- What the press on two terms asks, from the four tests.
pub runs : (left right scratch : List ℕ) (l r : ℕ) → sized (length left ∷ length right ∷ length scratch ∷ []) ≡ true → is_term left l ≡ true
    → is_term right r ≡ true → Ready left right scratch l r
runs left right scratch l r fits is-left is_right =
    let limit = sized_most (length left) (length right ∷ length scratch ∷ []) fits in
    let right_limit : length right ≤ workspace_most = rw (sized_right (length left) (length right) (length scratch) fits) limit in
    record {
      left_holds = is_held left l limit is-left;
      right_holds = is_held right r right_limit is_right;
      right-length = sized_right (length left) (length right) (length scratch) fits;
      scratch_length = sized_scratch (length left) (length right) (length scratch) fits;
    }

-- A press, by its tests in their order.
module _ (m : Memory) (c : Call) where
  pub refused_workspace : sized (length m.left ∷ length m.right ∷ length c.scratch ∷ []) ≡ false → press m c ≡ refuse m c WrongWorkspace
  unfolding press
  refused_workspace e = rw e

  module _ (fits : sized (length m.left ∷ length m.right ∷ length c.scratch ∷ []) ≡ true) where
    pub refused_budget : affordable c.budget m.session.total ≡ false → press m c ≡ refuse m c OverBudget
    unfolding press
    refused_budget e = rw (fits, e)

    module _ (affords : affordable c.budget m.session.total ≡ true) where
      by_terms : press m c ≡ press_terms m c (term_at m.left c.left_length) (term_at m.right c.right_length)
      unfolding press
      by_terms = rw (fits, affords)

      limit : length m.left ≤ workspace_most
      limit = sized_most (length m.left) (length m.right ∷ length c.scratch ∷ []) fits

      right_limit : length m.right ≤ workspace_most
      right_limit = rw (sized_right (length m.left) (length m.right) (length c.scratch) fits) limit

      pub refused_left : is_term m.left c.left_length ≡ false → press m c ≡ refuse m c NoTerm
      refused_left e =
          by_terms ∙ ap (λ t. press_terms m c t (term_at m.right c.right_length)) (not_term m.left c.left_length limit e)

      module _ (is-left : is_term m.left c.left_length ≡ true) where
        pub refused_right : is_term m.right c.right_length ≡ false → press m c ≡ refuse m c NoTerm
        refused_right e =
            by_terms
            ∙ ap₂ (press_terms m c) (is_held m.left c.left_length limit is-left).term (not_term m.right c.right_length right_limit e)

        pub pressed_terms : is_term m.right c.right_length ≡ true → {p : Pressed}
            → p
            ≡ conclude (length m.left) m.session
            (rounds (length m.left) c.budget (held m.left c.left_length) (held m.right c.right_length))
            → p ≡ press m c
        pressed_terms e q =
            q
            ∙ sym
            (by_terms
            ∙ ap₂ (press_terms m c) (is_held m.left c.left_length limit is-left).term
            (is_held m.right c.right_length right_limit e).term)
