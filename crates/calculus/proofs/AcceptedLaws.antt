-- Contraction keeps a term accepted: tags and counts stay as they are, and free numbers within their limit.
--
-- A law here has the numbers of binders around the expression before (d) and after (d') as variables, with inequalities between them, so that it
-- applies again under a binder.
use Prim.Native.Nat.{ℕ, suc, ◌+◌, ◌-◌, ◌≤◌}
use mathlib.Core.Path.{◌≡◌, refl}
use mathlib.Core.Bool.{Bool, true, false, cond}
use mathlib.Core.Option.{Option, some}
use lib.Dec.{ltb}
use lib.IntN.{pos}
use borrow.Author.Tests.{ltb-true}
use native.Mathlib.Nat.{add-zero}
use native.Mathlib.Omega.{arith}
use Rattle.calculus.specs.Term.{Sort, Exp, nil, cons, end, branch, Term, Terms, Branches, count, is_default}
use Rattle.calculus.specs.Accepted.{free_limit, InScope, acceptance, Accepted}
use Rattle.calculus.specs.Shift.{moving, shift}
use Rattle.calculus.specs.Substitution.{argument, replaced, replacing, subst}
use Rattle.calculus.specs.Contraction.{Rule, default, listed, select, Contracts, at_beta, at_case, at_numeral, in_body, in-function, in-argument}
use Rattle.calculus.specs.Contraction.{in-arguments, in-subject, in-branches, in-first, in-later, in-branch, in-later-branch}
use Rattle.calculus.specs.Leftmost.{leftmost}
use Rattle.calculus.specs.Theorems.{ContractionKeepsAccepted}
use Rattle.calculus.proofs.All.{All, nothing, holds, all-eqb, all_some}
use Rattle.calculus.proofs.DefaultLaws.{default_is}
use Rattle.calculus.proofs.Move.{move_down}
use Rattle.calculus.proofs.Spine.{spine_contraction, count_kept, rising_kept}
use Rattle.calculus.proofs.EverywhereLaws.{Implies, everywhere_traverse}
use Rattle.calculus.proofs.NumeralLaws.{numeral_accepted}
use Rattle.calculus.proofs.LeftmostLaws.{leftmost_contracts}

-- What a test chooses has a property that both choices have; the first may use that the test holds.
chosen : {A : Type 0} (P : A → Type 0) (b : Bool) {x y : A} → (b ≡ true → P x) → P y → P (cond b x y)
chosen P true f k = f refl
chosen P false f k = k

-- Of other words than variables acceptance asks what stays: tags, counts and numerals.
acceptance-kept : Implies acceptance acceptance
acceptance-kept =
    record {
      constructors = λ t n h. h;
      cases = λ bs cs same h. (count_kept bs cs same h.0, rising_kept bs cs same h.1);
      branches = λ t n h. h;
      numerals = λ n h. h;
    }

-- Shifted up by k, an expression is accepted under k binders more.
pub accepted_shift : {s : Sort} (k cutoff d d' : ℕ) → d + k ≤ d' → (e : Exp s) → Accepted d e → Accepted d' (shift (pos k) cutoff e)
accepted_shift k cutoff d d' le e h =
    everywhere_traverse {R = λ d d' c. d + k ≤ d'} (moving (pos k)) acceptance-kept
    (record { abstractions = λ d d' c r. omega arith; bodies = λ d d' c n r. omega arith })
    (λ d d' c i r g. chosen (λ j. InScope d' j) (ltb i c) (λ q. omega arith) (omega arith))
    d d' cutoff le e h

accepted_argument : (d : ℕ) (xs : Terms) (k : ℕ) → Accepted d xs → All (Accepted d) (argument xs k)
accepted_argument d nil k h = nothing
accepted_argument d (cons a xs) k h = all-eqb k (count xs) (λ q. holds h.0) (accepted_argument d xs k h.1)

-- With arguments that are accepted under d₀ binders put for its indices, an expression is accepted under as many binders fewer.
module _ (xs : Terms) (d₀ : ℕ) (h₀ : Accepted d₀ xs) where
  accepted_replaced : (depth i d' : ℕ) → depth + d₀ ≤ d' → i ≤ d' + count xs + free_limit → {o : Option Term} → All (Accepted d₀) o
      → Accepted d' (replaced xs depth i o)
  accepted_replaced depth i d' le h nothing = omega (arith, move_down (count xs) i)
  accepted_replaced depth i d' le h (holds {a = a} k) = accepted_shift depth 0 d₀ d' (omega arith) a k

  pub accepted_subst : {s : Sort} (depth d d' : ℕ) → depth + d₀ ≤ d' → d ≤ d' + count xs → (e : Exp s) → Accepted d e
      → Accepted d' (subst xs depth e)
  accepted_subst depth d d' le fits e h =
      everywhere_traverse {R = λ d d' depth. (depth + d₀ ≤ d') × (d ≤ d' + count xs)} (replacing xs) acceptance-kept
      (record { abstractions = λ d d' c r. (omega arith, omega arith); bodies = λ d d' c n r. (omega arith, omega arith) })
      (λ d d' depth i r g.
      chosen (Accepted d') (ltb i depth) (λ q. omega (arith, ltb-true i depth q))
      (accepted_replaced depth i d' r.0 (omega arith) (accepted_argument d₀ xs (i - depth) h₀)))
      d d' depth (le, fits) e h

accepted_default : (d : ℕ) (bs : Branches) → Accepted d bs → All (Accepted d) (default bs)
accepted_default d end h = nothing
accepted_default d (branch u n b bs) h =
    chosen (All (Accepted d)) (is_default u n) (λ q. holds (rw ((default_is u n q).1, add-zero d) at h.1)) (accepted_default d bs h.2)

accepted_listed : (d t : ℕ) (xs : Terms) {rest : Option Term} → Accepted d xs → All (Accepted d) rest → (bs : Branches) → Accepted d bs
    → All (Accepted d) (listed rest t xs bs)
accepted_listed d t xs k r end h = r
accepted_listed d t xs k r (branch u n b bs) h =
    let later = accepted_listed d t xs k r bs h.2 in
    chosen (All (Accepted d)) (is_default u n) (λ q. later)
    (all-eqb t u
    (λ q. all-eqb (count xs) n (λ q. holds (accepted_subst xs d k 0 (d + n) d (omega arith) (omega arith) b h.1)) nothing)
    later)

pub accepted_select : (d t : ℕ) (xs : Terms) → Accepted d xs → (bs : Branches) → Accepted d bs → All (Accepted d) (select t xs bs)
accepted_select d t xs k bs h = accepted_listed d t xs k (accepted_default d bs h) bs h

-- Contraction at every sort.
pub contraction_accepted : {s : Sort} {p : ℕ} {r : Rule} {e g : Exp s} (d : ℕ) → Contracts s p r e g → Accepted d e → Accepted d g
contraction_accepted d (at_beta {b = b} {a = a}) h =
    accepted_subst (cons a nil) d (h.1, tt) 0 (suc d) d (omega arith) (omega arith) b h.0
contraction_accepted d (at_case {t = t} {xs = xs} {bs = bs} c) h = all_some (rw c at (accepted_select d t xs h.1.1 bs h.2))
contraction_accepted d (at_numeral {n = n}) h = numeral_accepted d n
contraction_accepted d (in_body c) h = contraction_accepted (suc d) c h
contraction_accepted d (in-function c) h = (contraction_accepted d c h.0, h.1)
contraction_accepted d (in-argument c) h = (h.0, contraction_accepted d c h.1)
contraction_accepted d (in-arguments {xs = xs} {xs' = xs'} c) h =
    ((h.0.0, count_kept xs xs' (spine_contraction c) h.0.1), contraction_accepted d c h.1)
contraction_accepted d (in-subject c) h = (h.0, contraction_accepted d c h.1, h.2)
contraction_accepted d (in-branches {bs = bs} {bs' = bs'} c) h =
    (acceptance-kept.cases bs bs' (spine_contraction c) h.0, h.1, contraction_accepted d c h.2)
contraction_accepted d (in-first c) h = (contraction_accepted d c h.0, h.1)
contraction_accepted d (in-later c) h = (h.0, contraction_accepted d c h.1)
contraction_accepted d (in-branch {n = n} c) h = (h.0, contraction_accepted (d + n) c h.1, h.2)
contraction_accepted d (in-later-branch c) h = (h.0, h.1, contraction_accepted d c h.2)

pub contraction_keeps_accepted : ContractionKeepsAccepted
contraction_keeps_accepted d p r t u c h = contraction_accepted d c h

pub leftmost_keeps_accepted : (d : ℕ) (t u : Term) → leftmost t ≡ some u → Accepted d t → Accepted d u
leftmost_keeps_accepted d t u e h = contraction_accepted d (leftmost_contracts t u e).2 h
