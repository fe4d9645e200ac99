-- The rounds without limit are the limit of those with C and a budget, and their verdicts are exact.
use Prim.Native.Nat.{ℕ, zero, suc, ◌+◌, ◌-◌, ◌≤◌, max}
use mathlib.Core.Path.{◌≡◌, refl, sym, ◌∙◌, ap, subst}
use mathlib.Core.Bool.{Bool, true, false, cond}
use mathlib.Core.Logic.{inl, inr, ite}
use mathlib.Core.Option.{Option, some, none, map, get_or, some-injective, none-ne-some}
use native.Mathlib.Omega.{arith}
use lib.Dec.{ltb, eqb}
use borrow.Author.Tests.{eqb-true}
use Rattle.calculus.specs.Term.{Term}
use Rattle.calculus.specs.Words.{size}
use Rattle.calculus.specs.Relation.{stop, step, alone}
use Rattle.calculus.specs.Conversion.{Reaches, Joined}
use Rattle.calculus.specs.Leftmost.{leftmost}
use Rattle.calculus.specs.Equality.{equal?}
use Rattle.calculus.specs.Rounds.{Verdict, Same, Different, Budget, Full, Decided, Outcome, contractions, longest, Round, ends, goes, round, next, next_length, Question, same, round_by, ended, after, rounds_in, rounds_by, rounds}
use Rattle.calculus.specs.Unlimited.{Unlimited, at_once, both_normal, onward, UnlimitedExact, UnlimitedFound, Exact, Sound, VerdictsExact, SameSound}
use Rattle.calculus.proofs.Rewriting.{chain_of_star, chain-append, chain_reverse, reducts_joined}
use Rattle.calculus.proofs.ChurchRosser.{joined_normal_equal}
use Rattle.calculus.proofs.LeftmostLaws.{leftmost_none, leftmost_contracts}
use Rattle.calculus.proofs.RoundsLaws.{Goes, goes_on, resume, rounds-end, rounds_go}

pub budget_undecided : Decided Budget → ⊥
budget_undecided (inl e) = let z : ◌≡◌ {A = ℕ} 0 1 = cc in omega arith
budget_undecided (inr e) = let z : ◌≡◌ {A = ℕ} 0 1 = cc in omega arith

pub full_undecided : Decided Full → ⊥
full_undecided (inl e) = let z : ◌≡◌ {A = ℕ} 0 1 = cc in omega arith
full_undecided (inr e) = let z : ◌≡◌ {A = ℕ} 0 1 = cc in omega arith

never_both : {A : Type 0} {o : Option A} {a : A} → o ≡ none → o ≡ some a → ⊥
never_both {a = a} p q = none-ne-some a (sym p ∙ q)

-- A side makes no contraction just if it is normal.
pub no_contraction : (t : Term) → contractions (next_length t) ≡ 0 → leftmost t ≡ none
no_contraction t = by (leftmost t) refl
  where
    by : (o : Option Term) → leftmost t ≡ o → contractions (map size o) ≡ 0 → leftmost t ≡ none
    by none e h = e
    by (some t') e h = absurd (omega arith)

pub normal_stays : (t : Term) → leftmost t ≡ none → next_length t ≡ none
normal_stays t e = ap (map size) e

module _ (early : Question) where
  abbrev both : Term → Term → ℕ
  both t u = contractions (next_length t) + contractions (next_length u)

  none_moves : (t u : Term) → leftmost t ≡ none → leftmost u ≡ none → 1 ≤ both t u → ⊥
  none_moves t u p q h = omega (arith, ap contractions (normal_stays t p), ap contractions (normal_stays u q))

  -- A round that ends in a verdict that stays is such an end of the rounds without limit.
  ends_unlimited : (C rest : ℕ) (t u : Term) {v : Verdict} → round_by early C rest t u ≡ ends v → Decided v → Unlimited early t u 0 (ended v t u)
  ends_unlimited C rest t u {v} e d = by (early t u) refl e
    where
      decided : (x y z : Bool) → eqb (both t u) 0 ≡ x → early t u ≡ none
          → cond x (ends Different) (cond y (ends Budget) (cond z (ends Full) (goes (both t u)))) ≡ ends v → Unlimited early t u 0 (ended v t u)
      decided true y z f n e =
          let none-move : both t u ≡ 0 = eqb-true (both t u) 0 f in
          let v-is : Different ≡ v = cc in
          subst (λ v. Unlimited early t u 0 (ended v t u)) v-is (both_normal n (no_contraction t (omega arith)) (no_contraction u (omega arith)))
      decided false true z f n e = let v-is : Budget ≡ v = cc in absurd (budget_undecided (subst Decided (sym v-is) d))
      decided false false true f n e = let v-is : Full ≡ v = cc in absurd (full_undecided (subst Decided (sym v-is) d))
      decided false false false f n e = absurd (let z : ◌≡◌ {A = ℕ} 0 1 = cc in omega arith)

      by : (a : Option Verdict) → early t u ≡ a → round a C rest (next_length t) (next_length u) ≡ ends v → Unlimited early t u 0 (ended v t u)
      by (some w) n e = let v-is : w ≡ v = cc in at_once (n ∙ ap some v-is)
      by none n e = decided (eqb (both t u) 0) (ltb rest (both t u)) (ltb C (longest (next_length t) (next_length u))) refl n e

  -- Rounds that decide are rounds without limit.
  abbrev Decides : (C rest : ℕ) (t u : Term) → Outcome → Type 0
  Decides C rest t u o = Decided o.verdict → (m : ℕ) × (m ≤ C) × (o.spent ≤ rest) × Unlimited early t u m o

  found_resume : {C rest : ℕ} {t u : Term} {f : ℕ → Outcome} (x : Round) → round_by early C rest t u ≡ x
      → ((p : ℕ) → Goes (early t u) C rest (next_length t) (next_length u) p → Decides C rest t u (f p)) → Decides C rest t u (resume t u f x)
  found_resume {C} {rest} {t} {u} (ends v) e h = λ d. (0, omega arith, omega arith, ends_unlimited C rest t u e d)
  found_resume {C} {rest} {t} {u} (goes p) e h = h p (goes_on (early t u) C rest (next_length t) (next_length u) e)

  found : (n C rest : ℕ) (t u : Term) → Decides C rest t u (rounds_in early n C rest t u)
  unfolding rounds_in
  found zero C rest t u = found_resume (round_by early C rest t u) refl (λ p g d. absurd (budget_undecided d))
  found (suc n) C rest t u =
      found_resume (round_by early C rest t u) refl (λ p g d.
      let (m, h, k, w) = found n C (rest - p) (next t) (next u) d in (
        max (longest (next_length t) (next_length u)) m,
        omega (arith, g.fits),
        omega (arith, g.covered),
        subst (λ q. Unlimited early t u (max (longest (next_length t) (next_length u)) m) (after q (rounds_in early n C (rest - p) (next t) (next u)))) (sym g.made)
            (onward g.undecided (omega (arith, g.moves, g.made)) w),
      ))

  pub rounds_found : (C B : ℕ) (t u : Term) → Decides C B t u (rounds_by early C B t u)
  unfolding rounds_by
  rounds_found C B t u = found B C B t u

  pub unlimited_found : UnlimitedFound early
  unlimited_found t u C B d = let (m, h, k, w) = rounds_found C B t u d in (m, h, w)

  -- Budget and length that are enough give what the rounds without limit give.
  pub unlimited_rounds : {t u : Term} {m : ℕ} {o : Outcome} → Unlimited early t u m o → (C B : ℕ) → m ≤ C → o.spent ≤ B → rounds_by early C B t u ≡ o
  unlimited_rounds {t} {u} (at_once {v = v} e) C B h k = rounds-end early C B t u (ap (λ a. round a C B (next_length t) (next_length u)) e)
  unlimited_rounds {t} {u} (both_normal e p q) C B h k = rounds-end early C B t u (rw (e, normal_stays t p, normal_stays u q))
  unlimited_rounds {t} {u} (onward {m = m} {o = o} e g w) C B h k =
      let s : both t u + (B - both t u) ≡ B = omega arith in
      let moves : Goes (early t u) C (both t u) (next_length t) (next_length u) (both t u) =
      record { undecided = e; made = refl; moves = g; covered = omega arith; fits = omega arith } in
      ap (λ b. rounds_by early C b t u) (sym s)
      ∙ rounds_go early moves (B - both t u)
      ∙ ap (after (both t u)) (unlimited_rounds w C (B - both t u) (omega arith) (omega arith))

  pub unlimited_unique : {t u : Term} {m m' : ℕ} {o o' : Outcome} → Unlimited early t u m o → Unlimited early t u m' o' → (m ≡ m') × (o ≡ o')
  unlimited_unique {t} {u} (at_once {v = v} e) (at_once {v = w} f) = (refl, ap (λ v. ended v t u) (some-injective v w (sym e ∙ f)))
  unlimited_unique (at_once e) (both_normal f a b) = absurd (never_both f e)
  unlimited_unique (at_once e) (onward f g w) = absurd (never_both f e)
  unlimited_unique (both_normal e a b) (at_once f) = absurd (never_both e f)
  unlimited_unique (both_normal e a b) (both_normal f c d) = (refl, refl)
  unlimited_unique {t} {u} (both_normal e a b) (onward f g w) = absurd (none_moves t u a b g)
  unlimited_unique (onward e g w) (at_once f) = absurd (never_both e f)
  unlimited_unique {t} {u} (onward e g w) (both_normal f a b) = absurd (none_moves t u a b g)
  unlimited_unique {t} {u} (onward e g w) (onward f h w') =
      let (p, q) = unlimited_unique w w' in (ap (max (longest (next_length t) (next_length u))) p, ap (after (both t u)) q)

  pub unlimited_exact : UnlimitedExact early
  unlimited_exact t u m o w C B = (
    unlimited_rounds w C B,
    λ d.
        let (m', h, k, w') = rounds_found C B t u d in
        let (p, q) = unlimited_unique w w' in
        (subst (λ n. n ≤ C) (sym p) h, subst (λ o. o.spent ≤ B) (sym q) k),
  )

  -- Rounds that give Same or Different end in the same with every C at least as large and every budget of at least what they spent.
  pub rounds_stable : (C B : ℕ) (t u : Term) → Decided (rounds_by early C B t u).verdict → (C' B' : ℕ) → C ≤ C' → (rounds_by early C B t u).spent ≤ B'
      → rounds_by early C' B' t u ≡ rounds_by early C B t u
  rounds_stable C B t u d C' B' c b = let (m, h, k, w) = rounds_found C B t u d in unlimited_rounds w C' B' (omega arith) b

  -- Rounds on the same terms that each give Same or Different agree, whatever their budgets and their C.
  pub rounds-agree : (C B C' B' : ℕ) (t u : Term) → Decided (rounds_by early C B t u).verdict → Decided (rounds_by early C' B' t u).verdict
      → rounds_by early C B t u ≡ rounds_by early C' B' t u
  rounds-agree C B C' B' t u d d' =
      let (m, h, k, w) = rounds_found C B t u d in
      let (m', h', k', w') = rounds_found C' B' t u d' in
      (unlimited_unique w w').1

  -- Where they ended they end at once again.
  unlimited_end : {t u : Term} {m : ℕ} {o : Outcome} → Unlimited early t u m o → Unlimited early o.left o.right 0 (ended o.verdict o.left o.right)
  unlimited_end (at_once e) = at_once e
  unlimited_end (both_normal e p q) = both_normal e p q
  unlimited_end (onward e g w) = unlimited_end w

  pub rounds_again : (C B : ℕ) (t u : Term) → Decided (rounds_by early C B t u).verdict → (C' B' : ℕ)
      → (let o = rounds_by early C B t u in rounds_by early C' B' o.left o.right ≡ ended o.verdict o.left o.right)
  rounds_again C B t u d C' B' = let (m, h, k, w) = rounds_found C B t u d in unlimited_rounds (unlimited_end w) C' B' (omega arith) (omega arith)

-- What a verdict says of reducts it says of the terms.
pub reducts_exact : (v : Verdict) (t u t' u' : Term) → Reaches t t' → Reaches u u' → Exact v t' u' → Exact v t u
reducts_exact Same t u t' u' p q j = chain-append (chain_of_star p) (chain-append j (chain_reverse (chain_of_star q)))
reducts_exact Different t u t' u' p q n = λ j. n (reducts_joined p q j)
reducts_exact Budget t u t' u' p q n = n
reducts_exact Full t u t' u' p q n = n

pub next_reached : (t : Term) → Reaches t (next t)
next_reached t = by (leftmost t) refl
  where
    by : (o : Option Term) → leftmost t ≡ o → Reaches t (get_or o t)
    by none e = stop
    by (some t') e = step (leftmost_contracts t t' e) stop

pub unlimited_verdict : {early : Question} → Sound early → {t u : Term} {m : ℕ} {o : Outcome} → Unlimited early t u m o → Exact o.verdict t u
unlimited_verdict s (at_once {t = t} {u = u} {v = v} e) = s.answers t u v e
unlimited_verdict s (both_normal {t = t} {u = u} e p q) =
    λ j. s.finds t u e (joined_normal_equal t u j ((leftmost_none t).0 p) ((leftmost_none u).0 q))
unlimited_verdict s (onward {t = t} {u = u} {o = o} e g w) = reducts_exact o.verdict t u (next t) (next u) (next_reached t) (next_reached u) (unlimited_verdict s w)

pub verdicts_exact : VerdictsExact
verdicts_exact early s C B t u d = let (m, h, w) = unlimited_found early t u C B d in unlimited_verdict s w

-- The question of a press: Same where the terms are equal, and nothing else.
pub data Compared (t u : Term) : Option Verdict → Type 0 where
  equal : t ≡ u → Compared t u (some Same)
  unequal : (t ≡ u → ⊥) → Compared t u none

pub compared : (t u : Term) → Compared t u (same t u)
unfolding same
compared t u = by (equal? t u)
  where
    by : (d : Dec (t ≡ u)) → Compared t u (ite d (some Same) none)
    by (yes e) = equal e
    by (no n) = unequal n

same_answers : {t u : Term} {a : Option Verdict} → Compared t u a → (v : Verdict) → a ≡ some v → Exact v t u
same_answers {t} {u} (equal e) v h = subst (λ v. Exact v t u) (some-injective Same v h) (subst (Joined t) e alone)
same_answers (unequal n) v h = absurd (none-ne-some v h)

same_finds : {t u : Term} {a : Option Verdict} → Compared t u a → a ≡ none → t ≡ u → ⊥
same_finds (equal e) h = absurd (none-ne-some Same (sym h))
same_finds (unequal n) h = n

pub same_sound : SameSound
same_sound = record { answers = λ t u. same_answers (compared t u); finds = λ t u. same_finds (compared t u) }

-- A press's rounds that end in Same end in equal terms.
same_equal : {t u : Term} {a : Option Verdict} → Compared t u a → {v : Verdict} → a ≡ some v → t ≡ u
same_equal (equal e) h = e
same_equal (unequal n) h = absurd (none-ne-some _ h)

pub unlimited_same : {t u : Term} {m : ℕ} {o : Outcome} → Unlimited same t u m o → o.verdict ≡ Same → o.left ≡ o.right
unlimited_same {t} {u} (at_once e) h = same_equal (compared t u) e
unlimited_same (both_normal e p q) h = absurd (let z : ◌≡◌ {A = ℕ} 0 1 = cc in omega arith)
unlimited_same (onward e g w) h = unlimited_same w h

pub rounds-same : (C B : ℕ) (t u : Term) → (rounds C B t u).verdict ≡ Same → (rounds C B t u).left ≡ (rounds C B t u).right
rounds-same C B t u e = let (m, h, w) = unlimited_found same t u C B (inl e) in unlimited_same w e
