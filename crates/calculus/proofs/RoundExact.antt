-- A round of a press, and the rounds one after the other, by what each side does.
use Prim.Native.Nat.{ℕ, ◌+◌, ◌-◌, ◌≤◌, ◌<◌}
use mathlib.Core.Path.{◌≡◌, refl, sym, ◌∙◌, ap, subst}
use mathlib.Core.Bool.{Bool, true, false, cond}
use mathlib.Core.Logic.{◌⊎◌, inl, inr, ⊎_elim}
use mathlib.Core.Option.{Option, some, none, map, get_or}
use native.Mathlib.Omega.{arith}
use lib.Dec.{ltb, eqb}
use borrow.Author.Tests.{ltb-true, ltb-false, lt-ltb, le-ltb, eqb-true, eqb-false, eq-eqb, ne_eqb}
use Rattle.calculus.specs.Term.{Term}
use Rattle.calculus.specs.Words.{words, size}
use Rattle.calculus.specs.Comparison.{Comparison, compare, position_of, FirstDifference}
use Rattle.calculus.specs.Rounds.{Verdict, Same, Different, Budget, Full, contractions, longest, Round, ends, goes, round, next, next_length, at_once, after, rounds, shown_position}
use Rattle.calculus.specs.Theorems.{Part, rests, moves, ComesTo, RoundExact, RoundsExact, ShownExact}
use Rattle.calculus.proofs.LeftmostLaws.{leftmost-step, leftmost_none}
use Rattle.calculus.proofs.RoundsLaws.{goes_on, goes_wider, next_is, next_normal, rounds-end, rounds_go}
use Rattle.calculus.proofs.ComparisonLaws.{unequal_terms_differ}
use Rattle.calculus.proofs.UnlimitedLaws.{Compared, equal, unequal, compared}

-- What a side does, as the rounds compute it: how many contractions, to which term, and whether that is longer than C words.
record Does (t : Term) (p : ℕ) (t' : Term) : Type 0 where
  made : contractions (next_length t) ≡ p
  next_is : next t ≡ t'
  over : (C : ℕ) → C < get_or (next_length t) 0 → (p ≡ 1) × (C < size t')
  reaches : p ≡ 1 → get_or (next_length t) 0 ≡ size t'

does : {t : Term} {p : ℕ} {t' : Term} → Part t p t' → Does t p t'
does {t} (rests n) =
    let e = (leftmost_none t).1 n in
    let length_is : next_length t ≡ none = ap (map size) e in
    record {
      made = ap contractions length_is;
      next_is = next_normal t e;
      over = λ C h. absurd (omega (arith, ap (λ o. get_or o 0) length_is));
      reaches = λ h. absurd (omega arith);
    }
does {t} {t' = t'} (moves c) =
    let e = (leftmost-step t t').1 c in
    let length_is : next_length t ≡ some (size t') = ap (map size) e in
    record {
      made = ap contractions length_is;
      next_is = next_is t e;
      over = λ C h. (refl, omega (arith, ap (λ o. get_or o 0) length_is));
      reaches = λ h. ap (λ o. get_or o 0) length_is;
    }

module _ (C rest : ℕ) (t u : Term) (p : ℕ) (t' : Term) (q : ℕ) (u' : Term) (left : Does t p t') (right : Does u q u') where
  abbrev here : Round → Type 0
  here = ComesTo C rest t u p t' q u'

  abbrev l : Option ℕ
  l = next_length t

  abbrev r : Option ℕ
  r = next_length u

  abbrev k : ℕ
  k = contractions l + contractions r

  both : k ≡ p + q
  both = omega (arith, left.made, right.made)

  -- The longest next term is longer than C words exactly if that of a side that moves is.
  longer : C < longest l r → ((p ≡ 1) × (C < size t')) ⊎ ((q ≡ 1) × (C < size u'))
  longer h = by (ltb C (get_or l 0)) refl
    where
      by : (b : Bool) → ltb C (get_or l 0) ≡ b → ((p ≡ 1) × (C < size t')) ⊎ ((q ≡ 1) × (C < size u'))
      by true e = inl (left.over C (ltb-true C (get_or l 0) e))
      by false e = inr (right.over C (omega (arith, ltb-false C (get_or l 0) e)))

  at_most : (p ≡ 1 → size t' ≤ C) → (q ≡ 1 → size u' ≤ C) → longest l r ≤ C
  at_most f g = by (ltb C (longest l r)) refl
    where
      by : (b : Bool) → ltb C (longest l r) ≡ b → longest l r ≤ C
      by true e = ⊎_elim (λ h. omega (arith, f h.0)) (λ h. omega (arith, g h.0)) (longer (ltb-true C (longest l r) e))
      by false e = ltb-false C (longest l r) e

  above : ((p ≡ 1) × (C < size t')) ⊎ ((q ≡ 1) × (C < size u')) → C < longest l r
  above = ⊎_elim (λ h. omega (arith, left.reaches h.0)) (λ h. omega (arith, right.reaches h.0))

  came : (n : t ≡ u → ⊥) (x y z : Bool) → eqb k 0 ≡ x → ltb rest k ≡ y → ltb C (longest l r) ≡ z
      → here (cond x (ends Different) (cond y (ends Budget) (cond z (ends Full) (goes k))))
  came n true y z f g h = (n, omega (arith, both, eqb-true k 0 f))
  came n false true z f g h = let some-move = eqb-false k 0 f in (n, omega (arith, both), omega (arith, both, ltb-true rest k g))
  came n false false true f g h =
      let some-move = eqb-false k 0 f in
      (n, omega (arith, both), omega (arith, both, ltb-false rest k g), longer (ltb-true C (longest l r) h))
  came n false false false f g h =
      let some-move = eqb-false k 0 f in
      let fits = ltb-false C (longest l r) h in (
        n,
        both,
        omega (arith, both),
        omega (arith, ltb-false rest k g),
        λ e. omega (arith, left.reaches e),
        λ e. omega (arith, right.reaches e),
      )

  comes : (n : t ≡ u → ⊥) (x : Round) → here x → round none C rest l r ≡ x
  comes n (ends Same) h = absurd (n h)
  comes n (ends Different) h = let none_moves : k ≡ 0 = omega (arith, both, h.1) in rw (eq-eqb k 0 none_moves)
  comes n (ends Budget) h =
      let some-move : k ≡ 0 → ⊥ = λ e. omega (arith, both, h.1) in
      let over : rest < k = omega (arith, both, h.2) in
      rw (ne_eqb k 0 some-move, lt-ltb rest k over)
  comes n (ends Full) h =
      let some-move : k ≡ 0 → ⊥ = λ e. omega (arith, both, h.1) in
      let covered : k ≤ rest = omega (arith, both, h.2) in
      rw (ne_eqb k 0 some-move, le-ltb rest k covered, lt-ltb C (longest l r) (above h.3))
  comes n (goes m) h =
      let some-move : k ≡ 0 → ⊥ = λ e. omega (arith, both, h.1, h.2) in
      let covered : k ≤ rest = omega (arith, both, h.1, h.3) in
      rw (ne_eqb k 0 some-move, le-ltb rest k covered, le-ltb C (longest l r) (at_most h.4 h.5)) (ap goes (both ∙ sym h.1))

  not_equal : (x : Round) → here x → t ≡ u → ends Same ≡ x
  not_equal (ends Same) h e = refl
  not_equal (ends Different) h e = absurd (h.0 e)
  not_equal (ends Budget) h e = absurd (h.0 e)
  not_equal (ends Full) h e = absurd (h.0 e)
  not_equal (goes m) h e = absurd (h.0 e)

  asked : {a : Option Verdict} → Compared t u a → (here (round a C rest l r)) × ((x : Round) → here x → round a C rest l r ≡ x)
  asked (equal e) = (e, λ x h. not_equal x h e)
  asked (unequal n) = (came n _ _ _ refl refl refl, comes n)

pub round_exact : RoundExact
round_exact C rest t u p t' q u' m n x =
    let (told, only) = asked C rest t u p t' q u' (does m) (does n) (compared t u) in
    (λ e. subst (λ y. ComesTo C rest t u p t' q u' y) e told, only x)

pub rounds_exact : RoundsExact
rounds_exact C budget t u p t' q u' m n = (
  λ v e. rounds-end at_once C budget t u e,
  λ k e.
      let g = goes_on (at_once t u) C budget (next_length t) (next_length u) e in
      let onward = rounds_go at_once (goes_wider {C' = C} {rest' = k} (omega arith) (omega arith) g) (budget - k) in
      let whole : k + (budget - k) ≡ budget = omega (arith, g.covered) in
      ap (λ b. rounds C b t u) (sym whole)
      ∙ onward
      ∙ ap (λ v. after k (rounds C (budget - k) v (next u))) (does m).next_is
      ∙ ap (λ w. after k (rounds C (budget - k) t' w)) (does n).next_is,
)

-- The position that is shown of a comparison.
no_position : (v : Verdict) (compared : Comparison) → (v ≡ Different → ⊥) → shown_position v compared ≡ 0
no_position Same compared n = refl
no_position Different compared n = absurd (n refl)
no_position Budget compared n = refl
no_position Full compared n = refl

pub shown_exact : ShownExact
shown_exact o = (
  refl,
  refl,
  refl,
  refl,
  λ e a b n.
      let (p, differs, first) = unequal_terms_differ o.left o.right a b n in
      let position_is : shown_position o.verdict (compare o.left o.right) ≡ p = ap (λ v. shown_position v (compare o.left o.right)) e ∙ ap position_of differs in
      subst (λ q. FirstDifference q (words o.left) (words o.right)) (sym position_is) first,
  no_position o.verdict (compare o.left o.right),
)
