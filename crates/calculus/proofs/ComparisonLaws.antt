-- Comparison of lists of words is exact, and of accepted terms tells whether they are equal, or where within both the first difference is.
use Prim.Native.Nat.{ℕ, zero, suc, ◌<◌}
use mathlib.Core.Path.{◌≡◌, refl, sym, ◌∙◌, ap, ap₂, subst}
use mathlib.Core.Bool.{Bool, true, false, cond}
use mathlib.Core.List.{List, [], ◌∷◌, ◌++◌, append-nil}
use native.Mathlib.Omega.{arith}
use lib.Dec.{eqb, ltb}
use lib.ListN.{length, take, drop, get_or, take-append-drop}
use lib.Seq.{take-suc, take_all, get_or-take}
use borrow.Author.Tests.{eq-eqb, ne_eqb, eqb-true, eqb-false, ltb-true, ltb-false}
use Rattle.calculus.specs.Words.{words}
use Rattle.calculus.specs.Comparison.{Comparison, equal, differ, behind, compare_words, compare, position_of, FirstDifference}
use Rattle.calculus.specs.Theorems.{ComparisonExact, FirstDifferenceExact, NoTermStartsAnother, EqualTermsCompared, UnequalTermsDiffer}
use Rattle.calculus.proofs.WordLaws.{accepted_packable}
use Rattle.calculus.proofs.PrefixFree.{words_prefix_free}

pub equal≢differ : {p : ℕ} → equal ≡ differ p → ⊥
equal≢differ e = let z : ◌≡◌ {A = ℕ} 0 1 = cc in omega arith

-- What is known of a comparison behind one more word is known of it.
behind_equal : (c : Comparison) → behind c ≡ equal → c ≡ equal
behind_equal equal e = refl
behind_equal (differ p) e = absurd (equal≢differ (sym e))

behind_differ : (c : Comparison) (p : ℕ) → behind c ≡ differ (suc p) → c ≡ differ p
behind_differ equal p e = absurd (equal≢differ e)
behind_differ (differ q) p e = cc

behind_first : (c : Comparison) → behind c ≡ differ 0 → ⊥
behind_first equal e = equal≢differ e
behind_first (differ q) e = let z : suc q ≡ 0 = ap position_of e in omega arith

compare_self : (ws : List ℕ) → compare_words ws ws ≡ equal
compare_self [] = refl
compare_self (w ∷ ws) = rw (eq-eqb w w refl) (ap behind (compare_self ws))

compared_equal : (ws vs : List ℕ) → compare_words ws vs ≡ equal → ws ≡ vs
compared_equal [] [] e = refl
compared_equal [] (v ∷ vs) e = absurd (equal≢differ (sym e))
compared_equal (w ∷ ws) [] e = absurd (equal≢differ (sym e))
compared_equal (w ∷ ws) (v ∷ vs) e = by (eqb w v) refl (compared_equal ws vs) e
  where
    by : (b : Bool) → eqb w v ≡ b → (compare_words ws vs ≡ equal → ws ≡ vs) → cond b (behind (compare_words ws vs)) (differ 0) ≡ equal → w ∷ ws ≡ v ∷ vs
    by true q rest e = ap₂ ◌∷◌ (eqb-true w v q) (rest (behind_equal (compare_words ws vs) e))
    by false q rest e = absurd (equal≢differ (sym e))

-- So many first words are the same, and one more are not.
abbrev Smallest : ℕ → List ℕ → List ℕ → Type 0
Smallest p ws vs = (take p ws ≡ take p vs) × (take (suc p) ws ≡ take (suc p) vs → ⊥)

at_once : (w v : ℕ) (ws vs : List ℕ) → (w ≡ v → ⊥) → Smallest 0 (w ∷ ws) (v ∷ vs)
at_once w v ws vs h = (refl, λ e. let q : w ≡ v = cc in h q)

one_more : (p : ℕ) {w v : ℕ} (ws vs : List ℕ) → w ≡ v → Smallest p ws vs → Smallest (suc p) (w ∷ ws) (v ∷ vs)
one_more p ws vs e s = (ap₂ ◌∷◌ e s.0, λ q. let r : take (suc p) ws ≡ take (suc p) vs = cc in s.1 r)

compared_differ : (ws vs : List ℕ) (p : ℕ) → compare_words ws vs ≡ differ p → Smallest p ws vs
compared_differ [] [] p e = absurd (equal≢differ e)
compared_differ [] (v ∷ vs) p e = rw (sym (ap position_of e)) (refl, λ q. let z : ◌≡◌ {A = ℕ} 0 1 = ap length q in omega arith)
compared_differ (w ∷ ws) [] p e = rw (sym (ap position_of e)) (refl, λ q. let z : ◌≡◌ {A = ℕ} 1 0 = ap length q in omega arith)
compared_differ (w ∷ ws) (v ∷ vs) p e = by (eqb w v) p refl (compared_differ ws vs) e
  where
    by : (b : Bool) (p : ℕ) → eqb w v ≡ b → ((q : ℕ) → compare_words ws vs ≡ differ q → Smallest q ws vs)
        → cond b (behind (compare_words ws vs)) (differ 0) ≡ differ p → Smallest p (w ∷ ws) (v ∷ vs)
    by true zero q rest e = absurd (behind_first (compare_words ws vs) e)
    by true (suc p) q rest e = one_more p ws vs (eqb-true w v q) (rest p (behind_differ (compare_words ws vs) p e))
    by false p q rest e = rw (sym (ap position_of e)) (at_once w v ws vs (eqb-false w v q))

smallest_compared : (p : ℕ) (ws vs : List ℕ) → Smallest p ws vs → compare_words ws vs ≡ differ p
smallest_compared p [] [] s = absurd (s.1 refl)
smallest_compared zero [] (v ∷ vs) s = refl
smallest_compared (suc p) [] (v ∷ vs) s = absurd (let z : 0 ≡ suc (length (take p vs)) = ap length s.0 in omega arith)
smallest_compared zero (w ∷ ws) [] s = refl
smallest_compared (suc p) (w ∷ ws) [] s = absurd (let z : suc (length (take p ws)) ≡ 0 = ap length s.0 in omega arith)
smallest_compared zero (w ∷ ws) (v ∷ vs) s = rw (ne_eqb w v (λ e. s.1 (rw e)))
smallest_compared (suc p) (w ∷ ws) (v ∷ vs) s =
    let e : w ≡ v = cc s.0 in
    let q : take p ws ≡ take p vs = cc s.0 in
    rw (eq-eqb w v e) (ap behind (smallest_compared p ws vs (q, λ r. s.1 (ap₂ ◌∷◌ e r))))

pub comparison_exact : ComparisonExact
comparison_exact ws vs = (
  (compared_equal ws vs, λ e. subst (λ l. compare_words ws l ≡ equal) e (compare_self ws)),
  λ p. (compared_differ ws vs p, smallest_compared p ws vs),
)

-- Where both lists have a word at p and the words before it are the same, one more are the same exactly if those two are.
difference_smallest : (p : ℕ) (ws vs : List ℕ) → FirstDifference p ws vs → Smallest p ws vs
difference_smallest p ws vs h = (
  h.before,
  λ e. h.there (sym (get_or-take (suc p) ws p 0 (omega arith)) ∙ ap (λ us. get_or us p 0) e ∙ get_or-take (suc p) vs p 0 (omega arith)),
)

smallest_difference : (p : ℕ) (ws vs : List ℕ) → p < length ws → p < length vs → Smallest p ws vs → FirstDifference p ws vs
smallest_difference p ws vs l r s =
    record {
      left_has = l;
      right_has = r;
      before = s.0;
      there = λ q. s.1 (take-suc ws p 0 l ∙ ap₂ (λ us w. us ++ (w ∷ [])) s.0 q ∙ sym (take-suc vs p 0 r));
    }

pub first_difference_exact : FirstDifferenceExact
first_difference_exact p ws vs = (
  λ h. (smallest_compared p ws vs (difference_smallest p ws vs h), h.left_has, h.right_has),
  λ h. let (e, l, r) = h in smallest_difference p ws vs l r (compared_differ ws vs p e),
)

pub no_term_starts_another : NoTermStartsAnother
no_term_starts_another t u h k other ws e =
    other (words_prefix_free t u ws [] (accepted_packable 0 t h) (accepted_packable 0 u k) (e ∙ sym (append-nil (words u)))).0

pub equal_terms_compared : EqualTermsCompared
equal_terms_compared t u h k = (
  λ e.
      let q = compared_equal (words t) (words u) e in
      (words_prefix_free t u [] [] (accepted_packable 0 t h) (accepted_packable 0 u k) (ap (λ l. l ++ []) q)).0,
  λ e. subst (λ v. compare t v ≡ equal) e (compare_self (words t)),
)

-- Where so many first words are the same and one of the lists is no start of the other, it goes on there.
goes_on : (p : ℕ) (ws vs : List ℕ) → take p ws ≡ take p vs → ((rest : List ℕ) → ws ++ rest ≡ vs → ⊥) → p < length ws
goes_on p ws vs e no_start = by (ltb p (length ws)) refl
  where
    by : (b : Bool) → ltb p (length ws) ≡ b → p < length ws
    by true q = ltb-true p (length ws) q
    by false q =
        absurd
        (no_start (drop p vs)
        (ap (λ l. l ++ drop p vs) (sym (take_all p ws (ltb-false p (length ws) q)) ∙ e) ∙ take-append-drop p vs))

pub unequal_terms_differ : UnequalTermsDiffer
unequal_terms_differ t u h k other = by (compare t u) refl
  where
    by : (c : Comparison) → compare t u ≡ c → (p : ℕ) × (compare t u ≡ differ p) × FirstDifference p (words t) (words u)
    by equal e = absurd (other ((equal_terms_compared t u h k).0 e))
    by (differ p) e =
        let same = (compared_differ (words t) (words u) p e).0 in
        let l = goes_on p (words t) (words u) same (no_term_starts_another t u h k other) in
        let r = goes_on p (words u) (words t) (sym same) (no_term_starts_another u t k h (λ q. other (sym q))) in
        (p, e, (first_difference_exact p (words t) (words u)).1 (e, l, r))
