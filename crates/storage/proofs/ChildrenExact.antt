-- Which children pass refusal 5: the siblings from a record's first child, kind by kind.
use Prim.Native.Nat.{ℕ, zero, suc, ◌≤◌}
use mathlib.Core.Path.{◌≡◌, refl, sym, ◌∙◌, ap}
use mathlib.Core.Bool.{true, false, not, ◌&&◌, and-eq-true_iff, false≢true}
use mathlib.Core.List.{List, [], ◌∷◌}
use mathlib.Core.Logic.{◌↔◌, inl, inr}
use mathlib.Core.Option.{Option, some, none, none-ne-some}
use native.Mathlib.Omega.{arith}
use lib.Dec.{leb}
use lib.ListN.{length}
use borrow.Author.Tests.{leb-true, le-leb, ltb-true, lt-ltb, eqb-true, eqb-false, eq-eqb, ne_eqb, not-true}
use Rattle.calculus.specs.Words.{branch_kind, numeral_kind, tag_of}
use Rattle.calculus.specs.Accepted.{argument_limit, branch_limit}
use Rattle.storage.specs.Records.{Record, Table}
use Rattle.storage.specs.Values.{numberFits}
use Rattle.storage.specs.Children.{chain_from, is_branch, starts_above, may_stand, chain_fits, sorts_fit, children_fit, agrees}
use Rattle.storage.specs.Refusals.{Siblings, no_more, one_more, IsTerm, AreTerms, RisingBranches, no_branch, one_branch, before, MayHave, of_variable, of_abstraction, of_application, of_constructor, of_case, of_branch, of_numeral, ChildrenExact}
use Rattle.storage.proofs.LinkRules.{Linked, linked, Enough, nothing_left, next_enough, children_enough}
use Rattle.storage.proofs.Hanging.{chain-end, chain_next}
use Rattle.storage.proofs.Fits.{valued, known_kind, fitted, fitted_passes}

-- Siblings are a chain, and where links lead on there are siblings from every link.
siblings_chain : {T : Table} {l : ℕ} {rs : List Record} → Linked T → Siblings T l rs → chain_from T l ≡ rs
siblings_chain {T} L no_more = chain-end T 0 refl
siblings_chain {T} L (one_more {i} l u s) = chain_next T L i l u ∙ ap (λ rs. T.at i ∷ rs) (siblings_chain L s)

some_siblings : (T : Table) → Linked T → (k l : ℕ) → Enough T l k → (rs : List Record) × Siblings T l rs
some_siblings T L zero l h = ([], rw (nothing_left T l h) no_more)
some_siblings T L (suc k) l (inl e) = ([], rw e no_more)
some_siblings T L (suc k) l (inr h) =
    let (rs, s) = some_siblings T L k (T.at l).next (next_enough T L l k h.0 (inr h)) in
    (T.at l ∷ rs, one_more h.0 h.1 s)

-- Terms and rising branches, as a chain is tested for them.
term_exact : (r : Record) → (not (is_branch r) ≡ true) ↔ IsTerm r
term_exact r = (λ h. eqb-false r.kind branch_kind (not-true _ h), λ h. ap not (ne_eqb r.kind branch_kind h))

terms_exact : (rs : List Record) → (chain_fits false rs ≡ true) ↔ AreTerms rs
terms_exact [] = (λ h. tt, λ h. refl)
terms_exact (r ∷ rs) = (
  λ h. let (own, rest) = (and-eq-true_iff (not (is_branch r)) _).0 h in ((term_exact r).0 own, (terms_exact rs).0 rest),
  λ h. (and-eq-true_iff _ _).1 ((term_exact r).1 h.0, (terms_exact rs).1 h.1),
)

chain_rising : (rs : List Record) → chain_fits true rs ≡ true → RisingBranches rs
chain_rising [] h = no_branch
chain_rising (r ∷ []) h = one_branch (eqb-true _ branch_kind ((and-eq-true_iff (is_branch r) true).0 ((and-eq-true_iff (is_branch r && true) true).0 h).0).0)
chain_rising (r ∷ s ∷ rs) h =
    let (own, rest) = (and-eq-true_iff (may_stand true r (s ∷ rs)) (chain_fits true (s ∷ rs))).0 h in
    let (kind, rises) = (and-eq-true_iff (is_branch r) (starts_above (tag_of r.value) (s ∷ rs))).0 own in
    before (eqb-true _ branch_kind kind) (ltb-true _ _ rises) (chain_rising (s ∷ rs) rest)

rising_chain : {rs : List Record} → RisingBranches rs → chain_fits true rs ≡ true
rising_chain no_branch = refl
rising_chain (one_branch e) = rw (eq-eqb _ branch_kind e)
rising_chain (before e l b) = (and-eq-true_iff _ _).1 ((and-eq-true_iff _ _).1 (eq-eqb _ branch_kind e, lt-ltb _ _ l), rising_chain b)

-- Children that fit a kind, as their number and sorts are tested.
has_fits : {k : ℕ} {rs : List Record} → MayHave k rs → children_fit k rs ≡ true
unfolding children_fit
has_fits of_variable = refl
has_fits (of_abstraction {r} t) = (terms_exact (r ∷ [])).1 (t, tt)
has_fits (of_application {r} {s} t u) = (terms_exact (r ∷ s ∷ [])).1 (t, (u, tt))
has_fits (of_constructor {rs} t m) = (and-eq-true_iff _ _).1 (le-leb (length rs) argument_limit m, (terms_exact rs).1 t)
has_fits (of_case {r} {rs} t b m) =
    let number = (and-eq-true_iff _ _).1 (le-leb 1 (length (r ∷ rs)) (omega arith), le-leb (length (r ∷ rs)) (suc branch_limit) (omega arith)) in
    (and-eq-true_iff _ _).1 (number, (and-eq-true_iff _ _).1 ((term_exact r).1 t, rising_chain b))
has_fits (of_branch {r} t) = (terms_exact (r ∷ [])).1 (t, tt)
has_fits of_numeral = refl

fits_has : (k : ℕ) (rs : List Record) → k ≤ numeral_kind → numberFits k (length rs) ≡ true → sorts_fit k rs ≡ true → MayHave k rs
fits_has zero [] l n s = of_variable
fits_has zero (r ∷ rs) l n s = absurd (omega (arith, eqb-true (suc (length rs)) 0 n))
fits_has (suc zero) [] l n s = absurd (false≢true n)
fits_has (suc zero) (r ∷ []) l n s = of_abstraction ((terms_exact (r ∷ [])).0 s).0
fits_has (suc zero) (r ∷ q ∷ rs) l n s = absurd (omega (arith, eqb-true (suc (suc (length rs))) 1 n))
fits_has (suc (suc zero)) [] l n s = absurd (false≢true n)
fits_has (suc (suc zero)) (r ∷ []) l n s = absurd (false≢true n)
fits_has (suc (suc zero)) (r ∷ q ∷ []) l n s = let both = (terms_exact (r ∷ q ∷ [])).0 s in of_application both.0 both.1.0
fits_has (suc (suc zero)) (r ∷ q ∷ p ∷ rs) l n s = absurd (omega (arith, eqb-true (suc (suc (suc (length rs)))) 2 n))
fits_has (suc (suc (suc zero))) rs l n s = of_constructor ((terms_exact rs).0 s) (leb-true _ argument_limit n)
fits_has (suc (suc (suc (suc zero)))) [] l n s = absurd (false≢true n)
fits_has (suc (suc (suc (suc zero)))) (r ∷ rs) l n s =
    let most = leb-true (suc (length rs)) (suc branch_limit) ((and-eq-true_iff (leb 1 (suc (length rs))) _).0 n).1 in
    let (own, rest) = (and-eq-true_iff (not (is_branch r)) (chain_fits true rs)).0 s in
    of_case ((term_exact r).0 own) (chain_rising rs rest) (omega (arith, most))
fits_has (suc (suc (suc (suc (suc zero))))) [] l n s = absurd (false≢true n)
fits_has (suc (suc (suc (suc (suc zero))))) (r ∷ []) l n s = of_branch ((terms_exact (r ∷ [])).0 s).0
fits_has (suc (suc (suc (suc (suc zero))))) (r ∷ q ∷ rs) l n s = absurd (omega (arith, eqb-true (suc (suc (length rs))) 1 n))
fits_has (suc (suc (suc (suc (suc (suc zero)))))) [] l n s = of_numeral
fits_has (suc (suc (suc (suc (suc (suc zero)))))) (r ∷ rs) l n s = absurd (omega (arith, eqb-true (suc (length rs)) 0 n))
fits_has (suc (suc (suc (suc (suc (suc (suc k))))))) rs l n s = absurd (omega arith)

agrees_exact : (d : Option ℕ) (n : ℕ) → (agrees d n ≡ true) ↔ ((m : ℕ) → d ≡ some m → n ≡ m)
agrees_exact none n = (λ h m e. absurd (none-ne-some m e), λ h. refl)
agrees_exact (some k) n = (λ h m e. cc (eqb-true k n h), λ h. eq-eqb k n (sym (h k refl)))

pub children_exact : ChildrenExact
unfolding children_fit
children_exact T values links =
    let L = linked T links in (
      λ h.
          let F = fitted T h in (
            λ i l u.
                let (rs, s) = some_siblings T L T.n (T.at i).first (children_enough T L i l u) in
                let chain-is = siblings_chain L s in
                let both = (and-eq-true_iff (numberFits (T.at i).kind (length rs)) _).0 (rw chain-is at (F.children-fit i l u)) in
                record {
                  children = rs;
                  siblings = s;
                  fit = fits_has (T.at i).kind rs (known_kind (valued T values) i l u) both.0 both.1;
                  declared = (agrees_exact (T.at i).declared (length rs)).0 (rw chain-is at (F.declared_agrees i l u));
                },
            eqb-false _ branch_kind F.root_term,
            F.root_last,
          ),
      λ (own, root_term, root_last).
          fitted_passes T
          (record {
            declared_agrees = λ i l u. rw (siblings_chain L (own i l u).siblings) ((agrees_exact (T.at i).declared _).1 (own i l u).declared);
            children-fit = λ i l u. rw (siblings_chain L (own i l u).siblings) (has_fits (own i l u).fit);
            root_term = ne_eqb _ branch_kind root_term;
            root_last = root_last;
          }),
    )
