-- Which links pass refusal 4: links that lead on, and one for each record.
use Prim.Native.Nat.{ℕ, ◌≤◌}
use mathlib.Core.Path.{◌≡◌, refl, ap}
use mathlib.Core.Logic.{◌↔◌, inl, inr, ⊎_elim}
use native.Mathlib.Decide.{ℕ_discrete}
use native.Mathlib.Omega.{arith}
use Rattle.storage.specs.Records.{Table}
use Rattle.storage.specs.Links.{namings}
use Rattle.storage.specs.Refusals.{Later, Link, of_header, first_of, next_of, Names, LinksExact}
use Rattle.storage.proofs.Sums.{sum_least, sum_some, sum_one, sum_only, sum_eq, sum_zeros, naming_itself, naming-other, links_to}
use Rattle.storage.proofs.LinkRules.{Ahead, linked, linked_passes}

ahead_exact : (T : Table) (i l : ℕ) → Ahead T i l ↔ Later T i l
ahead_exact T i l = (⊎_elim (λ e v. absurd (v e)) (λ h v. h), λ h. elim (ℕ_discrete l 0) [ yes e ↦ inl e | no v ↦ inr (h v) ])

-- The record in which a link stands.
abbrev own : Link → ℕ
own of_header = 0
own (first_of j) = j
own (next_of j) = j

module _ (T : Table) (i : ℕ) where
  no_links : (j : ℕ) → ((T.at j).first ≡ i → ⊥) → ((T.at j).next ≡ i → ⊥) → links_to T i j ≡ 0
  no_links j v w = omega (arith, naming-other _ i v, naming-other _ i w)

  -- One link names record i, so that any other is this one.
  module _ (p : Link) (only : (q : Link) → Names T q i → q ≡ p) where
    no_others : (j : ℕ) → 1 ≤ j → j ≤ T.n → (j ≡ own p → ⊥) → links_to T i j ≡ 0
    no_others j l u v = no_links j (λ e. v (ap own (only (first_of j) (l, u, e)))) (λ e. v (ap own (only (next_of j) (l, u, e))))

    in-record : 1 ≤ own p → own p ≤ T.n → namings T i ≡ links_to T i (own p)
    unfolding namings
    in-record l u = omega (arith, naming-other T.root i (λ e. omega (arith, ap own (only of_header e))), sum_only T.n (links_to T i) (own p) l u no_others)

  one_counted : (p : Link) → Names T p i → ((q : Link) → Names T q i → q ≡ p) → namings T i ≡ 1
  unfolding namings
  one_counted of_header e only =
      let none = sum_eq T.n (links_to T i) (λ j. 0) (λ j l u. no_others of_header only j l u (λ e. omega arith)) in
      omega (arith, naming_itself T.root i e, none, sum_zeros T.n)
  one_counted (first_of j) (l, u, e) only =
      let other = naming-other (T.at j).next i (λ f. let z : ◌≡◌ {A = ℕ} 0 1 = cc (only (next_of j) (l, u, f)) in omega arith) in
      omega (arith, in-record (first_of j) only l u, naming_itself (T.at j).first i e, other)
  one_counted (next_of j) (l, u, e) only =
      let other = naming-other (T.at j).first i (λ f. let z : ◌≡◌ {A = ℕ} 0 1 = cc (only (first_of j) (l, u, f)) in omega arith) in
      omega (arith, in-record (next_of j) only l u, naming_itself (T.at j).next i e, other)

  -- One link is counted, so that one names record i.
  module _ (once : namings T i ≡ 1) where
    abbrev Here : ℕ → Type 0
    Here j = (1 ≤ j) × (j ≤ T.n) × (1 ≤ links_to T i j)

    first_here : (j : ℕ) → Names T (first_of j) i → Here j
    first_here j h = (h.0, h.1, omega (arith, naming_itself (T.at j).first i h.2))

    next_here : (j : ℕ) → Names T (next_of j) i → Here j
    next_here j h = (h.0, h.1, omega (arith, naming_itself (T.at j).next i h.2))

    no_root : (j : ℕ) → Here j → T.root ≡ i → ⊥
    unfolding namings
    no_root j h e = omega (arith, once, naming_itself T.root i e, sum_least T.n (links_to T i) j h.0 h.1)

    same_record : (j k : ℕ) → Here j → Here k → k ≡ j
    unfolding namings
    same_record j k g h = sum_one T.n (links_to T i) k j (omega (arith, once)) h.0 h.1 h.2 g.0 g.1 g.2

    not_both : (j k : ℕ) → Names T (first_of j) i → Names T (next_of k) i → ⊥
    unfolding namings
    not_both j k g h =
        let next : (T.at j).next ≡ i = rw (same_record j k (first_here j g) (next_here k h)) at h.2 in
        omega (arith, once, naming_itself (T.at j).first i g.2, naming_itself (T.at j).next i next, sum_least T.n (links_to T i) j g.0 g.1)

    one_names : (p q : Link) → Names T p i → Names T q i → q ≡ p
    one_names of_header of_header g h = refl
    one_names of_header (first_of k) g h = absurd (no_root k (first_here k h) g)
    one_names of_header (next_of k) g h = absurd (no_root k (next_here k h) g)
    one_names (first_of j) of_header g h = absurd (no_root j (first_here j g) h)
    one_names (first_of j) (first_of k) g h = ap first_of (same_record j k (first_here j g) (first_here k h))
    one_names (first_of j) (next_of k) g h = absurd (not_both j k g h)
    one_names (next_of j) of_header g h = absurd (no_root j (next_here j g) h)
    one_names (next_of j) (first_of k) g h = absurd (not_both k j h g)
    one_names (next_of j) (next_of k) g h = ap next_of (same_record j k (next_here j g) (next_here k h))

    some_names : (p : Link) × Names T p i
    unfolding namings
    some_names =
        elim (ℕ_discrete T.root i) [
          | yes e ↦ (of_header, e)
          | no v ↦
              let (j, l, u, some) = sum_some T.n (links_to T i) (omega (arith, once, naming-other T.root i v)) in
              elim (ℕ_discrete (T.at j).first i) [
                | yes e ↦ (first_of j, (l, u, e))
                | no w ↦ (next_of j, (l, u, elim (ℕ_discrete (T.at j).next i) [ yes e ↦ e | no x ↦ absurd (omega (arith, some, no_links j w x)) ]))
              ]
        ]

pub links_exact : LinksExact
links_exact T = (
  λ h.
      let L = linked T h in (
        λ i l u. ((ahead_exact T i _).0 (L.first_ahead i l u), (ahead_exact T i _).0 (L.next_ahead i l u)),
        λ i l u.
            let once = L.named_once i l u in
            let (p, names) = some_names T i once in
            (p, names, λ q other. one_names T i once p q names other),
      ),
  λ (later, named).
      linked_passes T
      (record {
        first_ahead = λ i l u. (ahead_exact T i _).1 (later i l u).0;
        next_ahead = λ i l u. (ahead_exact T i _).1 (later i l u).1;
        named_once = λ i l u. let (p, names, only) = named i l u in one_counted T i p names only;
      }),
)
