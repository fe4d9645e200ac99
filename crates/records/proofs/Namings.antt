-- Refusal 4 as the code tests it: the counts of the links that name each record, and that none passes what it fits in.
use Prim.Native.Nat.{ℕ, zero, suc, ◌+◌, ◌-◌, ◌*◌, ◌^◌, ◌≤◌, ◌<◌}
use mathlib.Core.Path.{◌≡◌, refl, ap, sym}
use mathlib.Core.Bool.{Bool, true, false, cond, ◌&&◌, ◌||◌, and-eq-true_iff}
use mathlib.Core.List.{List}
use native.Mathlib.Decide.{ℕ_discrete}
use native.Mathlib.Omega.{arith}
use lib.Dec.{leb, ltb, eqb}
use lib.ListN.{length, get_or, length-set, replicate, length-replicate}
use lib.Seq.{get_or-set_same, get_or-set_other}
use borrow.Author.Tests.{leb-true, eqb-true, eq-eqb, ne_eqb}
use Rattle.storage.specs.Header.{wrong_length, wrong_header}
use Rattle.storage.specs.Records.{Record, Table, Stored, view, everyOf, sum_of}
use Rattle.storage.specs.Links.{link_fits, links_fit, naming, namings}
use Rattle.records.specs.Counting.{more, counted, room_most, Countable}
use Rattle.storage.proofs.Sums.{every_at, sum_most, links_to}
use Rattle.storage.proofs.RecordLaws.{sized, rooted}

link_within : (T : Table) (i l : ℕ) → link_fits T.n i l ≡ true → l ≤ T.n
link_within T i l h = go (eqb l 0) refl h
  where
    go : (b : Bool) → eqb l 0 ≡ b → (b || (ltb i l && leb l T.n)) ≡ true → l ≤ T.n
    go true e k = omega (arith, eqb-true l 0 e)
    go false e k = leb-true l T.n ((and-eq-true_iff (ltb i l) (leb l T.n)).0 k).1

naming_most : (l j : ℕ) → naming l j ≤ 1
naming_most l j = go (eqb l j)
  where
    go : (b : Bool) → cond b 1 0 ≤ 1
    go true = omega arith
    go false = omega arith

-- One more at a place of the counts.
pub more-at : (counts : List ℕ) (l j : ℕ) → l < length counts → get_or (more l counts) j 0 ≡ get_or counts j 0 + naming l j
more-at counts l j h = go (ℕ_discrete l j)
  where
    go : Dec (l ≡ j) → get_or (more l counts) j 0 ≡ get_or counts j 0 + naming l j
    go (yes e) = rw (eq-eqb l j e, ← e, get_or-set_same) refl
    go (no n) = rw (ne_eqb l j n, get_or-set_other counts l j _ 0 (λ e. n (sym e))) (omega arith)

pub counted-length : (T : Table) (i : ℕ) (counts : List ℕ) → length (counted T i counts) ≡ length counts
unfolding counted
counted-length T zero counts = refl
counted-length T (suc i) counts = simp length-set (counted-length T i counts)

-- The counts after so many records, where every link fits and there is a count for each.
module _ (T : Table) (fit : everyOf T.n (links_fit T) ≡ true) (counts : List ℕ) (room : T.n < length counts) where
  pub links_within : (i : ℕ) → 1 ≤ i → i ≤ T.n → ((T.at i).first < length counts) × ((T.at i).next < length counts)
  links_within i l u =
      let both = (and-eq-true_iff (link_fits T.n i (T.at i).first) (link_fits T.n i (T.at i).next)).0 (every_at T.n (links_fit T) fit i l u) in
      omega (arith, link_within T i (T.at i).first both.0, link_within T i (T.at i).next both.1)

  pub counted-at : (i j : ℕ) → i ≤ T.n → get_or (counted T i counts) j 0 ≡ get_or counts j 0 + sum_of i (links_to T j)
  unfolding counted
  counted-at zero j u = omega arith
  counted-at (suc i) j u =
      let within = links_within (suc i) (omega arith) u in
      let first = more-at (counted T i counts) (T.at (suc i)).first j (omega (arith, counted-length T i counts)) in
      let both = more-at (more (T.at (suc i)).first (counted T i counts)) (T.at (suc i)).next j (simp length-set (omega (arith, counted-length T i counts))) in
      omega (arith, first, both, counted-at i j (omega arith))

  pub counted_most : (i j : ℕ) → i ≤ T.n → get_or (counted T i counts) j 0 ≤ get_or counts j 0 + 2 * i
  counted_most i j u =
      omega (arith, counted-at i j u, sum_most i (links_to T j) 2 (λ k. omega (arith, naming_most (T.at k).first j, naming_most (T.at k).next j)))

-- A record passed: both its links can be counted, and are.
pub record Turn (T : Table) (before : List ℕ) (i first next : ℕ) (counts : List ℕ) : Type 0 where
  pub first_fits : (first < length counts) × (get_or counts first 0 + 1 < 2 ^ 32)
  pub next_fits : (next < length (more first counts)) × (get_or (more first counts) next 0 + 1 < 2 ^ 32)
  pub goes_on : more next (more first counts) ≡ counted T i before

pub turn : (S : Stored) (before : List ℕ) → Countable S before → (i : ℕ) → 1 ≤ i → i ≤ (view S).n → (r : Record) → r ≡ (view S).at i → (counts : List ℕ)
    → counts ≡ counted (view S) (i - 1) before → Turn (view S) before i r.first r.next counts
unfolding counted
turn S before h zero l u r e counts q = absurd (omega arith)
turn S before h (suc i) l u r e counts q =
    let T = view S in
    let within = links_within T h.links-fit before h.room (suc i) l u in
    let most = counted_most T h.links-fit before h.room i in
    let first = (T.at (suc i)).first in
    let next = (T.at (suc i)).next in
    let small = sized S h.length_fits in
    let passed : suc i - 1 ≡ i = omega arith in
    rw (q, e, passed)
    (record {
      first_fits = omega (arith, within, counted-length T i before, most first (omega arith), h.few first);
      next_fits = (
        simp length-set (omega (arith, within, counted-length T i before)),
        omega (
          arith,
          more-at (counted T i before) first next (omega (arith, within, counted-length T i before)),
          naming_most first next,
          most next (omega arith),
          h.few next,
        ),
      );
      goes_on = refl;
    })

zeros_at : (n j : ℕ) → get_or {A = ℕ} (replicate n 0) j 0 ≡ 0
zeros_at zero j = refl
zeros_at (suc n) zero = refl
zeros_at (suc n) (suc j) = zeros_at n j

-- Counts that are all 0, with a link to the root, can be counted on, and then tell how many links name each record.
pub record Begun (S : Stored) (root : ℕ) (zeros : List ℕ) : Type 0 where
  pub root_fits : (root < length zeros) × (get_or zeros root 0 + 1 < 2 ^ 32)
  pub countable : Countable S (more root zeros)
  pub room : (counts : List ℕ) → counts ≡ counted (view S) (view S).n (more root zeros) → (view S).n < length counts
  pub namings_are : (counts : List ℕ) → counts ≡ counted (view S) (view S).n (more root zeros) → (j : ℕ) → get_or counts j 0 ≡ namings (view S) j

pub begun : (S : Stored) (root most : ℕ) → wrong_length S ≡ false → wrong_header S ≡ false → everyOf (view S).n (links_fit (view S)) ≡ true
    → root ≡ (view S).root → most ≡ room_most → Begun S root (replicate most 0)
unfolding namings
begun S root most h r fit e q =
    record {
      root_fits = fits;
      countable = can;
      room = λ counts f. omega (arith, ap length f, counted-length (view S) (view S).n (more root zeros), can.room);
      namings_are = λ counts f j. rw f (omega (
        arith,
        counted-at (view S) fit (more root zeros) can.room (view S).n j (omega arith),
        more-at zeros root j fits.0,
        zeros_at most j,
        ap (λ l. naming l j) e,
      ));
    }
  where
    zeros : List ℕ
    zeros = replicate most 0

    fits : (root < length zeros) × (get_or zeros root 0 + 1 < 2 ^ 32)
    fits = omega (arith, sized S h, rooted S r, zeros_at most root, length-replicate {A = ℕ} most 0)

    can : Countable S (more root zeros)
    can =
        record {
          length_fits = h;
          links-fit = fit;
          room = simp length-set (omega (arith, sized S h, length-replicate {A = ℕ} most 0));
          few = λ j. omega (arith, more-at zeros root j fits.0, zeros_at most j, naming_most root j);
        }
