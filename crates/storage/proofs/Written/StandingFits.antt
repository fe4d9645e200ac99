-- The records of an accepted expression, standing in a table, have values and children that fit.
use Prim.Native.Nat.{ℕ, suc, ◌+◌, ◌≤◌, ◌<◌}
use mathlib.Core.Path.{◌≡◌, refl}
use mathlib.Core.Bool.{true}
use native.Mathlib.Decide.{dec_lt}
use native.Mathlib.Omega.{arith}
use lib.ListN.{length-append}
use borrow.Author.Tests.{le-leb, ne_eqb}
use Rattle.calculus.specs.Term.{Sort, term, terms, branches, Exp, case, nil, cons, branch, Term, Terms, Branches, count}
use Rattle.calculus.specs.Words.{words, size, case_kind, count_base}
use Rattle.calculus.specs.Accepted.{branch_limit, acceptance, Accepted, index_limit}
use Rattle.calculus.specs.Theorems.{counted, within, IndicesWithin}
use Rattle.calculus.proofs.WordLaws.{tag_of-pack, count_of-pack, accepted_packable}
use Rattle.calculus.proofs.DefaultLaws.{pattern_limits}
use Rattle.calculus.proofs.PatternLaws.{pattern_passes}
use Rattle.storage.specs.Records.{Table, OfKind}
use Rattle.storage.specs.Meaning.{Node, Means, no_term}
use Rattle.calculus.specs.Payload.{payload_fits}
use Rattle.storage.specs.Values.{value_fits, numberFits}
use Rattle.storage.specs.Children.{children, children_fit}
use Rattle.storage.specs.Write.{link_to, records}
use Rattle.storage.proofs.LinkRules.{Linked}
use Rattle.storage.proofs.Meaning.Nodes.{node-plain, node-size, node-below, node-fits, Built, plain, of_case, empty, listed, ended, branched}
use Rattle.storage.proofs.Meaning.ChainMeaning.{terms-chain, case-chain}
use Rattle.storage.proofs.Written.Standing.{Stand, stand-node, stand-both, stand-next, then, stand-means}

-- What is tested of one record.
pub record Fits (T : Table) (i : ℕ) : Type 0 where
  pub value-fits : value_fits (T.at i).kind (T.at i).value ≡ true
  pub children-fit : children_fit (T.at i).kind (children T i) ≡ true

-- A property of a range of indices, by its first one or by two parts.
from_first : (P : ℕ → Type 0) (i k : ℕ) → P i → ((j : ℕ) → suc i ≤ j → j < k → P j) → (j : ℕ) → i ≤ j → j < k → P j
from_first P i k own rest j l u = elim (dec_lt i j) [ yes v ↦ rest j v u | no v ↦ let same : j ≡ i = omega arith in rw same own ]

by_parts : (P : ℕ → Type 0) (i m k : ℕ) → ((j : ℕ) → i ≤ j → j < m → P j) → ((j : ℕ) → m ≤ j → j < k → P j)
    → (j : ℕ) → i ≤ j → j < k → P j
by_parts P i m k one two j l u = elim (dec_lt j m) [ yes v ↦ one j l v | no v ↦ two j (omega arith) u ]

module _ (T : Table) (L : Linked T) where
  node-children : {i kind : ℕ} {xs : Terms} → OfKind T kind i → Means T terms (T.at i).first xs → (kind ≡ case_kind → ⊥) → numberFits kind (count xs) ≡ true
      → children_fit (T.at i).kind (children T i) ≡ true
  unfolding children_fit
  node-children {i} {kind} k m other f =
      let counted = terms-chain T L m in
      rw (k.2, counted.0, f, ne_eqb kind case_kind other) counted.1

  plain_fits : {k v : ℕ} {xs : Terms} {t : Term} → Node k v xs t → Built terms xs → (i x d : ℕ) → 1 ≤ i → i + size t ≤ suc T.n → Accepted d t
      → IndicesWithin index_limit t → Stand T i (records i x t) → Fits T i
  plain_fits {k} {xs = xs} {t = t} n b i x d l u a w h =
      let own = stand-node T n i x h in
      let tests = node-fits n d a w in
      let below = stand-means T b (suc i) 0 (omega arith) (omega (arith, node-size n)) (node-below counted n tt (accepted_packable d t a)).1 own.1 in
      record {
        value-fits = rw (own.0.kind, own.0.value) tests.0;
        children-fit = node-children {xs = xs} (l, omega (arith, node-size n), own.0.kind) (rw own.0.first below) (node-plain n).no-case tests.1;
      }

  case-fits : {e : Term} {bs : Branches} → Built term e → Built branches bs → (i x d : ℕ) → 1 ≤ i → i + size (case e bs) ≤ suc T.n → Accepted d (case e bs)
      → Stand T i (records i x (case e bs)) → Fits T i
  unfolding value_fits children_fit
  case-fits {e} {bs} b c i x d l u a h =
      let room = length-append (words e) (words bs) in
      let both = stand-both T e bs (suc i) (link_to (suc i + size e) bs) 0 h.1 in
      let m = stand-means T b (suc i) (link_to (suc i + size e) bs) (omega arith) (omega arith) (accepted_packable d e a.1) both.0 in
      let ms = stand-means T c (suc i + size e) 0 (omega arith) (omega arith) (accepted_packable d bs a.2) both.1 in
      let subject : Means T term (T.at i).first e = rw h.0.first m in
      let rest : Means T branches (T.at (T.at i).first).next bs = rw h.0.first (rw (stand-next T b _ _ both.0) ms) in
      let counted = case-chain T L subject rest in
      record {
        value-fits = rw (h.0.kind, h.0.value);
        children-fit = rw (h.0.kind, counted.0, le-leb 1 (suc (count bs)) (omega arith), le-leb (suc (count bs)) (suc branch_limit) (omega (arith, a.0.0))) (counted.1.1 a.0.1);
      }

  branch_fits : {b : Term} → Built term b → (t n : ℕ) (bs : Branches) (i x d : ℕ) → 1 ≤ i → i + size (branch t n b bs) ≤ suc T.n
      → Accepted d (branch t n b bs) → Stand T i (records i x (branch t n b bs)) → Fits T i
  unfolding value_fits payload_fits
  branch_fits {b} c t n bs i x d l u a h =
      let room = length-append (words b) (words bs) in
      let both = stand-both T b bs (suc i) 0 0 h.1 in
      let body = stand-means T c (suc i) 0 (omega arith) (omega arith) (accepted_packable _ b a.1) both.0 in
      let small : n < count_base = omega (arith, (pattern_limits t n a.0).1) in
      record {
        value-fits = rw (h.0.kind, h.0.value, tag_of-pack t n small, count_of-pack t n small) (pattern_passes t n a.0);
        children-fit = node-children {xs = cons b nil} (l, omega arith, h.0.kind) (rw h.0.first (then body (stand-next T c _ 0 both.0) no_term)) (λ e. omega arith) refl;
      }

  pub stand-fits : {s : Sort} {e : Exp s} → Built s e → (i x d : ℕ) → 1 ≤ i → i + size e ≤ suc T.n → Accepted d e → IndicesWithin index_limit e
      → Stand T i (records i x e) → (j : ℕ) → i ≤ j → j < i + size e → Fits T j
  stand-fits (plain {xs = xs} n b) i x d l u a w h =
      let below = node-below acceptance n d a in
      from_first (Fits T) i _ (plain_fits n b i x d l u a w h)
      (λ j v u'. stand-fits b (suc i) 0 below.0 (omega arith) (omega (arith, node-size n)) below.1 (node-below (within index_limit) n tt w).1 (stand-node T n i x h).1 j v (omega (arith, node-size n)))
  stand-fits (of_case {e} {bs} b c) i x d l u a w h =
      let room = length-append (words e) (words bs) in
      let both = stand-both T e bs (suc i) (link_to (suc i + size e) bs) 0 h.1 in
      from_first (Fits T) i _ (case-fits b c i x d l u a h)
      (by_parts (Fits T) (suc i) (suc i + size e) _
      (stand-fits b (suc i) (link_to (suc i + size e) bs) d (omega arith) (omega arith) a.1 w.1 both.0)
      (λ j v u'. stand-fits c (suc i + size e) 0 d (omega arith) (omega arith) a.2 w.2 both.1 j v (omega arith)))
  stand-fits empty i x d l u a w h = λ j v u'. absurd (omega arith)
  stand-fits (listed {a = g} {xs = xs} b c) i x d l u a w h =
      let room = length-append (words g) (words xs) in
      let both = stand-both T g xs i (link_to (i + size g) xs) 0 h in
      by_parts (Fits T) i (i + size g) _
      (stand-fits b i (link_to (i + size g) xs) d l (omega arith) a.0 w.0 both.0)
      (λ j v u'. stand-fits c (i + size g) 0 d (omega arith) (omega arith) a.1 w.1 both.1 j v (omega arith))
  stand-fits ended i x d l u a w h = λ j v u'. absurd (omega arith)
  stand-fits (branched {t} {n} {b} {bs} c e) i x d l u a w h =
      let room = length-append (words b) (words bs) in
      let both = stand-both T b bs (suc i) 0 0 h.1 in
      from_first (Fits T) i _ (branch_fits c t n bs i x d l u a h)
      (by_parts (Fits T) (suc i) (suc i + size b) _
      (stand-fits c (suc i) 0 (d + n) (omega arith) (omega arith) a.1 w.1 both.0)
      (λ j v u'. stand-fits e (suc i + size b) 0 d (omega arith) (omega arith) a.2 w.2 both.1 j v (omega arith)))
