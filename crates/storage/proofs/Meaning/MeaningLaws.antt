-- `meaning` follows the relation `Means`, and an index means at most one expression of a sort.
use Prim.Native.Nat.{ℕ, zero, suc, ◌+◌, ◌*◌, ◌≤◌}
use mathlib.Core.Path.{◌≡◌, refl, sym, ap₂, ◌∙◌}
use mathlib.Core.Bool.{◌&&◌, and-eq-true_iff}
use mathlib.Core.Option.{Option, some, bind}
use mathlib.Core.Logic.{◌⊎◌, inl, inr}
use native.Mathlib.Omega.{arith}
use lib.Dec.{eqb}
use borrow.Author.Tests.{eqb-true, eq-eqb, ne_eqb}
use Rattle.calculus.specs.Term.{Sort, term, terms, branches, Exp, case, nil, cons, Term, Terms}
use Rattle.calculus.specs.Words.{case_kind, branch_kind}
use Rattle.calculus.proofs.All.{All, holds, nothing, all_map, all-bind, all_weaken, all_some}
use Rattle.storage.specs.Records.{Table, OfKind, is_record}
use Rattle.storage.specs.Meaning.{Node, Means, plain, case_of, no_term, a_term, no_branch, a_branch, only_one, valueless, Reading, meant_term, meant_terms, meant_branch, meant_branches, meant, meaning}
use Rattle.storage.proofs.Tests.{if-true, if-false, all_if, is_record_true, record_is_record}
use Rattle.storage.proofs.Meaning.Nodes.{made-node, node_made, node-plain}
use Rattle.storage.proofs.LinkRules.{Ahead, ahead_later, Linked, linked}
use Rattle.storage.specs.Theorems.{MeansUnique, MeaningSound, MeaningComplete}

-- What is computed is meant.
all-valueless : {P : Term → Type 0} (v : ℕ) {o : Option Term} → (v ≡ 0 → All P o) → All P (valueless v o)
all-valueless zero p = p refl
all-valueless (suc v) p = nothing

module _ (T : Table) (rec : Reading) (follows : (s : Sort) (i : ℕ) → All (Means T s i) (rec s i)) where
  sound-term : (i : ℕ) → All (Means T term i) (meant_term T rec i)
  unfolding meant_term
  sound-term i =
      all_if (is_record T i)
      (λ r. let inside = is_record_true T i r in
      all_if (eqb (T.at i).kind case_kind)
      (λ k. all-valueless (T.at i).value (λ z. all-bind _ (follows term (T.at i).first)
      (λ e m. all_map (case e) (follows branches _) (λ bs ms. case_of (inside.0, inside.1, eqb-true _ _ k) z m ms))))
      (λ k. all-bind _ (follows terms (T.at i).first)
      (λ xs m. all_weaken (made-node (T.at i).kind (T.at i).value xs) (λ t n. plain (inside.0, inside.1, refl) n m))))
      (λ r. nothing)

  sound-terms : (i : ℕ) → All (Means T terms i) (meant_terms T rec i)
  unfolding meant_terms
  sound-terms i =
      all_if (eqb i 0) (λ e. rw (eqb-true i 0 e) (holds no_term))
      (λ e. all-bind _ (follows term i) (λ a m. all_map (cons a) (follows terms _) (λ xs ms. a_term m ms)))

  sound-branch : (i : ℕ) (xs : Terms) → OfKind T branch_kind i → Means T terms (T.at i).first xs
      → All (Means T branches i) (bind (only_one xs) (meant_branch T rec i))
  unfolding bind meant_branch
  sound-branch i nil k m = nothing
  sound-branch i (cons b nil) k m = all_map _ (follows branches (T.at i).next) (λ bs ms. a_branch k m ms)
  sound-branch i (cons a (cons b xs)) k m = nothing

  sound-branches : (i : ℕ) → All (Means T branches i) (meant_branches T rec i)
  unfolding meant_branches
  sound-branches i =
      all_if (eqb i 0) (λ e. rw (eqb-true i 0 e) (holds no_branch))
      (λ e. all_if (is_record T i && eqb (T.at i).kind branch_kind)
      (λ r. let both = (and-eq-true_iff (is_record T i) (eqb (T.at i).kind branch_kind)).0 r in
      let inside = is_record_true T i both.0 in
      all-bind _ (follows terms (T.at i).first) (λ xs. sound-branch i xs (inside.0, inside.1, eqb-true _ _ both.1)))
      (λ r. nothing))

sound-meant : (T : Table) (k : ℕ) (s : Sort) (i : ℕ) → All (Means T s i) (meant T k s i)
unfolding meant
sound-meant T zero s i = nothing
sound-meant T (suc k) term i = sound-term T (meant T k) (sound-meant T k) i
sound-meant T (suc k) terms i = sound-terms T (meant T k) (sound-meant T k) i
sound-meant T (suc k) branches i = sound-branches T (meant T k) (sound-meant T k) i

pub meaning-sound : MeaningSound
unfolding meaning
meaning-sound T t h = all_some (rw h at (sound-meant T (2 * T.n) term T.root))

-- What has a meaning as a term is a record.
pub term-inside : {T : Table} {i : ℕ} {t : Term} → Means T term i t → (1 ≤ i) × (i ≤ T.n)
term-inside (plain k n m) = (k.0, k.1)
term-inside (case_of k z m ms) = (k.0, k.1)

-- A bound that is enough: 2 × (n - i) + 2 at record i, one more at the chain that starts there, and 1 at the empty chain.
abbrev Far : ℕ → Sort → (i bound : ℕ) → Type 0
Far n term i b = 2 * n + 2 ≤ b + 2 * i
Far n terms i b = (i ≡ 0) ⊎ (2 * n + 3 ≤ b + 2 * i)
Far n branches i b = (i ≡ 0) ⊎ (2 * n + 3 ≤ b + 2 * i)

-- At a link of a record one less is enough.
less : (T : Table) (i l b : ℕ) → i ≤ T.n → 2 * T.n + 1 ≤ b + 2 * i → Ahead T i l → (1 ≤ b) × Far T.n terms l b
less T i l b u h (inl e) = (omega arith, inl e)
less T i l b u h (inr a) = (omega arith, inr (omega arith))

far-chain : (n i b : ℕ) → 1 ≤ i → Far n terms i b → 2 * n + 3 ≤ b + 2 * i
far-chain n i b l (inl e) = absurd (omega arith)
far-chain n i b l (inr h) = h

module _ {T : Table} (L : Linked T) where
  meant-complete : {s : Sort} {i : ℕ} {e : Exp s} → Means T s i e → (b : ℕ) → 1 ≤ b → Far T.n s i b → meant T b s i ≡ some e
  unfolding meant meant_term meant_terms meant_branch meant_branches bind
  meant-complete m zero l h = absurd (omega arith)
  meant-complete {i = i} (plain k n m) (suc b) l h =
      let enough = less T i _ b k.1 (omega arith) (L.first_ahead i k.0 k.1) in
      if-true (is_record T i) _ _ (record_is_record T i k.0 k.1)
      ∙ if-false (eqb (T.at i).kind case_kind) _ _ (ne_eqb (T.at i).kind case_kind (λ e. (node-plain n).no-case (sym k.2 ∙ e)))
      ∙ rw (meant-complete {s = terms} m b enough.0 enough.1, k.2) (node_made n)
  meant-complete {i = i} (case_of k z m ms) (suc b) l h =
      let r = term-inside m in
      let later = ahead_later T i _ (L.first_ahead i k.0 k.1) r.0 in
      let enough = less T (T.at i).first _ b r.1 (omega arith) (L.next_ahead (T.at i).first r.0 r.1) in
      if-true (is_record T i) _ _ (record_is_record T i k.0 k.1)
      ∙ if-true (eqb (T.at i).kind case_kind) _ _ (eq-eqb _ _ k.2)
      ∙ rw (z, meant-complete {s = term} m b enough.0 (omega arith), meant-complete {s = branches} ms b enough.0 enough.1)
  meant-complete no_term (suc b) l h = refl
  meant-complete {i = i} (a_term m ms) (suc b) l h =
      let r = term-inside m in
      let here = far-chain T.n i (suc b) r.0 h in
      let enough = less T i _ b r.1 (omega arith) (L.next_ahead i r.0 r.1) in
      if-false (eqb i 0) _ _ (ne_eqb i 0 (λ z. omega arith))
      ∙ rw (meant-complete {s = term} m b enough.0 (omega arith), meant-complete {s = terms} ms b enough.0 enough.1)
  meant-complete no_branch (suc b) l h = refl
  meant-complete {i = i} (a_branch k m ms) (suc b) l h =
      let here = far-chain T.n i (suc b) k.0 h in
      let enough = less T i _ b k.1 (omega arith) (L.first_ahead i k.0 k.1) in
      if-false (eqb i 0) _ _ (ne_eqb i 0 (λ z. omega arith))
      ∙ if-true (is_record T i && eqb (T.at i).kind branch_kind) _ _
      ((and-eq-true_iff (is_record T i) (eqb (T.at i).kind branch_kind)).1 (record_is_record T i k.0 k.1, eq-eqb _ _ k.2))
      ∙ rw (meant-complete {s = terms} m b enough.0 enough.1, meant-complete {s = branches} ms b enough.0 (less T i _ b k.1 (omega arith) (L.next_ahead i k.0 k.1)).1)

pub meaning-complete : MeaningComplete
unfolding meaning
meaning-complete T t h m =
    let r = term-inside m in
    meant-complete (linked T h) m (2 * T.n) (omega arith) (omega arith)

-- One meaning at most.
node-unique : {k k' v : ℕ} {xs xs' : Terms} {t u : Term} → Node k v xs t → Node k' v xs' u → k ≡ k' → xs ≡ xs' → t ≡ u
node-unique {k} {v = v} {xs = xs} n n' e f =
    let one = node_made n in
    let two = node_made n' in
    cc

pub means-unique : MeansUnique
means-unique T s i e g d d' = unique d d'
  where
    unique : {s : Sort} {i : ℕ} {e g : Exp s} → Means T s i e → Means T s i g → e ≡ g
    unique (plain k n m) (plain k' n' m') = node-unique n n' (sym k.2 ∙ k'.2) (unique m m')
    unique (plain k n m) (case_of k' z m' ms) = absurd ((node-plain n).no-case (sym k.2 ∙ k'.2))
    unique (case_of k z m ms) (plain k' n m') = absurd ((node-plain n).no-case (sym k'.2 ∙ k.2))
    unique (case_of k z m ms) (case_of k' z' m' ms') = ap₂ case (unique m m') (unique ms ms')
    unique no_term no_term = refl
    unique no_term (a_term m ms) = absurd (omega (arith, term-inside m))
    unique (a_term m ms) no_term = absurd (omega (arith, term-inside m))
    unique (a_term m ms) (a_term m' ms') = ap₂ cons (unique m m') (unique ms ms')
    unique no_branch no_branch = refl
    unique no_branch (a_branch k m ms) = absurd (omega arith)
    unique (a_branch k m ms) no_branch = absurd (omega arith)
    unique (a_branch k m ms) (a_branch k' m' ms') = let body = unique m m' in let rest = unique ms ms' in cc
