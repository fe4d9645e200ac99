-- The records of an expression standing in a table from an index on: what they mean, and that they are in prefix order.
use Prim.Native.Nat.{ℕ, suc, ◌+◌, ◌≤◌}
use mathlib.Core.Path.{◌≡◌, refl, ap}
use mathlib.Core.List.{List, [], ◌∷◌, ◌++◌}
use native.Mathlib.Omega.{arith}
use lib.ListN.{length, length-append}
use borrow.Author.Tests.{ne_eqb}
use Rattle.calculus.specs.Term.{Sort, term, terms, branches, Exp, case, nil, cons, branch, Term, Terms, Branches, count}
use Rattle.calculus.specs.Words.{words, size, tag_of, count_of}
use Rattle.calculus.specs.Theorems.{counted, Packable}
use Rattle.calculus.proofs.WordLaws.{tag_of-pack, count_of-pack}
use Rattle.storage.specs.Records.{Record, Table, entry}
use Rattle.storage.proofs.RecordLaws.{Parts}
use Rattle.storage.specs.Meaning.{Node, Means, plain, case_of, no_term, a_term, no_branch, a_branch}
use Rattle.storage.specs.PrefixOrder.{Fills, nothing, chained}
use Rattle.storage.specs.Write.{link_to, records}
use Rattle.storage.proofs.Meaning.Nodes.{node-size, node-records, node-below, Built, plain, of_case, empty, listed, ended, branched, built}

-- The record at an index has the parts of the first of them, whatever it declares, and so on.
abbrev pub Stand : Table → ℕ → List Record → Type 0
Stand T i [] = Unit {0}
Stand T i (r ∷ rs) = Parts (T.at i) r × Stand T (suc i) rs

-- Records one after the other.
stand-split : (T : Table) (rs rs' : List Record) (i j : ℕ) → j ≡ i + length rs → Stand T i (rs ++ rs') → Stand T i rs × Stand T j rs'
stand-split T [] rs' i j e h = let same : j ≡ i = omega arith in (tt, rw same h)
stand-split T (r ∷ rs) rs' i j e h = let both = stand-split T rs rs' (suc i) j (omega arith) h.1 in ((h.0, both.0), both.1)

stand-join : (T : Table) (rs rs' : List Record) (i j : ℕ) → j ≡ i + length rs → Stand T i rs → Stand T j rs' → Stand T i (rs ++ rs')
stand-join T [] rs' i j e h h' = let same : i ≡ j = omega arith in rw same h'
stand-join T (r ∷ rs) rs' i j e h h' = (h.0, stand-join T rs rs' (suc i) j (omega arith) h.1 h')

-- As many records as words.
built-length : {s : Sort} {e : Exp s} → Built s e → (i x : ℕ) → length (records i x e) ≡ size e
built-length (plain {xs = xs} n b) i x = rw (node-records n i x, node-size n) (ap suc (built-length b (suc i) 0))
built-length (of_case {e} {bs} b c) i x =
    simp length-append (omega (arith, built-length b (suc i) (link_to (suc i + size e) bs), built-length c (suc i + size e) 0))
built-length empty i x = refl
built-length (listed {a} {xs} b c) i x = simp length-append (omega (arith, built-length b i (link_to (i + size a) xs), built-length c (i + size a) 0))
built-length ended i x = refl
built-length (branched {b = b} c d) i x = simp length-append (omega (arith, built-length c (suc i) 0, built-length d (suc i + size b) 0))

pub records-length : {s : Sort} (e : Exp s) (i x : ℕ) → length (records i x e) ≡ size e
records-length e = built-length (built e)

pub stand-both : (T : Table) {s s' : Sort} (e : Exp s) (g : Exp s') (i x y : ℕ) → Stand T i (records i x e ++ records (i + size e) y g)
    → Stand T i (records i x e) × Stand T (i + size e) (records (i + size e) y g)
stand-both T e g i x y h = stand-split T (records i x e) _ i (i + size e) (omega (arith, records-length e i x)) h

pub stand-with : (T : Table) {s s' : Sort} (e : Exp s) (g : Exp s') (i x y : ℕ) → Stand T i (records i x e)
    → Stand T (i + size e) (records (i + size e) y g) → Stand T i (records i x e ++ records (i + size e) y g)
stand-with T e g i x y h h' = stand-join T (records i x e) _ i (i + size e) (omega (arith, records-length e i x)) h h'

-- A plain record and its children.
pub stand-node : (T : Table) {k v : ℕ} {xs : Terms} {t : Term} → Node k v xs t → (i x : ℕ) → Stand T i (records i x t)
    → Parts (T.at i) (entry k v (link_to (suc i) xs) x) × Stand T (suc i) (records (suc i) 0 xs)
stand-node T n i x h = rw (node-records n i x) at h

-- The record of a term has the next sibling that it is given.
pub stand-next : (T : Table) {t : Term} → Built term t → (i x : ℕ) → Stand T i (records i x t) → (T.at i).next ≡ x
stand-next T (plain n b) i x h = (stand-node T n i x h).0.next
stand-next T (of_case b c) i x h = h.0.next

-- Where a list stands, a link to it names its first record.
pub link-cons : (i : ℕ) (a : Term) (xs : Terms) → link_to i (cons a xs) ≡ i
link-cons i a xs = rw (ne_eqb (suc (count xs)) 0 (λ e. omega arith))

pub link_branch : (i t n : ℕ) (b : Term) (bs : Branches) → link_to i (branch t n b bs) ≡ i
link_branch i t n b bs = rw (ne_eqb (suc (count bs)) 0 (λ e. omega arith))

-- The index at which an expression is read: a term's record, or the link to a list.
abbrev pub start : {s : Sort} → ℕ → Exp s → ℕ
start {s = term} i e = i
start {s = terms} i e = link_to i e
start {s = branches} i e = link_to i e

-- A term and the chain that its next link starts.
pub then : {T : Table} {i l : ℕ} {a : Term} {xs : Terms} → Means T term i a → (T.at i).next ≡ l → Means T terms l xs → Means T terms i (cons a xs)
then {xs = xs} m e ms = a_term {xs = xs} m (rw e ms)

pub stand-means : (T : Table) {s : Sort} {e : Exp s} → Built s e → (i x : ℕ) → 1 ≤ i → i + size e ≤ suc T.n → Packable e → Stand T i (records i x e)
    → Means T s (start i e) e
stand-means T (plain {xs = xs} {t = t} n b) i x l u p h =
    let own = stand-node T n i x h in
    let m = stand-means T b (suc i) 0 (omega arith) (omega (arith, node-size n)) (node-below counted n tt p).1 own.1 in
    plain {xs = xs} {t = t} (l, omega (arith, node-size n), own.0.kind) (rw own.0.value n) (rw own.0.first m)
stand-means T (of_case {e} {bs} b c) i x l u p h =
    let room = length-append (words e) (words bs) in
    let both = stand-both T e bs (suc i) (link_to (suc i + size e) bs) 0 h.1 in
    let m = stand-means T b (suc i) (link_to (suc i + size e) bs) (omega arith) (omega arith) p.1 both.0 in
    let ms = stand-means T c (suc i + size e) 0 (omega arith) (omega arith) p.2 both.1 in
    case_of {e = e} {bs = bs} (l, omega arith, h.0.kind) h.0.value (rw h.0.first m) (rw h.0.first (rw (stand-next T b _ _ both.0) ms))
stand-means T empty i x l u p h = no_term
stand-means T (listed {a} {xs} b c) i x l u p h =
    let room = length-append (words a) (words xs) in
    let both = stand-both T a xs i (link_to (i + size a) xs) 0 h in
    let m = stand-means T b i (link_to (i + size a) xs) l (omega arith) p.0 both.0 in
    let ms = stand-means T c (i + size a) 0 (omega arith) (omega arith) p.1 both.1 in
    rw (link-cons i a xs) (then m (stand-next T b i _ both.0) ms)
stand-means T ended i x l u p h = no_branch
stand-means T (branched {t} {n} {b} {bs} c d) i x l u p h =
    let room = length-append (words b) (words bs) in
    let both = stand-both T b bs (suc i) 0 0 h.1 in
    let body = stand-means T c (suc i) 0 (omega arith) (omega arith) p.1 both.0 in
    let ms = stand-means T d (suc i + size b) 0 (omega arith) (omega arith) p.2 both.1 in
    let child : Means T terms (T.at i).first (cons b nil) = rw h.0.first (then body (stand-next T c _ 0 both.0) no_term) in
    let m : Means T branches i (branch (tag_of (T.at i).value) (count_of (T.at i).value) b bs) =
    a_branch {b = b} {bs = bs} (l, omega arith, h.0.kind) child (rw h.0.next ms) in
    rw (link_branch i t n b bs) (rw (h.0.value, tag_of-pack t n p.0, count_of-pack t n p.0) at m)

-- A record, the chain of its children and what follows it.
record-fills : (T : Table) (r : Record) (i j j' k : ℕ) → Parts (T.at i) r → Fills T r.first (suc i) j → j ≡ j' → Fills T r.next j' k → Fills T i i k
record-fills T r i j j' k e f q g = chained {i = i} {j = j'} {k = k} (rw (e.first, ← q) f) (rw e.next g)

nothing-to : (T : Table) (i k : ℕ) → i ≡ k → Fills T 0 i k
nothing-to T i k e = rw e nothing

-- A term fills its records and goes on with what its next link fills; a list fills its records.
abbrev pub FillsFrom : Table → {s : Sort} → (i x : ℕ) → Exp s → Type 0
FillsFrom T {s = term} i x e = (k : ℕ) → Fills T x (i + size e) k → Fills T i i k
FillsFrom T {s = terms} i x e = Fills T (link_to i e) i (i + size e)
FillsFrom T {s = branches} i x e = Fills T (link_to i e) i (i + size e)

pub stand-fills : (T : Table) {s : Sort} {e : Exp s} → Built s e → (i x : ℕ) → Stand T i (records i x e) → FillsFrom T i x e
stand-fills T (plain {xs = xs} {t = t} n b) i x h = λ k g.
    let own = stand-node T n i x h in
    record-fills T _ i (suc i + size xs) (i + size t) k own.0 (stand-fills T b (suc i) 0 own.1) (omega (arith, node-size n)) g
stand-fills T (of_case {e} {bs} b c) i x h = λ k g.
    let both = stand-both T e bs (suc i) (link_to (suc i + size e) bs) 0 h.1 in
    let last = suc i + size e + size bs in
    record-fills T _ i last (i + size (case e bs)) k h.0
    (stand-fills T b (suc i) (link_to (suc i + size e) bs) both.0 last (stand-fills T c (suc i + size e) 0 both.1))
    (omega (arith, length-append (words e) (words bs))) g
stand-fills T empty i x h = nothing-to T i (i + 0) (omega arith)
stand-fills T (listed {a} {xs} b c) i x h =
    let both = stand-both T a xs i (link_to (i + size a) xs) 0 h in
    let same : i + size (cons a xs) ≡ i + size a + size xs = omega (arith, length-append (words a) (words xs)) in
    rw (link-cons i a xs, same) (stand-fills T b i (link_to (i + size a) xs) both.0 _ (stand-fills T c (i + size a) 0 both.1))
stand-fills T ended i x h = nothing-to T i (i + 0) (omega arith)
stand-fills T (branched {t} {n} {b} {bs} c d) i x h =
    let both = stand-both T b bs (suc i) 0 0 h.1 in
    let same : i + size (branch t n b bs) ≡ suc i + size b + size bs = omega (arith, length-append (words b) (words bs)) in
    rw (link_branch i t n b bs, same)
    (record-fills T _ i (suc i + size b) (suc i + size b) _ h.0 (stand-fills T c (suc i) 0 both.0 (suc i + size b) nothing) refl
    (stand-fills T d (suc i + size b) 0 both.1))
