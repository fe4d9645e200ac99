-- The records that writing finds from the words of a term are those of the term.
use Prim.Native.Nat.{ℕ, suc, ◌+◌, ◌-◌, ◌<◌}
use mathlib.Core.Path.{◌≡◌, refl, ap, sym, ◌∙◌}
use mathlib.Core.List.{List, [], ◌∷◌, ◌++◌, append_assoc, append-nil}
use native.Mathlib.Nat.{add-zero}
use native.Mathlib.Omega.{arith}
use lib.Dec.{eqb-suc-zero}
use lib.ListN.{length-append}
use Rattle.calculus.specs.Term.{Sort, term, terms, branches, Exp, case, Term, count}
use Rattle.calculus.specs.Words.{case_kind, branch_kind, kind_base, word, words, size, pack}
use Rattle.calculus.specs.Skip.{arity, span}
use Rattle.calculus.specs.Theorems.{counted, Packable}
use Rattle.calculus.proofs.WordLaws.{kind_of-word, payload_of-word}
use Rattle.calculus.proofs.SkipLaws.{arity_case, arity_branch, span-words, span_zero}
use Rattle.storage.specs.Records.{Record, entry}
use Rattle.storage.specs.Write.{link_to, records}
use Rattle.transcription.specs.Writing.{link_if, push, entries}
use Rattle.storage.proofs.Meaning.Nodes.{node-plain, node-words, node-size, node-arity, node-value, node-records, node-below, Built, plain, of_case, empty, listed, ended, branched, built}
use Rattle.storage.specs.Payload.{payload, value_of}

-- The record of a word in front, by its kind, payload, number of children and extent.
first_entry : (k p a s i m : ℕ) (ks ws : List ℕ) → k < kind_base → arity (word k p) ≡ a → span 1 (word k p ∷ ws) ≡ s
    → entries i (suc m ∷ ks) (word k p ∷ ws)
    ≡ entry k (value_of k p) (link_if a (suc i)) (link_if m (i + s)) ∷ entries (suc i) (push a (push m ks)) ws
first_entry k p a s i m ks ws h e q =
    let less : suc m - 1 ≡ m = omega arith in
    rw (less, q, e, kind_of-word k p h, payload_of-word k p h)

term_span : (t : Term) (rest : List ℕ) → Packable t → span 1 (words t ++ rest) ≡ size t
term_span t rest h = span-words t 0 rest h ∙ rw (span_zero, add-zero)

branch_span : (p : ℕ) (b : Term) (ws rest : List ℕ) → Packable b → span 1 (word branch_kind p ∷ (words b ++ ws ++ rest)) ≡ suc (size b)
branch_span p b ws rest h = ap suc (rw (arity_branch p, append_assoc (words b) ws rest) (term_span b (ws ++ rest) h))

-- A record with what follows it, part by part; and two parts one after the other.
same-entry : (k : ℕ) {v v' f f' x x' : ℕ} {rs rs' : List Record} → v ≡ v' → f ≡ f' → x ≡ x' → rs ≡ rs' → entry k v f x ∷ rs ≡ entry k v' f' x' ∷ rs'
same-entry k e f g h = rw (e, f, g, h)

two_parts : (i : ℕ) (ks xs ys rest : List ℕ) (rs qs ps : List Record) {os : List Record} → entries i ks (xs ++ (ys ++ rest)) ≡ rs ++ os → os ≡ qs ++ ps
    → entries i ks (xs ++ ys ++ rest) ≡ rs ++ qs ++ ps
two_parts i ks xs ys rest rs qs ps e f =
    ap (entries i ks) (append_assoc xs ys rest) ∙ e ∙ ap (λ os. rs ++ os) f ∙ sym (append_assoc rs qs ps)

-- A term with m siblings after it, and a list of arguments or branches, from index i up to before j.
abbrev EntriesOf : {s : Sort} → Exp s → (i j m : ℕ) (ks rest : List ℕ) → Type 0
EntriesOf {s = term} e i j m ks rest = entries i (suc m ∷ ks) (words e ++ rest) ≡ records i (link_if m j) e ++ entries j (push m ks) rest
EntriesOf {s = terms} e i j m ks rest = entries i (push (count e) ks) (words e ++ rest) ≡ records i 0 e ++ entries j ks rest
EntriesOf {s = branches} e i j m ks rest = entries i (push (count e) ks) (words e ++ rest) ≡ records i 0 e ++ entries j ks rest

entries_of : {s : Sort} {e : Exp s} → Built s e → (i j m : ℕ) (ks rest : List ℕ) → Packable e → j ≡ i + size e → EntriesOf e i j m ks rest
unfolding value_of
entries_of (plain {k} {v} {xs} {t} n b) i j m ks rest h e =
    let p = payload k v (count xs) in
    rw (node-words n, node-records n)
    (first_entry k p (count xs) (suc (size xs)) i m ks (words xs ++ rest) (omega (arith, (node-plain n).known)) (node-arity n h) (rw (node-words n) at (term_span t rest h))
    ∙ same-entry k (node-value n h) refl (ap (link_if m) (omega (arith, e, node-size n)))
    (entries_of b (suc i) j 0 (push m ks) rest (node-below counted n tt h).1 (omega (arith, e, node-size n))))
entries_of (of_case {e = t} {bs = bs} b c) i j m ks rest h e =
    first_entry case_kind (count bs) (suc (count bs)) (size (case t bs)) i m ks (words t ++ words bs ++ rest) (omega arith)
    (arity_case (count bs)) (term_span (case t bs) rest h)
    ∙ same-entry case_kind refl (rw (eqb-suc-zero (count bs))) (ap (link_if m) (sym e))
    (two_parts (suc i) (suc (count bs) ∷ push m ks) (words t) (words bs) rest (records (suc i) (link_to (suc i + size t) bs) t) (records (suc i + size t) 0 bs) _
    (entries_of b (suc i) (suc i + size t) (count bs) (push m ks) (words bs ++ rest) h.1 refl)
    (entries_of c (suc i + size t) j 0 (push m ks) rest h.2 (omega (arith, e, length-append (words t) (words bs)))))
entries_of empty i j m ks rest h e = let same : i ≡ j = omega (arith, e) in ap (λ n. entries n ks rest) same
entries_of (listed {a} {xs} b c) i j m ks rest h e =
    two_parts i (suc (count xs) ∷ ks) (words a) (words xs) rest (records i (link_to (i + size a) xs) a) (records (i + size a) 0 xs) _
    (entries_of b i (i + size a) (count xs) ks (words xs ++ rest) h.0 refl)
    (entries_of c (i + size a) j 0 ks rest h.1 (omega (arith, e, length-append (words a) (words xs))))
entries_of ended i j m ks rest h e = let same : i ≡ j = omega (arith, e) in ap (λ n. entries n ks rest) same
entries_of (branched {t} {n} {b} {bs} c d) i j m ks rest h e =
    first_entry branch_kind (pack t n) 1 (suc (size b)) i (count bs) ks (words b ++ words bs ++ rest) (omega arith) (arity_branch (pack t n))
    (branch_span (pack t n) b (words bs) rest h.1)
    ∙ same-entry branch_kind refl refl (ap (link_if (count bs)) (omega arith))
    (two_parts (suc i) (1 ∷ push (count bs) ks) (words b) (words bs) rest (records (suc i) 0 b) (records (suc i + size b) 0 bs) _
    (entries_of c (suc i) (suc i + size b) 0 (push (count bs) ks) (words bs ++ rest) h.1 refl)
    (entries_of d (suc i + size b) j 0 ks rest h.2 (omega (arith, e, length-append (words b) (words bs)))))

pub entries-records : (t : Term) → Packable t → entries 1 (1 ∷ []) (words t) ≡ records 1 0 t
entries-records t h =
    ap (entries 1 (1 ∷ [])) (sym (append-nil (words t))) ∙ entries_of (built t) 1 (1 + size t) 0 [] [] h refl ∙ append-nil (records 1 0 t)
