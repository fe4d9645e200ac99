-- The reader finds the term of a line: bytes that spell an item put its words in front of what is read behind them.
use Prim.Native.Nat.{ℕ, zero, suc, ◌+◌, ◌*◌, ◌≤◌}
use mathlib.Core.Path.{◌≡◌, refl, sym, ◌∙◌, ap}
use mathlib.Core.List.{List, [], ◌∷◌, ◌++◌, append_assoc, append-nil}
use mathlib.Core.Option.{Option, some, none, bind}
use native.Mathlib.Omega.{arith}
use borrow.Author.Tests.{le-leb}
use Rattle.calculus.specs.Term.{Term}
use Rattle.calculus.specs.Accepted.{index_limit}
use Rattle.calculus.specs.Words.{word, variable_kind, abstraction_kind, application_kind, words}
use Rattle.notation.specs.Grammar.{space, opening, closing, zero_digit, backslash, Digits, no_digit, digit, Index, zero_itself, no_leading_zero, Place, anywhere, last, Category, item, items, Spells, index, parentheses, abstraction, one, applied, Line}
use Rattle.notation.specs.Reader.{sign, State, wanted, number, begun, Begun, begins, apply, is_index, settle, on_digit, on_close, popped, on_begun, step, scan, finish, line_words}
use Rattle.calculus.specs.Theorems.{Packable}
use Rattle.notation.specs.Theorems.{GrammarUnambiguous}
use Rattle.calculus.proofs.ReadLaws.{words_injective}
use Rattle.notation.proofs.SignLaws.{sign-digit}

-- What starts at the front of bytes.
abbrev pub start : List ℕ → Option Begun
start bs = bind (scan bs) settle

-- At the last place no item follows.
abbrev pub Fits : Place → ℕ → Type 0
Fits anywhere n = Unit {0}
Fits last n = n ≡ 0

pub mul_one : (d p : ℕ) → 1 ≤ d → p ≤ d * p
mul_one zero p h = elim h [ ]
mul_one (suc d) p h = omega arith

scan-digits : {ds : List ℕ} {p v : ℕ} (d : ℕ) (rest : List ℕ) {n : ℕ} {ns ws : List ℕ} → d ≤ 9 → p ≤ index_limit → Digits ds p v
    → scan rest ≡ some (wanted n ns ws) → scan ((zero_digit + d) ∷ (ds ++ rest)) ≡ some (number (d * p + v) (p * 10) n ns ws)
unfolding scan step on_digit bind
scan-digits d rest h g no_digit q = rw (q, sign-digit d h) (let e : d * 1 + 0 ≡ d = omega arith in cc)
scan-digits d rest h g (digit {d = e} {p = p} {n = v} f ds) q =
    rw (scan-digits e rest f (omega arith) ds q, sign-digit d h, le-leb (p * 10) index_limit g)

scan_index : {bs : List ℕ} {i : ℕ} (rest : List ℕ) {n : ℕ} {ns ws : List ℕ} → Index bs i
    → scan rest ≡ some (wanted n ns ws) → start (bs ++ rest) ≡ some (begins n ns (word variable_kind i ∷ ws))
unfolding settle is_index bind
scan_index rest zero_itself q = rw (scan-digits 0 rest (omega arith) (omega arith) no_digit q)
scan_index rest (no_leading_zero {d} {p} {n} h g ds l) q =
    let k = mul_one d p h in
    rw (scan-digits d rest g (omega arith) ds q, le-leb (p * 10) ((d * p + n) * 10) (omega arith), le-leb (d * p + n) index_limit l)

-- What the reader makes of bytes that spell an item, and of bytes that spell items: k applications in front of words.
abbrev Reads : Category → Place → List ℕ → Term → Type 0
Reads item p bs t = (rest : List ℕ) (n : ℕ) (ns ws : List ℕ) → Fits p n → scan rest ≡ some (wanted n ns ws)
    → start (bs ++ rest) ≡ some (begins n ns (words t ++ ws))
Reads items p bs t = (k : ℕ) × (vs : List ℕ) × (words t ≡ apply k vs)
    × ((rest : List ℕ) (n m : ℕ) (ns ws : List ℕ) → m ≡ k + n → Fits p n → scan rest ≡ some (wanted n ns ws)
    → start (bs ++ rest) ≡ some (begins m ns (vs ++ ws)))

-- A sign that a started item stands behind.
started : (o : Option State) {B : Type 0} (g : Begun → Option B) {b : Begun} → bind o settle ≡ some b → bind o (λ σ. bind (settle σ) g) ≡ g b
unfolding bind
started none g q = cc
started (some σ) g q = rw q

scan-opening : (bs : List ℕ) {n m : ℕ} {ns ws : List ℕ} → start bs ≡ some (begins n (m ∷ ns) ws) → scan (opening ∷ bs) ≡ some (begun m ns (apply n ws))
unfolding scan sign step on_begun popped
scan-opening bs q = started (scan bs) _ q

scan_lambda : (bs : List ℕ) {n : ℕ} {ns ws : List ℕ} → start bs ≡ some (begins n ns ws)
    → scan (backslash ∷ bs) ≡ some (begun 0 ns (word abstraction_kind 0 ∷ apply n ws))
unfolding scan sign step on_begun
scan_lambda bs q = started (scan bs) _ q

scan-space : (bs : List ℕ) {n : ℕ} {ns ws : List ℕ} → start bs ≡ some (begins n ns ws) → scan (space ∷ bs) ≡ some (wanted (suc n) ns ws)
unfolding scan sign step on_begun
scan-space bs q = started (scan bs) _ q

scan-closing : (bs : List ℕ) {n : ℕ} {ns ws : List ℕ} → scan bs ≡ some (wanted n ns ws) → scan (closing ∷ bs) ≡ some (wanted 0 (n ∷ ns) ws)
unfolding scan sign step on_close bind
scan-closing bs q = rw q

applications_first : (t : Term) (k : ℕ) (vs ws : List ℕ) → words t ≡ apply k vs → apply k (vs ++ ws) ≡ words t ++ ws
applications_first t k vs ws e = rw (e, append_assoc)

reads : {f : Category} {p : Place} {bs : List ℕ} {t : Term} → Spells f p bs t → Reads f p bs t
unfolding settle bind
reads (index i) = λ rest n ns ws h q. scan_index rest i q
reads (parentheses {bs = bs} {t = t} s) = λ rest n ns ws h q.
    let r = reads s in
    rw (append_assoc bs (closing ∷ []) rest, scan-opening _ (r.3 (closing ∷ rest) 0 r.0 (n ∷ ns) ws (omega arith) refl (scan-closing rest q)))
    (cc (applications_first t r.0 r.1 ws r.2))
reads (abstraction {bs = bs} {b = b} s) = λ rest n ns ws h q.
    let r = reads s in
    rw (scan_lambda _ (r.3 rest n r.0 ns ws (omega arith) h q))
    (cc (applications_first b r.0 r.1 ws r.2, h))
reads (one {t = t} s) = (0, words t, refl, λ rest n m ns ws e h q. let d : m ≡ n = omega arith in rw d (reads s rest n ns ws h q))
reads (applied {bs = bs} {cs = cs} {f = f} {a = a} s u) =
    let r = reads s in (
      suc r.0,
      r.1 ++ words a,
      ap (λ (vs : List ℕ). word application_kind 0 ∷ vs) (sym (applications_first f r.0 r.1 (words a) r.2)),
      λ rest n m ns ws e h q.
          rw (append_assoc bs (space ∷ cs) rest, append_assoc r.1 (words a) ws) (r.3 (space ∷ (cs ++ rest)) (suc n) m ns (words a ++ ws) (omega arith) tt (scan-space _ (reads u rest n ns ws h q))),
    )

pub words-complete : {bs : List ℕ} {t : Term} → Line bs t → line_words bs ≡ some (words t)
unfolding line_words finish scan
words-complete {bs} {t} s =
    let r = reads s in
    started (scan bs) _ (simp append-nil at (r.3 [] 0 r.0 [] [] (omega arith) refl refl)) ∙ ap some (sym r.2)

pub packable : {f : Category} {p : Place} {bs : List ℕ} {t : Term} → Spells f p bs t → Packable t
packable (index i) = tt
packable (parentheses s) = packable s
packable (abstraction s) = packable s
packable (one s) = packable s
packable (applied s u) = (packable s, packable u)

pub grammar_unambiguous : GrammarUnambiguous
grammar_unambiguous bs t u s r = words_injective t u (packable s) (packable r) (cc (words-complete s, words-complete r))
