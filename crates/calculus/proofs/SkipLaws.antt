-- The extent of the words of an expression: over as many items as it has, `span` counts and `skip` passes exactly its words, whatever words
-- follow them.
use Prim.Native.Nat.{ℕ, zero, suc, ◌+◌, ◌≤◌, ◌<◌}
use mathlib.Core.Path.{◌≡◌, refl, sym, ◌∙◌, ap}
use mathlib.Core.List.{List, [], ◌∷◌, ◌++◌, append_assoc}
use native.Mathlib.Nat.{zero-add, suc-add, add_assoc}
use native.Mathlib.Omega.{arith}
use lib.ListN.{length, drop, length-append}
use lib.Seq.{drop-append-add}
use Rattle.calculus.specs.Term.{Sort, term, terms, branches, Exp, var, lam, app, con, case, num, nil, cons, end, branch, count}
use Rattle.calculus.specs.Words.{variable_kind, constructor_kind, case_kind, branch_kind, numeral_kind, kind_base, word, count_base, pack, words, size}
use Rattle.calculus.specs.Skip.{following, arity, skip, span}
use Rattle.calculus.specs.Theorems.{Packable}
use Rattle.calculus.proofs.WordLaws.{kind_of-word, payload_of-word, count_of-pack}

-- The arity of a word made of a kind and a payload.
arity-word : (k p : ℕ) → k < kind_base → arity (word k p) ≡ following k p
arity-word k p h = rw (kind_of-word k p h, payload_of-word k p h)

pub arity_variable : (i : ℕ) → arity (word variable_kind i) ≡ 0
unfolding following
arity_variable i = arity-word variable_kind i (omega arith)

pub arity-numeral : (n : ℕ) → arity (word numeral_kind n) ≡ 0
unfolding following
arity-numeral n = arity-word numeral_kind n (omega arith)

pub arity_constructor : (t n : ℕ) → n < count_base → arity (word constructor_kind (pack t n)) ≡ n
unfolding following
arity_constructor t n h = arity-word constructor_kind (pack t n) (omega arith) ∙ count_of-pack t n h

pub arity_case : (n : ℕ) → arity (word case_kind n) ≡ suc n
unfolding following
arity_case n = arity-word case_kind n (omega arith)

pub arity_branch : (p : ℕ) → arity (word branch_kind p) ≡ 1
unfolding following
arity_branch p = arity-word branch_kind p (omega arith)

-- With these words in front, a walk over j items passes them all and has k items left to pass.
record Passes (xs : List ℕ) (j k : ℕ) : Type 0 where
  passed : (ws : List ℕ) → span j (xs ++ ws) ≡ length xs + span k ws

passes_none : {j k : ℕ} → j ≡ k → Passes [] j k
passes_none {j} {k} p = record { passed = λ ws. ap (λ n. span n ws) p ∙ sym (zero-add (span k ws)) }

passes-word : {w j k l : ℕ} {xs : List ℕ} → arity w + j ≡ k → Passes xs k l → Passes (w ∷ xs) (suc j) l
passes-word {l = l} {xs} p q =
    record { passed = λ ws. ap (λ n. suc (span n (xs ++ ws))) p ∙ ap suc (q.passed ws) ∙ sym (suc-add (length xs) (span l ws)) }

passes_append : {xs ys : List ℕ} {j k l : ℕ} → Passes xs j k → Passes ys k l → Passes (xs ++ ys) j l
passes_append {xs} {ys} {j} p q =
    record { passed = λ ws. ap (span j) (append_assoc xs ys ws) ∙ omega (arith, p.passed (ys ++ ws), q.passed ws, length-append xs ys) }

passes_from : {xs : List ℕ} {i j k : ℕ} → i ≡ j → Passes xs j k → Passes xs i k
passes_from p q = rw p q

-- The number of items of an expression and k more.
abbrev pub items_and : {s : Sort} → Exp s → ℕ → ℕ
items_and {s = term} e k = suc k
items_and {s = terms} e k = count e + k
items_and {s = branches} e k = count e + k

passes-words : {s : Sort} (e : Exp s) (k : ℕ) → Packable e → Passes (words e) (items_and e k) k
unfolding following
passes-words (var i) k h = passes-word (omega (arith, arity_variable i)) (passes_none refl)
passes-words (lam b) k h = passes-word (omega arith) (passes-words b k h)
passes-words (app f a) k h = passes-word (omega arith) (passes_append (passes-words f (suc k) h.0) (passes-words a k h.1))
passes-words (con t xs) k h = passes-word (omega (arith, arity_constructor t (count xs) h.0)) (passes-words xs k h.1)
passes-words (case e bs) k h =
    passes-word (omega (arith, arity_case (count bs))) (passes_append (passes-words e (count bs + k) h.1) (passes-words bs k h.2))
passes-words (num n) k h = passes-word (omega (arith, arity-numeral n)) (passes_none refl)
passes-words nil k h = passes_none (zero-add k)
passes-words (cons a xs) k h =
    passes_from (suc-add (count xs) k) (passes_append (passes-words a (count xs + k) h.0) (passes-words xs k h.1))
passes-words end k h = passes_none (zero-add k)
passes-words (branch t n b bs) k h =
    passes_from (suc-add (count bs) k) (passes-word (omega (arith, arity_branch (pack t n)))
    (passes_append (passes-words b (count bs + k) h.1) (passes-words bs k h.2)))

pub span-words : {s : Sort} (e : Exp s) (k : ℕ) (ws : List ℕ) → Packable e → span (items_and e k) (words e ++ ws) ≡ size e + span k ws
span-words e k ws h = (passes-words e k h).passed ws

-- `skip` drops the words that `span` counts.
pub skip-drop : (k : ℕ) (ws : List ℕ) → skip k ws ≡ drop (span k ws) ws
skip-drop k [] = refl
skip-drop zero (w ∷ ws) = refl
skip-drop (suc k) (w ∷ ws) = skip-drop (arity w + k) ws

pub skip-words : {s : Sort} (e : Exp s) (k : ℕ) (ws : List ℕ) → Packable e → skip (items_and e k) (words e ++ ws) ≡ skip k ws
skip-words e k ws h =
    skip-drop (items_and e k) (words e ++ ws)
    ∙ ap (λ n. drop n (words e ++ ws)) (span-words e k ws h)
    ∙ drop-append-add (words e) ws (span k ws)
    ∙ sym (skip-drop k ws)

pub skip_zero : (ws : List ℕ) → skip zero ws ≡ ws
skip_zero [] = refl
skip_zero (w ∷ ws) = refl

pub span_zero : (ws : List ℕ) → span zero ws ≡ 0
span_zero [] = refl
span_zero (w ∷ ws) = refl

pub span_bounded : (k : ℕ) (ws : List ℕ) → span k ws ≤ length ws
span_bounded k [] = omega arith
span_bounded zero (w ∷ ws) = omega arith
span_bounded (suc k) (w ∷ ws) = omega (arith, span_bounded (arity w + k) ws)

-- Items behind items.
pub span-add : (ws : List ℕ) (j k : ℕ) → span (j + k) ws ≡ span j ws + span k (drop (span j ws) ws)
span-add [] j k = refl
span-add (w ∷ ws) zero k = ap (λ m. span m (w ∷ ws)) (zero-add k) ∙ sym (zero-add _)
span-add (w ∷ ws) (suc j) k =
    ap (λ m. span m (w ∷ ws)) (suc-add j k)
    ∙ ap (λ m. suc (span m ws)) (sym (add_assoc (arity w) j k))
    ∙ ap suc (span-add ws (arity w + j) k)
    ∙ sym (suc-add _ _)

-- More items end no earlier, and an item that starts inside others ends inside them.
span_more : (j k : ℕ) (ws : List ℕ) → j ≤ k → span j ws ≤ span k ws
span_more j k [] h = omega arith
span_more zero k (w ∷ ws) h = omega arith
span_more (suc j) zero (w ∷ ws) h = absurd (omega arith)
span_more (suc j) (suc k) (w ∷ ws) h = omega (arith, span_more (arity w + j) (arity w + k) ws (omega arith))

pub span-inside : (k i : ℕ) (ws : List ℕ) → i < span k ws → i + span 1 (drop i ws) ≤ span k ws
span-inside k i [] h = absurd (omega arith)
span-inside zero i (w ∷ ws) h = absurd (omega arith)
span-inside (suc k) zero (w ∷ ws) h = omega (arith, span_more (arity w + 0) (arity w + k) ws (omega arith))
span-inside (suc k) (suc i) (w ∷ ws) h = omega (arith, span-inside (arity w + k) i ws (omega arith))
