-- The parts found in the words are those of the tree: at the first word of a term they are there exactly where the term contracts, and then the
-- contractum is the body found with the arguments found put in, or the numeral found.
use Prim.Native.Nat.{ℕ, suc, ◌+◌, ◌≤◌, ◌<◌}
use mathlib.Core.Path.{◌≡◌, refl, sym, ◌∙◌, ap}
use mathlib.Core.Bool.{Bool, true, false, cond}
use mathlib.Core.List.{List, [], ◌∷◌, ◌++◌, append_assoc, append-nil}
use mathlib.Core.Option.{Option, some, none, map, or_else}
use native.Mathlib.Nat.{add-zero}
use native.Mathlib.Omega.{arith}
use lib.Dec.{eqb}
use lib.ListN.{length, drop, length-append}
use lib.Seq.{drop-drop, drop-append_seam}
use borrow.Author.Tests.{ne_eqb}
use Rattle.calculus.specs.Term.{Sort, Exp, Term, Terms, Branches, var, lam, app, con, case, num, nil, cons, end, branch, count, is_default}
use Rattle.calculus.specs.Words.{variable_kind, abstraction_kind, application_kind, constructor_kind, case_kind, branch_kind, numeral_kind, kind_base, word, count_base, pack, words, size}
use Rattle.calculus.specs.Skip.{skip, span}
use Rattle.calculus.specs.Substitution.{subst as substitution}
use Rattle.calculus.specs.Numeral.{numeral}
use Rattle.calculus.specs.Contraction.{Rule, by_case, by_numeral, default, listed}
use Rattle.calculus.specs.Position.{step_at}
use Rattle.calculus.specs.Theorems.{Packable, IndicesWithin}
use Rattle.calculus.proofs.WordLaws.{kind_of-word, payload_of-word, tag_of-pack, count_of-pack}
use Rattle.calculus.proofs.SkipLaws.{items_and, skip-words, skip_zero, span-words}
use Rattle.calculus.proofs.FirstLaws.{span-items}
use Rattle.calculus.proofs.Substitution.{subst_none}
use Rattle.std.specs.Prelude.{Some, None}
use Rattle.std.specs.Prelude as code
use Rattle.redex.specs.declared.Found.{Found}
use Rattle.redex.specs.declared.Found.TheVariants as found
use Rattle.redex.specs.Rules.{Parts, nothing, parted, numbered, or_default, branch_body, with_body, case_parts, parts_behind, parts}

-- From a position on, a workspace is these words.
pub record From (W : List ℕ) (p : ℕ) (ws : List ℕ) : Type 0 where
  pub from : drop p W ≡ ws

pub behind-word : {W : List ℕ} {p w : ℕ} {ws : List ℕ} → From W p (w ∷ ws) → From W (p + 1) ws
behind-word {W} {p} s = record { from = sym (drop-drop 1 p W) ∙ ap (drop 1) s.from }

pub behind : {W : List ℕ} {p : ℕ} (xs : List ℕ) {ys : List ℕ} → From W p (xs ++ ys) → From W (p + length xs) ys
behind {W} {p} xs {ys} s = record { from = sym (drop-drop (length xs) p W) ∙ ap (drop (length xs)) s.from ∙ drop-append_seam xs ys }

-- At a position of a workspace stand the words of an expression.
pub record Stands {s : Sort} (W : List ℕ) (p : ℕ) (e : Exp s) : Type 0 where
  pub after : List ℕ
  pub words_at : From W p (words e ++ after)
  pub packable : Packable e

pub stands : {s : Sort} (e : Exp s) {W : List ℕ} {p : ℕ} (vs : List ℕ) → From W p (words e ++ vs) → Packable e → Stands W p e
stands e vs f h = record { after = vs; words_at = f; packable = h }

-- A term is a list of one argument.
stands_alone : (a : Term) {W : List ℕ} {p : ℕ} (vs : List ℕ) → From W p (words a ++ vs) → Packable a → Stands W p (cons a nil)
stands_alone a vs f h = stands (cons a nil) vs (rw (append-nil (words a)) f) (h, tt)

-- What stands behind one term.
skip_term : (t : Term) (ws : List ℕ) → Packable t → skip 1 (words t ++ ws) ≡ ws
skip_term t ws h = skip-words t 0 ws h ∙ skip_zero ws

-- A term and so many items behind it end at a position.
abbrev Ending : List ℕ → (p left last : ℕ) → Type 0
Ending W p left last = p + span (suc left) (drop p W) ≡ last

ending : {s : Sort} (t : Term) (e : Exp s) {W : List ℕ} {p left last : ℕ} (vs : List ℕ) → items_and e 0 ≡ left → Packable t → Packable e
    → From W p (words t ++ (words e ++ vs)) → p + size t + size e ≡ last → Ending W p left last
ending t e {left = left} vs k h h' s q =
    omega (arith, q, ap (span (suc left)) s.from, span-words t left (words e ++ vs) h, span-items e vs k h')

-- What the case rule selects, beside the body that was found, which has no more words than so many, and the branches left behind it.
data Selected (W : List ℕ) (xs : Terms) (most last : ℕ) : Option Term → code.Option Found → Type 0 where
  nowhere : Selected W xs most last none None
  by_listed : {p left : ℕ} {b : Term} → Stands W p b → size b ≤ most → Ending W p left last → Selected W xs most last (some (substitution xs 0 b)) (Some (found.Listed p left))
  by_default : {p left : ℕ} {b : Term} → Stands W p b → size b ≤ most → Ending W p left last → Selected W xs most last (some b) (Some (found.Default p left))

-- By the tests of one branch: whether it is the default, whether it has the tag, whether it binds as many as there are arguments.
by_tests : {W : List ℕ} {xs : Terms} {most last : ℕ} (others : Bool → Option Term) (default tag fits : Bool) {taken : Option Term} {q r o : code.Option Found}
    → Selected W xs most last (others true) q → Selected W xs most last taken r → Selected W xs most last (others false) o
    → Selected W xs most last (cond default (others default) (cond tag (cond fits taken none) (others default))) (cond default q (cond tag (cond fits r None) o))
by_tests others true tag fits d s o = d
by_tests others false true true d s o = s
by_tests others false true false d s o = nowhere
by_tests others false false fits d s o = o

-- A default among the branches yields to what was found before them.
earlier : {W : List ℕ} {xs : Terms} {most last : ℕ} {rest : Option Term} {before : code.Option Found} {p : ℕ} {b : Term} (left : ℕ) (o : Option Term) → Selected W xs most last rest before
    → Stands W p b → size b ≤ most → Ending W p left last
    → Selected W xs most last (or_else rest (some b)) (or_default before p left) × (or_else (or_else rest (some b)) o ≡ or_else rest (some b))
unfolding or_else
earlier left o nowhere s m e = (by_default s m e, refl)
earlier left o (by_listed s m e) _ _ _ = (by_listed s m e, refl)
earlier left o (by_default s m e) _ _ _ = (by_default s m e, refl)

none_behind : {A : Type 0} (o : Option A) → or_else o none ≡ o
unfolding or_else
none_behind none = refl
none_behind (some a) = refl

selected : (t : ℕ) (xs : Terms) (bs : Branches) {W : List ℕ} {at : ℕ} {rest : Option Term} {before : code.Option Found} (vs : List ℕ) (most last : ℕ) → Selected W xs most last rest before
    → size bs ≤ most → at + size bs ≡ last → Packable bs → From W at (words bs ++ vs)
    → Selected W xs most last (listed (or_else rest (default bs)) t xs bs) (branch_body before (count bs) t (count xs) at (words bs ++ vs))
unfolding branch_body
selected t xs end {rest = rest} vs most last k m l h s = rw (none_behind rest) k
selected t xs (branch u n b bs) {W} {at} {rest} {before} vs most last k m l h s =
    let c : suc (size b + size bs) ≤ most = omega (arith, length-append (words b) (words bs)) in
    let q = payload_of-word branch_kind (pack u n) (omega arith) in
    let s' = rw (append_assoc (words b) (words bs) vs) at (behind-word s) in
    let here = stands b (words bs ++ vs) s' h.1 in
    let room : at + 1 + size b + size bs ≡ last = omega (arith, length-append (words b) (words bs)) in
    let ends = ending b bs vs (add-zero (count bs)) h.1 h.2 s' room in
    let first = earlier (count bs) (default bs) k here (omega arith) ends in
    rw (q, tag_of-pack u n h.0, count_of-pack u n h.0, append_assoc (words b) (words bs) vs, span-items b (words bs ++ vs) refl h.1, skip_term b (words bs ++ vs) h.1)
    (by_tests (λ d. listed (or_else rest (cond d (some b) (default bs))) t xs bs) (is_default u n) (eqb t u) (eqb (count xs) n)
    (rw first.1 at (selected t xs bs vs most last first.0 (omega arith) room h.2 (behind (words b) s')))
    (by_listed here (omega arith) ends)
    (selected t xs bs vs most last k (omega arith) room h.2 (behind (words b) s')))

-- What contracting a term at its first word, which stands at a position, gives, beside the parts that were found there.
pub data Root (W : List ℕ) (at : ℕ) (t : Term) : Option (Rule × Term) → Parts → Type 0 where
  stuck : Root W at t none nothing
  contracts : {rule : Rule} {b a left : ℕ} {e : Term} {xs : Terms} → Stands W b e → Stands W a xs → count xs < count_base
      → ((limit : ℕ) → IndicesWithin limit t → IndicesWithin limit xs) → size e + size xs ≤ size t → Ending W b left (at + size t)
      → Root W at t (some (rule, substitution xs 0 e)) (parted rule b a (count xs) left)
  expands : {n : ℕ} → t ≡ num n → Root W at t (some (by_numeral, numeral n)) (numbered n)

-- The words of other kinds start no redex.
pub other_first : (k p at : ℕ) (ws : List ℕ) → k < kind_base → (k ≡ application_kind → ⊥) → (k ≡ case_kind → ⊥) → (k ≡ numeral_kind → ⊥)
    → parts at (word k p ∷ ws) ≡ nothing
unfolding parts parts_behind
other_first k p at [] l a c m = rw (kind_of-word k p l, ne_eqb _ _ m)
other_first k p at (v ∷ vs) l a c m = rw (kind_of-word k p l, ne_eqb _ _ m, ne_eqb _ _ a, ne_eqb _ _ c)

-- Nor do an application and a case where the wrong kind stands behind them.
other_function : (k p at : ℕ) (ws : List ℕ) → k < kind_base → (k ≡ abstraction_kind → ⊥) → parts at (word application_kind 0 ∷ word k p ∷ ws) ≡ nothing
unfolding parts parts_behind
other_function k p at ws l a = rw (kind_of-word k p l, ne_eqb _ _ a)

other_subject : (n k p at : ℕ) (ws : List ℕ) → k < kind_base → (k ≡ constructor_kind → ⊥) → parts at (word case_kind n ∷ word k p ∷ ws) ≡ nothing
unfolding parts parts_behind
other_subject n k p at ws l a = rw (kind_of-word case_kind n (omega arith), kind_of-word k p l, ne_eqb _ _ a)

at_function : {W : List ℕ} (f a : Term) {at : ℕ} (vs : List ℕ) → Packable (app f a) → From W at (words (app f a) ++ vs) → Root W at (app f a) (step_at 0 (app f a)) (parts at (words (app f a) ++ vs))
unfolding parts parts_behind step_at
at_function (var i) a vs h s = rw (other_function variable_kind i _ _ (omega arith) (λ e. omega arith)) stuck
at_function (lam b) a {at} vs h s =
    let two : at + 1 + 1 ≡ at + 2 = omega arith in
    let s' = rw (append_assoc (words b) (words a) vs, two) at (behind-word (behind-word s)) in
    rw (append_assoc (words b) (words a) vs, span-items b (words a ++ vs) refl h.0)
    (contracts (stands b (words a ++ vs) s' h.0) (stands_alone a vs (behind (words b) s') h.1) (omega arith) (λ limit i. (i.1, tt))
    (omega (arith, length-append (words b) (words a), length-append (words a) [])) (ending b a vs refl h.0 h.1 s' (omega (arith, length-append (words b) (words a)))))
at_function (app f g) a vs h s = stuck
at_function (con t xs) a vs h s = rw (other_function constructor_kind (pack t (count xs)) _ _ (omega arith) (λ e. omega arith)) stuck
at_function (case e bs) a vs h s = rw (other_function case_kind (count bs) _ _ (omega arith) (λ e. omega arith)) stuck
at_function (num n) a vs h s = rw (other_function numeral_kind n _ _ (omega arith) (λ e. omega arith)) stuck

root_selected : {W : List ℕ} {at : ℕ} {t : Term} {xs : Terms} {a most : ℕ} {o : Option Term} {r : code.Option Found} → Selected W xs most (at + size t) o r → Stands W a xs → count xs < count_base
    → ((limit : ℕ) → IndicesWithin limit t → IndicesWithin limit xs) → most + size xs ≤ size t
    → Root W at t (map (λ u. (by_case, u)) o) (with_body a (count xs) r)
root_selected nowhere s l i m = stuck
root_selected (by_listed b k e) s l i m = contracts b s l i (omega arith) e
root_selected {xs = xs} (by_default {b = e} b k ends) s l i m =
    rw (← subst_none e) (contracts b (stands nil (words xs ++ s.after) s.words_at tt) (omega arith) (λ limit i. tt) (omega arith) ends)

parts_constructor : (n p at : ℕ) (ws : List ℕ)
    → parts at (word case_kind n ∷ word constructor_kind p ∷ ws) ≡ case_parts at (word case_kind n) (word constructor_kind p) (word constructor_kind p ∷ ws)
unfolding parts parts_behind
parts_constructor n p at ws = rw (kind_of-word case_kind n (omega arith), kind_of-word constructor_kind p (omega arith))

case_parts-words : (n t : ℕ) (xs : Terms) (at : ℕ) (vs : List ℕ) → Packable (con t xs)
    → case_parts at (word case_kind n) (word constructor_kind (pack t (count xs))) (words (con t xs) ++ vs)
    ≡ with_body (at + 2) (count xs) (branch_body None n t (count xs) (at + 1 + size (con t xs)) vs)
unfolding case_parts
case_parts-words n t xs at vs h =
    rw (
      span-items (con t xs) vs refl h,
      skip_term (con t xs) vs h,
      payload_of-word case_kind n (omega arith),
      payload_of-word constructor_kind (pack t (count xs)) (omega arith),
      tag_of-pack t (count xs) h.0,
      count_of-pack t (count xs) h.0,
    )

at_subject : {W : List ℕ} (e : Term) (bs : Branches) {at : ℕ} (vs : List ℕ) → Packable (case e bs) → From W at (words (case e bs) ++ vs) → Root W at (case e bs) (step_at 0 (case e bs)) (parts at (words (case e bs) ++ vs))
unfolding step_at or_else
at_subject (var i) bs vs h s = rw (other_subject (count bs) variable_kind i _ _ (omega arith) (λ e. omega arith)) stuck
at_subject (lam b) bs vs h s = rw (other_subject (count bs) abstraction_kind 0 _ _ (omega arith) (λ e. omega arith)) stuck
at_subject (app f g) bs vs h s = rw (other_subject (count bs) application_kind 0 _ _ (omega arith) (λ e. omega arith)) stuck
at_subject (con t xs) bs {at} vs h s =
    let two : at + 1 + 1 ≡ at + 2 = omega arith in
    let s' = rw (append_assoc (words (con t xs)) (words bs) vs) at (behind-word s) in
    rw (append_assoc (words (con t xs)) (words bs) vs, parts_constructor (count bs) (pack t (count xs)) at (words xs ++ (words bs ++ vs)), case_parts-words (count bs) t xs at (words bs ++ vs) h.1)
    (root_selected (selected t xs bs vs (size bs) _ nowhere (omega arith) (omega (arith, length-append (words (con t xs)) (words bs))) h.2 (behind (words (con t xs)) s')) (stands xs (words bs ++ vs) (rw two at (behind-word s')) h.1.1) h.1.0 (λ limit i. i.1.1)
    (omega (arith, length-append (words (con t xs)) (words bs))))
at_subject (case e cs) bs vs h s = rw (other_subject (count bs) case_kind (count cs) _ _ (omega arith) (λ e. omega arith)) stuck
at_subject (num n) bs vs h s = rw (other_subject (count bs) numeral_kind n _ _ (omega arith) (λ e. omega arith)) stuck

parts-numeral : (n at : ℕ) (ws : List ℕ) → parts at (word numeral_kind n ∷ ws) ≡ numbered n
unfolding parts
parts-numeral n at ws = rw (kind_of-word numeral_kind n (omega arith), payload_of-word numeral_kind n (omega arith))

root_words : {W : List ℕ} (t : Term) {at : ℕ} (vs : List ℕ) → Packable t → From W at (words t ++ vs) → Root W at t (step_at 0 t) (parts at (words t ++ vs))
unfolding step_at
root_words (var i) vs h s = rw (other_first variable_kind i _ _ (omega arith) (λ e. omega arith) (λ e. omega arith) (λ e. omega arith)) stuck
root_words (lam b) vs h s = rw (other_first abstraction_kind 0 _ _ (omega arith) (λ e. omega arith) (λ e. omega arith) (λ e. omega arith)) stuck
root_words (app f a) vs h s = at_function f a vs h s
root_words (con t xs) vs h s = rw (other_first constructor_kind (pack t (count xs)) _ _ (omega arith) (λ e. omega arith) (λ e. omega arith) (λ e. omega arith)) stuck
root_words (case e bs) vs h s = at_subject e bs vs h s
root_words (num n) vs h s = rw (parts-numeral n _ vs) (expands refl)

pub root : {W : List ℕ} {t : Term} {p : ℕ} → Stands W p t → Root W p t (step_at 0 t) (parts p (drop p W))
root {t = t} s = rw s.words_at.from (root_words t s.after s.packable s.words_at)
