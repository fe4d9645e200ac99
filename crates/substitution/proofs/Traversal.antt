-- The words of an expression, each with the binders around it, are what the walk of `depths` finds, whatever words follow; rewriting them one by
-- one gives the words of the shifted or substituted expression.
use Prim.Native.Nat.{ℕ, suc, ◌+◌, ◌<◌}
use mathlib.Core.Path.{◌≡◌, refl, sym, ◌∙◌, ap}
use mathlib.Core.List.{List, [], ◌∷◌, ◌++◌, append_assoc, append-nil}
use native.Mathlib.Nat.{add-zero}
use native.Mathlib.Numerals.{add-one}
use native.Mathlib.Omega.{arith}
use lib.IntN.{ℤ}
use lib.ListN.{replicate}
use Rattle.calculus.specs.Term.{Sort, term, terms, branches, Exp, Term, Terms, var, lam, app, con, case, num, nil, cons, end, branch, count}
use Rattle.calculus.specs.Words.{variable_kind, abstraction_kind, application_kind, constructor_kind, case_kind, branch_kind, numeral_kind, kind_base, word, pack, words}
use Rattle.calculus.specs.Skip.{following}
use Rattle.calculus.specs.Traverse.{traverse}
use Rattle.calculus.specs.Shift.{shift}
use Rattle.calculus.specs.Substitution.{subst}
use Rattle.calculus.specs.Theorems.{Packable}
use Rattle.calculus.proofs.WordLaws.{kind_of-word, payload_of-word, count_of-pack}
use Rattle.calculus.proofs.MarkedWords as marks
use Rattle.calculus.proofs.MarkedWords.{inside, words-traverse, Every, IfVariable, everywhere_inside}
use Rattle.walk.specs.Index.{MayMove, Movable}
use Rattle.walk.specs.Depths.{depths}
use Rattle.words.specs.Bound.{binding as bound}
use Rattle.walk.specs.Rewritten.{shifting, substituting, rewritten}
use Rattle.walk.proofs.DepthLaws.{depths_done}
use Rattle.walk.proofs.RewrittenLaws.{rewritten_variable, rewritten-other}

-- Words, each with the binders around it.
abbrev pub marked : List ℕ → List ℕ → List (ℕ × ℕ)
marked [] ws = []
marked (d ∷ ds) [] = []
marked (d ∷ ds) (w ∷ ws) = (d, w) ∷ marked ds ws

-- The binders around the items of an expression that stands under d binders, in front of others.
abbrev items_under : {s : Sort} → ℕ → Exp s → List ℕ → List ℕ
items_under {s = term} d e ds = d ∷ ds
items_under {s = terms} d e ds = replicate (count e) d ++ ds
items_under {s = branches} d e ds = replicate (count e) d ++ ds

-- With these words in front, a walk over items under ds binders finds ms there and goes on with items under es binders.
record Walks (xs ds : List ℕ) (ms : List (ℕ × ℕ)) (es : List ℕ) : Type 0 where
  walks : (ws : List ℕ) → marked (depths ds (xs ++ ws)) (xs ++ ws) ≡ ms ++ marked (depths es ws) ws

walks_none : {ds : List ℕ} → Walks [] ds [] ds
walks_none = record { walks = λ ws. refl }

walks_word : (k p d : ℕ) {xs ds es fs : List ℕ} {ms : List (ℕ × ℕ)} → k < kind_base → replicate (following k p) (d + bound k p) ++ ds ≡ es
    → Walks xs es ms fs → Walks (word k p ∷ xs) (d ∷ ds) ((d, word k p) ∷ ms) fs
walks_word k p d {xs} h q r =
    record { walks = λ ws. rw (kind_of-word k p h, payload_of-word k p h, q, r.walks ws) }

walks_append : {xs ys ds es fs : List ℕ} {ms ns : List (ℕ × ℕ)} → Walks xs ds ms es → Walks ys es ns fs → Walks (xs ++ ys) ds (ms ++ ns) fs
walks_append {xs} {ys} {ms = ms} {ns} p q =
    record { walks = λ ws. rw (append_assoc xs ys ws, p.walks (ys ++ ws), q.walks ws) (sym (append_assoc ms ns _)) }

walks_words : {s : Sort} (e : Exp s) (d : ℕ) (ds : List ℕ) → Packable e → Walks (words e) (items_under d e ds) (inside d e) ds
unfolding following bound
walks_words (var i) d ds h = walks_word variable_kind i d (omega arith) refl walks_none
walks_words (lam b) d ds h = walks_word abstraction_kind 0 d (omega arith) (rw add-one) (walks_words b (suc d) ds h)
walks_words (app f a) d ds h =
    walks_word application_kind 0 d (omega arith) (rw add-zero) (walks_append (walks_words f d (d ∷ ds) h.0) (walks_words a d ds h.1))
walks_words (con t xs) d ds h =
    walks_word constructor_kind (pack t (count xs)) d (omega arith) (rw (count_of-pack t (count xs) h.0, add-zero)) (walks_words xs d ds h.1)
walks_words (case e bs) d ds h =
    walks_word case_kind (count bs) d (omega arith) (rw add-zero) (walks_append (walks_words e d _ h.1) (walks_words bs d ds h.2))
walks_words (num n) d ds h = walks_word numeral_kind n d (omega arith) refl walks_none
walks_words nil d ds h = walks_none
walks_words (cons a xs) d ds h = walks_append (walks_words a d _ h.0) (walks_words xs d ds h.1)
walks_words end d ds h = walks_none
walks_words (branch t n b bs) d ds h =
    walks_word branch_kind (pack t n) d (omega arith) (rw (count_of-pack t n h.0))
    (walks_append (walks_words b (d + n) _ h.1) (walks_words bs d ds h.2))

pub marked_term : (t : Term) (ws : List ℕ) → Packable t → marked (depths (0 ∷ []) (words t ++ ws)) (words t ++ ws) ≡ inside 0 t
marked_term t ws h = (walks_words t 0 [] h).walks ws ∙ rw (depths_done ws) (append-nil (inside 0 t))

-- The words that stand for marked words.
abbrev pub flat : (ℕ → ℕ → Term) → List (ℕ × ℕ) → List ℕ
flat f ms = marks.flat (rewritten f) ms

flat_inside : {s : Sort} (f : ℕ → ℕ → Term) (d : ℕ) (e : Exp s) → flat f (inside d e) ≡ words (traverse f d e)
flat_inside f d e =
    words-traverse f (rewritten f)
    (λ d i.
    rewritten_variable f d (word variable_kind i) (omega arith)
    ∙ ap (λ j. words (f d j)) (payload_of-word variable_kind i (omega arith)))
    (λ d k p h g. rewritten-other f d (word k p) (λ q. omega arith))
    d e

-- The traversal law, for shift and for substitution.
pub flat_shift : (z : ℤ) (t : Term) → flat (shifting z) (inside 0 t) ≡ words (shift z 0 t)
flat_shift z t = flat_inside (shifting z) 0 t

pub flat_subst : (xs : Terms) (t : Term) → flat (substituting xs) (inside 0 t) ≡ words (subst xs 0 t)
flat_subst xs t = flat_inside (substituting xs) 0 t

-- A word that is a variable may be moved.
abbrev pub MovableWord : ℤ → (d w : ℕ) → Type 0
MovableWord z = IfVariable (MayMove z)

pub movable_inside : {s : Sort} (z : ℤ) (d : ℕ) (e : Exp s) → Movable z d e → Every (MovableWord z) (inside d e)
movable_inside z d e m = everywhere_inside (MayMove z) d e m
