-- Lengths of terms: shifting keeps the length, and substitution multiplies it at most by that of the arguments.
use Prim.Native.Nat.{ℕ, ◌-◌, ◌*◌, ◌≤◌}
use mathlib.Core.Path.{◌≡◌, refl, sym, ◌∙◌, ap}
use mathlib.Core.Bool.{Bool, true, false, cond}
use mathlib.Core.List.{List, [], ◌∷◌}
use mathlib.Core.Option.{Option}
use native.Mathlib.Omega.{arith}
use lib.Dec.{ltb, eqb}
use lib.IntN.{ℤ, pos}
use lib.ListN.{length, length-append}
use borrow.Author.Tests.{ne_eqb}
use Rattle.calculus.specs.Term.{Sort, Exp, var, nil, cons, Term, Terms, count}
use Rattle.calculus.specs.Words.{variable_kind, kind_of, payload_of, words, size}
use Rattle.calculus.specs.Traverse.{traverse}
use Rattle.calculus.specs.Shift.{moving, shift}
use Rattle.calculus.specs.Substitution.{argument, replaced, replacing, subst}
use Rattle.calculus.proofs.All.{All, nothing, holds, all-eqb, all_weaken}
use Rattle.calculus.proofs.WordLaws.{kind_of-word, payload_of-word}
use Rattle.calculus.proofs.Traversal.{traverse-identity}
use Rattle.calculus.proofs.MarkedWords.{inside, flat, flat_length, flat_bounded, words-traverse}

module _ (f : ℕ → ℕ → Term) where
  -- What becomes of a word.
  rewritten : (d w : ℕ) → List ℕ
  rewritten d w = cond (eqb (kind_of w) variable_kind) (words (f d (payload_of w))) (w ∷ [])

  traverse-words : {s : Sort} (d : ℕ) (e : Exp s) → flat rewritten (inside d e) ≡ words (traverse f d e)
  unfolding rewritten
  traverse-words d e =
      words-traverse f rewritten
      (λ d i. rw (kind_of-word variable_kind i (omega arith), payload_of-word variable_kind i (omega arith)))
      (λ d k p h g. rw (kind_of-word k p g, ne_eqb k variable_kind (λ q. omega arith)))
      d e

  -- A word becomes one word, or at most `limit` words, if a variable does.
  rewritten-length : ((d i : ℕ) → size (f d i) ≡ 1) → (d w : ℕ) → length (rewritten d w) ≡ 1
  unfolding rewritten
  rewritten-length h d w = go (eqb (kind_of w) variable_kind)
    where
      go : (b : Bool) → length (cond b (words (f d (payload_of w))) (w ∷ [])) ≡ 1
      go true = h d (payload_of w)
      go false = refl

  rewritten_bounded : (limit : ℕ) → 1 ≤ limit → ((d i : ℕ) → size (f d i) ≤ limit) → (d w : ℕ) → length (rewritten d w) ≤ limit
  unfolding rewritten
  rewritten_bounded limit some h d w = go (eqb (kind_of w) variable_kind)
    where
      go : (b : Bool) → length (cond b (words (f d (payload_of w))) (w ∷ [])) ≤ limit
      go true = h d (payload_of w)
      go false = some

pub size-inside : {s : Sort} (d : ℕ) (e : Exp s) → length (inside d e) ≡ size e
size-inside d e =
    sym (flat_length (rewritten (λ d i. var i)) (rewritten-length (λ d i. var i) (λ d i. refl)) (inside d e))
    ∙ ap length (traverse-words (λ d i. var i) d e) ∙ ap size (traverse-identity (λ d i. var i) (λ d i. refl) d e)

-- A traversal keeps the length if it does so at variables, and multiplies it at most by the length of what it puts for them.
pub size-traverse : {s : Sort} (f : ℕ → ℕ → Term) → ((d i : ℕ) → size (f d i) ≡ 1) → (d : ℕ) (e : Exp s) → size (traverse f d e) ≡ size e
size-traverse f h d e =
    ap length (sym (traverse-words f d e)) ∙ flat_length (rewritten f) (rewritten-length f h) (inside d e) ∙ size-inside d e

pub size-traverse_bounded : {s : Sort} (f : ℕ → ℕ → Term) (limit : ℕ) → 1 ≤ limit → ((d i : ℕ) → size (f d i) ≤ limit) → (d : ℕ) (e : Exp s)
    → size (traverse f d e) ≤ size e * limit
size-traverse_bounded f limit some h d e =
    rw (← traverse-words f d e, ← size-inside d e) (flat_bounded (rewritten f) limit (rewritten_bounded f limit some h) (inside d e))

pub size-shift : {s : Sort} (z : ℤ) (cutoff : ℕ) (e : Exp s) → size (shift z cutoff e) ≡ size e
size-shift z cutoff e = size-traverse (moving z) (λ d i. refl) cutoff e

-- An argument is at most as long as all of them.
size-argument : (xs : Terms) (k : ℕ) → All (λ a. size a ≤ size xs) (argument xs k)
size-argument nil k = nothing
size-argument (cons a xs) k =
    let l = length-append (words a) (words xs) in
    all-eqb k (count xs) (λ e. holds (omega arith)) (all_weaken (size-argument xs k) (λ b h. omega arith))

-- Arguments of at most `limit` words.
module _ (xs : Terms) (limit : ℕ) (some_word : 1 ≤ limit) (short : size xs ≤ limit) where
  size-replaced : (depth i : ℕ) {o : Option Term} → All (λ a. size a ≤ size xs) o → size (replaced xs depth i o) ≤ limit
  size-replaced depth i nothing = some_word
  size-replaced depth i (holds {a = a} h) = omega (arith, size-shift (pos depth) 0 a)

  size-replacing : (depth i : ℕ) → size (replacing xs depth i) ≤ limit
  size-replacing depth i = go (ltb i depth)
    where
      go : (b : Bool) → size (cond b (var i) (replaced xs depth i (argument xs (i - depth)))) ≤ limit
      go true = some_word
      go false = size-replaced depth i (size-argument xs (i - depth))

  pub size-subst : {s : Sort} (depth : ℕ) (e : Exp s) → size (subst xs depth e) ≤ size e * limit
  size-subst depth e = size-traverse_bounded (replacing xs) limit some_word size-replacing depth e
