-- What stands for a word of the body: the argument of the place that the code finds, raised, or the word itself, lowered.
use Prim.Native.Nat.{ℕ, suc, ◌-◌, ◌^◌, ◌≤◌, ◌<◌}
use mathlib.Core.Path.{◌≡◌, refl, sym, ◌∙◌, ap}
use mathlib.Core.List.{List, ◌++◌, append_assoc}
use mathlib.Core.Logic.{⊎_elim}
use mathlib.Core.Option.{some, none}
use native.Mathlib.Nat.{eq-or-lt_of_le}
use native.Mathlib.Decide.{dec_le, ℕ_discrete}
use native.Mathlib.Omega.{arith}
use borrow.Author.Tests.{lt-ltb, le-ltb, eq-eqb, ne_eqb}
use lib.IntN.{ℤ, pos, neg_ℤ}
use lib.ListN.{length, drop}
use lib.Seq.{drop-append-add}
use Rattle.calculus.specs.Term.{Term, Terms, nil, cons, count}
use Rattle.calculus.specs.Words.{variable_kind, kind_of, payload_of, words}
use Rattle.calculus.specs.Skip.{span}
use Rattle.calculus.specs.Shift.{shift}
use Rattle.calculus.specs.Substitution.{argument}
use Rattle.calculus.specs.Theorems.{Packable, IndicesWithin}
use Rattle.calculus.proofs.SkipLaws.{span-words, span_zero}
use Rattle.calculus.specs.Accepted.{index_limit}
use Rattle.walk.specs.Index.{Moves}
use Rattle.walk.specs.Rewritten.{shifting, substituting, rewritten, place}
use Rattle.walk.proofs.MoveLaws.{moves_down}
use Rattle.walk.proofs.RewrittenLaws.{rewritten_variable, rewritten-other, shifting-length, place-argument, place_past, place-bound, place_other}
use Rattle.substitution.proofs.Traversal.{MovableWord}

-- The argument for index k of n stands after the n - 1 - k arguments before it.
pub record Argument (xs : Terms) (k : ℕ) (vs : List ℕ) : Type 0 where
  pub tree : Term
  pub is : argument xs k ≡ some tree
  pub rest : List ℕ
  pub stands : drop (span (count xs - 1 - k) (words xs ++ vs)) (words xs ++ vs) ≡ words tree ++ rest
  pub packable : Packable tree
  pub indices : IndicesWithin index_limit tree

pub argument_some : (xs : Terms) (k : ℕ) (vs : List ℕ) → k < count xs → Packable xs → IndicesWithin index_limit xs → Argument xs k vs
argument_some nil k vs h p q = absurd (omega arith)
argument_some (cons a xs) k vs h p q =
    ⊎_elim here (λ l. later l (argument_some xs k vs l p.1 q.1)) (eq-or-lt_of_le (omega arith))
  where
    here : k ≡ count xs → Argument (cons a xs) k vs
    here e =
        let z : suc (count xs) - 1 - k ≡ 0 = omega arith in
        record {
          tree = a;
          is = rw (eq-eqb k (count xs) e);
          rest = words xs ++ vs;
          stands = rw (z, span_zero) (append_assoc (words a) (words xs) vs);
          packable = p.0;
          indices = q.0;
        }

    later : k < count xs → Argument xs k vs → Argument (cons a xs) k vs
    later l r =
        let s : suc (count xs) - 1 - k ≡ suc (count xs - 1 - k) = omega arith in
        record {
          tree = r.tree;
          is = rw (ne_eqb k (count xs) (λ e. omega arith)) r.is;
          rest = r.rest;
          stands =
              rw (s, append_assoc (words a) (words xs) vs, span-words a (count xs - 1 - k) (words xs ++ vs) p.0)
              (drop-append-add (words a) (words xs ++ vs) _ ∙ r.stands);
          packable = r.packable;
          indices = r.indices;
        }

argument_none : (xs : Terms) (k : ℕ) → count xs ≤ k → argument xs k ≡ none
argument_none nil k h = refl
argument_none (cons a xs) k h = rw (ne_eqb k (count xs) (λ e. omega arith)) (argument_none xs k (omega arith))

-- What becomes of a word of the body under d binders.
data Fate (n d w : ℕ) : Type 0 where
  replaced : kind_of w ≡ variable_kind → d ≤ payload_of w → payload_of w - d < n → Fate n d w
  lowered : kind_of w ≡ variable_kind → d ≤ payload_of w → n ≤ payload_of w - d → Fate n d w
  bound : kind_of w ≡ variable_kind → payload_of w < d → Fate n d w
  other : (kind_of w ≡ variable_kind → ⊥) → Fate n d w

fate : (n d w : ℕ) → Fate n d w
fate n d w = go (ℕ_discrete (kind_of w) variable_kind) (dec_le d (payload_of w)) (dec_le n (payload_of w - d))
  where
    go : Dec (kind_of w ≡ variable_kind) → Dec (d ≤ payload_of w) → Dec (n ≤ payload_of w - d) → Fate n d w
    go (yes v) (yes f) (yes p) = lowered v f p
    go (yes v) (yes f) (no p) = replaced v f (omega arith)
    go (yes v) (no f) q = bound v (omega arith)
    go (no v) q r = other v

-- A place below n is that of an argument.
pub place_index : (n d w : ℕ) → place n d w < n → (payload_of w - d < n) × (place n d w ≡ n - 1 - (payload_of w - d))
place_index n d w h = go (fate n d w)
  where
    go : Fate n d w → (payload_of w - d < n) × (place n d w ≡ n - 1 - (payload_of w - d))
    go (replaced v f l) = (l, place-argument n d w v f l)
    go (lowered v f p) = absurd (omega (arith, place_past n d w v f p))
    go (bound v b) = absurd (omega (arith, place-bound n d w v b))
    go (other v) = absurd (omega (arith, place_other n d w v))

-- The argument is raised by the binders around the word.
pub rewritten-argument : (xs : Terms) (d w : ℕ) {a : Term} → place (count xs) d w < count xs → argument xs (payload_of w - d) ≡ some a
    → rewritten (substituting xs) d w ≡ words (shift (pos d) 0 a)
rewritten-argument xs d w {a} h q = go (fate (count xs) d w)
  where
    go : Fate (count xs) d w → rewritten (substituting xs) d w ≡ words (shift (pos d) 0 a)
    go (replaced v f l) = rewritten_variable (substituting xs) d w v ∙ (rw (le-ltb (payload_of w) d f, q))
    go (lowered v f p) = absurd (omega (arith, place_past (count xs) d w v f p))
    go (bound v b) = absurd (omega (arith, place-bound (count xs) d w v b))
    go (other v) = absurd (omega (arith, place_other (count xs) d w v))

-- Any other index is left or lowered by the number of arguments, as `shift` moves it.
substituting-bound : (xs : Terms) (z : ℤ) (d i : ℕ) → i < d → substituting xs d i ≡ shifting z d i
substituting-bound xs z d i h = rw (lt-ltb i d h)

substituting_past : (xs : Terms) (d i : ℕ) → d ≤ i → count xs ≤ i - d → substituting xs d i ≡ shifting (neg_ℤ (pos (count xs))) d i
substituting_past xs d i h g = rw (le-ltb i d h, argument_none xs (i - d) g)

module _ (n d w : ℕ) (none-stands : n ≤ place n d w) where
  pub rewritten_body : (xs : Terms) → count xs ≡ n → rewritten (substituting xs) d w ≡ rewritten (shifting (neg_ℤ (pos n))) d w
  rewritten_body xs e = go (fate n d w)
    where
      variable : kind_of w ≡ variable_kind → substituting xs d (payload_of w) ≡ shifting (neg_ℤ (pos n)) d (payload_of w)
          → rewritten (substituting xs) d w ≡ rewritten (shifting (neg_ℤ (pos n))) d w
      variable v q = rewritten_variable (substituting xs) d w v ∙ ap words q ∙ sym (rewritten_variable (shifting (neg_ℤ (pos n))) d w v)

      go : Fate n d w → rewritten (substituting xs) d w ≡ rewritten (shifting (neg_ℤ (pos n))) d w
      go (replaced v f l) = absurd (omega (arith, place-argument n d w v f l))
      go (lowered v f p) = variable v (rw (← e) (substituting_past xs d (payload_of w) f (omega arith)))
      go (bound v b) = variable v (substituting-bound xs (neg_ℤ (pos n)) d (payload_of w) b)
      go (other v) = rewritten-other (substituting xs) d w v ∙ sym (rewritten-other (shifting (neg_ℤ (pos n))) d w v)

  pub length_body : (xs : Terms) → count xs ≡ n → length (rewritten (substituting xs) d w) ≡ 1
  length_body xs e = ap length (rewritten_body xs e) ∙ shifting-length (neg_ℤ (pos n)) d w

  pub movable_body : w < 2 ^ 32 → MovableWord (neg_ℤ (pos n)) d w
  movable_body fits v f = go (fate n d w)
    where
      go : Fate n d w → Moves (neg_ℤ (pos n)) (payload_of w)
      go (replaced v f l) = absurd (omega (arith, place-argument n d w v f l))
      go (lowered v f p) = moves_down n (payload_of w) (omega arith) (omega arith)
      go (bound v b) = absurd (omega arith)
      go (other u) = absurd (u v)
