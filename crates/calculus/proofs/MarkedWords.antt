-- The words of an expression, each with the number of binders around it. A traversal changes words one by one (`words-traverse`): a variable
-- becomes the words of what is put for it, any other word stays. What is asked of variables everywhere is asked of these words.
use Prim.Native.Nat.{ℕ, suc, ◌+◌, ◌*◌, ◌≤◌, ◌<◌}
use mathlib.Core.Path.{◌≡◌, refl, sym, ◌∙◌, ap₂}
use mathlib.Core.List.{List, [], ◌∷◌, ◌++◌, append_assoc, append-nil}
use native.Mathlib.Nat.{suc-mul}
use native.Mathlib.Omega.{arith}
use lib.ListN.{length, length-append}
use Rattle.calculus.specs.Term.{Sort, Exp, var, lam, app, con, case, num, nil, cons, end, branch, Term, count}
use Rattle.calculus.specs.Words.{variable_kind, abstraction_kind, application_kind, constructor_kind, case_kind, branch_kind, numeral_kind, kind_base, word, kind_of, payload_of, pack, words}
use Rattle.calculus.specs.Traverse.{traverse}
use Rattle.calculus.specs.Everywhere.{binders, variables, Everywhere}
use Rattle.calculus.proofs.WordLaws.{payload_of-word}
use Rattle.calculus.proofs.Spine.{count-traverse}

-- The words of an expression that stands under d binders.
abbrev pub inside : {s : Sort} → ℕ → Exp s → List (ℕ × ℕ)
inside d (var i) = (d, word variable_kind i) ∷ []
inside d (lam b) = (d, word abstraction_kind 0) ∷ inside (suc d) b
inside d (app f a) = (d, word application_kind 0) ∷ (inside d f ++ inside d a)
inside d (con t xs) = (d, word constructor_kind (pack t (count xs))) ∷ inside d xs
inside d (case e bs) = (d, word case_kind (count bs)) ∷ (inside d e ++ inside d bs)
inside d (num n) = (d, word numeral_kind n) ∷ []
inside d nil = []
inside d (cons a xs) = inside d a ++ inside d xs
inside d end = []
inside d (branch t n b bs) = (d, word branch_kind (pack t n)) ∷ (inside (d + n) b ++ inside d bs)

-- The words that r makes of marked words, one after the other.
abbrev pub flat : (ℕ → ℕ → List ℕ) → List (ℕ × ℕ) → List ℕ
flat r [] = []
flat r (m ∷ ms) = r m.0 m.1 ++ flat r ms

flat_append : (r : ℕ → ℕ → List ℕ) (ms ns : List (ℕ × ℕ)) → flat r (ms ++ ns) ≡ flat r ms ++ flat r ns
flat_append r [] ns = refl
flat_append r (m ∷ ms) ns = rw (flat_append r ms ns) (sym (append_assoc (r m.0 m.1) (flat r ms) (flat r ns)))

pub flat_length : (r : ℕ → ℕ → List ℕ) → ((d w : ℕ) → length (r d w) ≡ 1) → (ms : List (ℕ × ℕ)) → length (flat r ms) ≡ length ms
flat_length r h [] = refl
flat_length r h (m ∷ ms) = omega (arith, length-append (r m.0 m.1) (flat r ms), h m.0 m.1, flat_length r h ms)

pub flat_bounded : (r : ℕ → ℕ → List ℕ) (limit : ℕ) → ((d w : ℕ) → length (r d w) ≤ limit) → (ms : List (ℕ × ℕ))
    → length (flat r ms) ≤ length ms * limit
flat_bounded r limit h [] = omega arith
flat_bounded r limit h (m ∷ ms) =
    omega (arith, length-append (r m.0 m.1) (flat r ms), h m.0 m.1, flat_bounded r limit h ms, suc-mul (length ms) limit)

-- r makes of a variable the words of what f puts for it, and leaves any other word.
module _
    (f : ℕ → ℕ → Term)
    (r : ℕ → ℕ → List ℕ)
    (variable : (d i : ℕ) → r d (word variable_kind i) ≡ words (f d i))
    (other : (d k p : ℕ) → 0 < k → k < kind_base → r d (word k p) ≡ word k p ∷ [])
  where
    pub words-traverse : {s : Sort} (d : ℕ) (e : Exp s) → flat r (inside d e) ≡ words (traverse f d e)
    words-traverse d (var i) = append-nil (r d (word variable_kind i)) ∙ variable d i
    words-traverse d (lam b) = rw (other d abstraction_kind 0 (omega arith) (omega arith), words-traverse (suc d) b)
    words-traverse d (app g a) =
        rw (other d application_kind 0 (omega arith) (omega arith), flat_append r (inside d g) (inside d a), words-traverse d g, words-traverse d a)
    words-traverse d (con t xs) =
        rw (other d constructor_kind (pack t (count xs)) (omega arith) (omega arith), words-traverse d xs, count-traverse f d xs)
    words-traverse d (case e bs) =
        rw (
          other d case_kind (count bs) (omega arith) (omega arith),
          flat_append r (inside d e) (inside d bs),
          words-traverse d e,
          words-traverse d bs,
          count-traverse f d bs,
        )
    words-traverse d (num n) = rw (other d numeral_kind n (omega arith) (omega arith))
    words-traverse d nil = refl
    words-traverse d (cons a xs) = flat_append r (inside d a) (inside d xs) ∙ ap₂ ◌++◌ (words-traverse d a) (words-traverse d xs)
    words-traverse d end = refl
    words-traverse d (branch t n b bs) =
        rw (
          other d branch_kind (pack t n) (omega arith) (omega arith),
          flat_append r (inside (d + n) b) (inside d bs),
          words-traverse (d + n) b,
          words-traverse d bs,
        )

-- A property of every marked word.
pub data Every (P : ℕ → ℕ → Type 0) : List (ℕ × ℕ) → Type 0 where
  none : Every P []
  each : {m : ℕ × ℕ} {ms : List (ℕ × ℕ)} → P m.0 m.1 → Every P ms → Every P (m ∷ ms)

every_append : {P : ℕ → ℕ → Type 0} {ms ns : List (ℕ × ℕ)} → Every P ms → Every P ns → Every P (ms ++ ns)
every_append none q = q
every_append (each p ps) q = each p (every_append ps q)

pub every_first : {P : ℕ → ℕ → Type 0} {m : ℕ × ℕ} {ms : List (ℕ × ℕ)} → Every P (m ∷ ms) → P m.0 m.1
every_first (each p ps) = p

pub every_rest : {P : ℕ → ℕ → Type 0} {m : ℕ × ℕ} {ms : List (ℕ × ℕ)} → Every P (m ∷ ms) → Every P ms
every_rest (each p ps) = ps

-- What is asked of a word, if it is a variable's.
abbrev pub IfVariable : (ℕ → ℕ → Type 0) → (d w : ℕ) → Type 0
IfVariable P d w = kind_of w ≡ variable_kind → P d (payload_of w)

module _ (P : ℕ → ℕ → Type 0) where
  other_word : (d k p : ℕ) → 0 < k → k < kind_base → IfVariable P d (word k p)
  other_word d k p h g q = absurd (omega arith)

  variable_word : (d i : ℕ) → P d i → IfVariable P d (word variable_kind i)
  variable_word d i h q = rw (payload_of-word variable_kind i (omega arith)) h

  pub everywhere_inside : {s : Sort} (d : ℕ) (e : Exp s) → Everywhere (variables binders P) d e → Every (IfVariable P) (inside d e)
  everywhere_inside d (var i) h = each (variable_word d i h) none
  everywhere_inside d (lam b) h = each (other_word d abstraction_kind 0 (omega arith) (omega arith)) (everywhere_inside (suc d) b h)
  everywhere_inside d (app f a) h =
      each (other_word d application_kind 0 (omega arith) (omega arith)) (every_append (everywhere_inside d f h.0) (everywhere_inside d a h.1))
  everywhere_inside d (con t xs) h =
      each (other_word d constructor_kind (pack t (count xs)) (omega arith) (omega arith)) (everywhere_inside d xs h.1)
  everywhere_inside d (case e bs) h =
      each (other_word d case_kind (count bs) (omega arith) (omega arith)) (every_append (everywhere_inside d e h.1) (everywhere_inside d bs h.2))
  everywhere_inside d (num n) h = each (other_word d numeral_kind n (omega arith) (omega arith)) none
  everywhere_inside d nil h = none
  everywhere_inside d (cons a xs) h = every_append (everywhere_inside d a h.0) (everywhere_inside d xs h.1)
  everywhere_inside d end h = none
  everywhere_inside d (branch t n b bs) h =
      each (other_word d branch_kind (pack t n) (omega arith) (omega arith))
      (every_append (everywhere_inside (d + n) b h.1) (everywhere_inside d bs h.2))
