-- Combinators by their words: which words pass, clipped or not, and their bits.
use Prim.Native.Nat.{ℕ, suc, ◌+◌, ◌≤◌, ◌<◌}
use mathlib.Core.Path.{◌≡◌, refl, sym, ap, ap₂, ◌∙◌}
use mathlib.Core.Bool.{Bool, true, false, cond, ◌&&◌, false≢true, and-eq-true_iff, and_assoc}
use mathlib.Core.List.{List, [], ◌∷◌, ◌++◌, append_assoc, append-nil}
use native.Mathlib.Decide.{dec_lt}
use native.Mathlib.Omega.{arith}
use borrow.Author.Tests.{lt-ltb, le-ltb, ltb-true, eqb-true}
use lib.Dec.{eqb, ltb}
use lib.ListN.{length-append}
use Rattle.calculus.specs.Term.{Term, var, lam, app, con, case, num, count}
use Rattle.calculus.specs.Words.{variable_kind, constructor_kind, case_kind, numeral_kind, pack, word, kind_of, payload_of, words, size, workspace_most}
use Rattle.calculus.proofs.WordLaws.{kind_of-word, payload_of-word, word_of_parts, size_positive}
use Rattle.encoding.specs.Bits.{bits, Pure, CombinatorUnder}
use Rattle.binary.specs.Words.{are_combinators, word_bits, words_bits}
use Rattle.binary.specs.Scan.{clipped, all_clipped}
use Rattle.binary.proofs.WalkLaws.{at_variable, at-abstraction, at-application, at_other}
use Rattle.binary.proofs.ScanLaws.{clipped_variable, clipped_free, clipped_plain, clipped-more}

pub and_true : (b : Bool) → (b && true) ≡ b
and_true true = refl
and_true false = refl

-- Whether a term under d binders is a combinator, by its words from the left.
abbrev pub stands : ℕ → Term → Bool
stands d (var i) = ltb i d
stands d (lam b) = stands (suc d) b
stands d (app f a) = stands d f && stands d a
stands d (con t xs) = false
stands d (case e bs) = false
stands d (num n) = false

pub stands_sound : (d : ℕ) (t : Term) → stands d t ≡ true → CombinatorUnder d t
stands_sound d (var i) h = ltb-true i d h
stands_sound d (lam b) h = stands_sound (suc d) b h
stands_sound d (app f a) h = let p = (and-eq-true_iff (stands d f) (stands d a)).0 h in (stands_sound d f p.0, stands_sound d a p.1)
stands_sound d (con t xs) h = absurd (false≢true h)
stands_sound d (case e bs) h = absurd (false≢true h)
stands_sound d (num n) h = absurd (false≢true h)

pub stands_complete : (d : ℕ) (t : Term) → CombinatorUnder d t → stands d t ≡ true
stands_complete d (var i) h = lt-ltb i d h
stands_complete d (lam b) h = stands_complete (suc d) b h
stands_complete d (app f a) h = rw (stands_complete d f h.0, stands_complete d a h.1)
stands_complete d (con t xs) h = absurd h.0
stands_complete d (case e bs) h = absurd h.0
stands_complete d (num n) h = absurd h

-- One word in front.
variable_first : (d i : ℕ) (ds ws : List ℕ) → are_combinators (d ∷ ds) (word variable_kind i ∷ ws) ≡ (ltb i d && are_combinators ds ws)
variable_first d i ds ws =
    at_variable d (word variable_kind i) ds ws (kind_of-word variable_kind i (omega arith))
    ∙ ap (λ p. ltb p d && are_combinators ds ws) (payload_of-word variable_kind i (omega arith))

other_first : (d k p : ℕ) (ds ws : List ℕ) → k < 8 → constructor_kind ≤ k → are_combinators (d ∷ ds) (word k p ∷ ws) ≡ false
other_first d k p ds ws h g =
    let kind = kind_of-word k p h in
    at_other d (word k p) ds ws (λ e. omega (arith, kind)) (λ e. omega (arith, kind, ap kind_of e)) (λ e. omega (arith, kind, ap kind_of e))

-- The words of a term in front of others.
pub term_stands : (t : Term) (d : ℕ) (ds ws : List ℕ) → are_combinators (d ∷ ds) (words t ++ ws) ≡ (stands d t && are_combinators ds ws)
term_stands (var i) d ds ws = variable_first d i ds ws
term_stands (lam b) d ds ws = at-abstraction d 1 ds (words b ++ ws) refl ∙ term_stands b (suc d) ds ws
term_stands (app f a) d ds ws =
    ap (λ vs. are_combinators (d ∷ ds) (2 ∷ vs)) (append_assoc (words f) (words a) ws)
    ∙ at-application d 2 ds (words f ++ (words a ++ ws)) refl
    ∙ term_stands f d (d ∷ ds) (words a ++ ws)
    ∙ ap (λ b. stands d f && b) (term_stands a d ds ws)
    ∙ sym (and_assoc (stands d f) (stands d a) (are_combinators ds ws))
term_stands (con t xs) d ds ws = other_first d constructor_kind (pack t (count xs)) ds (words xs ++ ws) (omega arith) (omega arith)
term_stands (case e bs) d ds ws = other_first d case_kind (count bs) ds ((words e ++ words bs) ++ ws) (omega arith) (omega arith)
term_stands (num n) d ds ws = other_first d numeral_kind n ds ws (omega arith) (omega arith)

-- What passes is made of combinators, one for each number of binders.
abbrev Found : List ℕ → List ℕ → Type 0
Found [] ws = ws ≡ []
Found (d ∷ ds) ws = (t : Term) × (rest : List ℕ) × (ws ≡ words t ++ rest) × CombinatorUnder d t × Found ds rest

module _ (d w : ℕ) (ds ws : List ℕ) (behind : (es : List ℕ) → are_combinators es ws ≡ true → Found es ws) where
  first_found : (a b c : Bool) → eqb (kind_of w) variable_kind ≡ a → eqb w 1 ≡ b → eqb w 2 ≡ c
      → cond a (ltb (payload_of w) d && are_combinators ds ws) (cond b (are_combinators (suc d ∷ ds) ws) (cond c (are_combinators (d ∷ d ∷ ds) ws) false)) ≡ true
      → Found (d ∷ ds) (w ∷ ws)
  first_found true b c e f g h =
      let both = (and-eq-true_iff (ltb (payload_of w) d) (are_combinators ds ws)).0 h in
      let is : w ≡ word variable_kind (payload_of w) = sym (word_of_parts w) ∙ ap (λ k. word k (payload_of w)) (eqb-true (kind_of w) variable_kind e) in
      (var (payload_of w), ws, ap (λ v. v ∷ ws) is, ltb-true (payload_of w) d both.0, behind ds both.1)
  first_found false true c e f g h =
      let body = behind (suc d ∷ ds) h in
      (lam body.0, body.1, ap₂ (λ v vs. v ∷ vs) (eqb-true w 1 f) body.2, body.3, body.4)
  first_found false false true e f g h =
      let function = behind (d ∷ d ∷ ds) h in
      let argument = function.4 in (
        app function.0 argument.0,
        argument.1,
        ap₂ (λ v vs. v ∷ vs) (eqb-true w 2 g) (function.2 ∙ ap (λ vs. words function.0 ++ vs) argument.2 ∙ sym (append_assoc (words function.0) (words argument.0) argument.1)),
        (function.3, argument.3),
        argument.4,
      )
  first_found false false false e f g h = absurd (false≢true h)

found : (ws ds : List ℕ) → are_combinators ds ws ≡ true → Found ds ws
found [] [] h = refl
found [] (d ∷ ds) h = absurd (false≢true h)
found (w ∷ ws) [] h = absurd (false≢true h)
found (w ∷ ws) (d ∷ ds) h = first_found d w ds ws (found ws) (eqb (kind_of w) variable_kind) (eqb w 1) (eqb w 2) refl refl refl h

pub combinator_found : (ws : List ℕ) → are_combinators (0 ∷ []) ws ≡ true → (t : Term) × (ws ≡ words t) × CombinatorUnder 0 t
combinator_found ws h =
    let one = found ws (0 ∷ []) h in
    (one.0, one.2 ∙ ap (λ rest. words one.0 ++ rest) one.4 ∙ append-nil (words one.0), one.3)

-- The same where indices are clipped: under fewer binders than a workspace has words an index that is clipped is free.
clipped_first : (d i : ℕ) (ds ws : List ℕ) → d < workspace_most → are_combinators (d ∷ ds) (clipped (word variable_kind i) ∷ ws) ≡ (ltb i d && are_combinators ds ws)
clipped_first d i ds ws h = go (dec_lt i workspace_most)
  where
    go : Dec (i < workspace_most) → are_combinators (d ∷ ds) (clipped (word variable_kind i) ∷ ws) ≡ (ltb i d && are_combinators ds ws)
    go (yes l) = ap (λ w. are_combinators (d ∷ ds) (w ∷ ws)) (sym (clipped_variable i l)) ∙ variable_first d i ds ws
    go (no l) =
        ap (λ w. are_combinators (d ∷ ds) (w ∷ ws)) (sym (clipped_free i (omega arith)))
        ∙ variable_first d workspace_most ds ws
        ∙ ap (λ b. b && are_combinators ds ws) (le-ltb workspace_most d (omega arith) ∙ sym (le-ltb i d (omega arith)))

pub clipped_stands : (t : Term) (d : ℕ) (ds ws : List ℕ) → Pure t → d + size t ≤ workspace_most
    → are_combinators (d ∷ ds) (all_clipped (words t) ++ ws) ≡ (stands d t && are_combinators ds ws)
clipped_stands (var i) d ds ws h l = clipped_first d i ds ws (omega arith)
clipped_stands (lam b) d ds ws h l =
    ap (λ w. are_combinators (d ∷ ds) (w ∷ all_clipped (words b) ++ ws)) (sym (clipped_plain 1 (omega arith)))
    ∙ at-abstraction d 1 ds (all_clipped (words b) ++ ws) refl
    ∙ clipped_stands b (suc d) ds ws h (omega arith)
clipped_stands (app f a) d ds ws h l =
    let both = length-append (words f) (words a) in
    ap (λ w. are_combinators (d ∷ ds) (w ∷ all_clipped (words f ++ words a) ++ ws)) (sym (clipped_plain 2 (omega arith)))
    ∙ ap (λ vs. are_combinators (d ∷ ds) (2 ∷ vs)) (ap (λ vs. vs ++ ws) (clipped-more (words f) (words a)) ∙ append_assoc (all_clipped (words f)) (all_clipped (words a)) ws)
    ∙ at-application d 2 ds (all_clipped (words f) ++ (all_clipped (words a) ++ ws)) refl
    ∙ clipped_stands f d (d ∷ ds) (all_clipped (words a) ++ ws) h.0 (omega arith)
    ∙ ap (λ b. stands d f && b) (clipped_stands a d ds ws h.1 (omega (arith, size_positive f)))
    ∙ sym (and_assoc (stands d f) (stands d a) (are_combinators ds ws))
clipped_stands (con t xs) d ds ws h l = absurd h.0
clipped_stands (case e bs) d ds ws h l = absurd h.0
clipped_stands (num n) d ds ws h l = absurd h

-- No index of a combinator is clipped.
pub combinator_unclipped : (t : Term) (d : ℕ) → CombinatorUnder d t → d + size t ≤ workspace_most → all_clipped (words t) ≡ words t
combinator_unclipped (var i) d h l = ap (λ w. w ∷ []) (sym (clipped_variable i (omega arith)))
combinator_unclipped (lam b) d h l = ap₂ (λ w ws. w ∷ ws) (sym (clipped_plain 1 (omega arith))) (combinator_unclipped b (suc d) h (omega arith))
combinator_unclipped (app f a) d h l =
    let both = length-append (words f) (words a) in
    ap₂ (λ w ws. w ∷ ws) (sym (clipped_plain 2 (omega arith)))
    (clipped-more (words f) (words a)
    ∙ ap₂ (λ ws vs. ws ++ vs) (combinator_unclipped f d h.0 (omega arith)) (combinator_unclipped a d h.1 (omega (arith, size_positive f))))
combinator_unclipped (con t xs) d h l = absurd h.0
combinator_unclipped (case e bs) d h l = absurd h.0
combinator_unclipped (num n) d h l = absurd h

-- The bits of words one after the other.
bits-more : (ws vs : List ℕ) → words_bits (ws ++ vs) ≡ words_bits ws ++ words_bits vs
bits-more [] vs = refl
bits-more (w ∷ ws) vs =
    ap (λ bs. word_bits (kind_of w) (payload_of w) ++ bs) (bits-more ws vs) ∙ sym (append_assoc (word_bits (kind_of w) (payload_of w)) (words_bits ws) (words_bits vs))

pub words-bits : (t : Term) → Pure t → words_bits (words t) ≡ bits t
unfolding word_bits
words-bits (var i) h = rw (kind_of-word variable_kind i (omega arith), payload_of-word variable_kind i (omega arith)) (append-nil (bits (var i)))
words-bits (lam b) h = ap (λ bs. false ∷ false ∷ bs) (words-bits b h)
words-bits (app f a) h =
    ap (λ bs. false ∷ true ∷ bs) (bits-more (words f) (words a) ∙ ap₂ (λ bs cs. bs ++ cs) (words-bits f h.0) (words-bits a h.1))
words-bits (con t xs) h = absurd h.0
words-bits (case e bs) h = absurd h.0
words-bits (num n) h = absurd h
