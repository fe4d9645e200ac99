-- A scan of words from the left, over frames. It succeeds exactly on the words of one accepted term: the words of an accepted expression take its
-- items off the frames, and words on which the scan succeeds are those of accepted expressions that fill the frames.
use Prim.Native.Nat.{ℕ, zero, suc, ◌+◌, ◌≤◌, ◌<◌}
use mathlib.Core.Path.{◌≡◌, refl, sym, ◌∙◌, ap, subst}
use mathlib.Core.Bool.{Bool, true, false, not, ◌&&◌, false≢true, and-eq-true_iff}
use mathlib.Core.List.{List, [], ◌∷◌, ◌++◌, append_assoc, append-nil}
use mathlib.Core.Option.{Option, some, none, Option-elim}
use native.Mathlib.Nat.{add-zero}
use native.Mathlib.Numerals.{add-one}
use native.Mathlib.Decide.{ℕ_discrete}
use native.Mathlib.Omega.{arith}
use lib.Dec.{eqb, leb}
use borrow.Author.Tests.{eqb-true, leb-true, le-leb, ne_eqb}
use Rattle.calculus.specs.Term.{Sort, term, terms, branches, Exp, Term, Terms, Branches, var, lam, app, con, case, num, nil, cons, end, branch, count}
use Rattle.calculus.specs.Words.{variable_kind, abstraction_kind, application_kind, constructor_kind, case_kind, branch_kind, numeral_kind, kind_base, count_base, word, pack, tag_of, count_of, words}
use Rattle.calculus.specs.Accepted.{tag_limit, StartsAbove, Rising, Pattern, Accepted}
use Rattle.calculus.specs.Read.{read}
use Rattle.calculus.specs.Skip.{following}
use Rattle.calculus.proofs.WordLaws.{kind_of-word, payload_of-word, word_of_parts, tag_of-pack, count_of-pack, pack_of_parts}
use Rattle.calculus.proofs.ReadLaws.{read_exact}
use Rattle.calculus.proofs.DefaultLaws.{pattern_limits}
use Rattle.words.specs.Bound.{binding}
use Rattle.calculus.specs.Payload.{payload_fits, Payload, variable, abstraction, application, constructor, case, default, branch, numeral}
use Rattle.calculus.proofs.PatternLaws.{tagged_passes, pattern_passes, pattern_fits}
use Rattle.calculus.proofs.PayloadLaws.{payloads_exact}
use Rattle.terms.specs.Frames.{Frame, frame, inside_by, inside, starts_term, starts_branch, allowed_by, allowed, rest_by, rest}

-- A frame in front of others, left out if nothing is to come in it.
abbrev pub push_by : (terms branches : ℕ) → Frame → List Frame → List Frame
push_by zero zero f fs = fs
push_by zero (suc b) f fs = f ∷ fs
push_by (suc n) b f fs = f ∷ fs

abbrev pub push : Frame → List Frame → List Frame
push f fs = push_by f.terms f.branches f fs

-- The frames after a word that stands at the frame f.
abbrev pub after : Frame → ℕ → List Frame → List Frame
after f w fs = push (inside f.depth w) (push (rest f w) fs)

-- The scan succeeds if each word is allowed by the frame in front, and no frame is left in the end.
unfoldable pub scan : List Frame → List ℕ → Bool
scan [] [] = true
scan (f ∷ fs) [] = false
scan [] (w ∷ ws) = false
scan (f ∷ fs) (w ∷ ws) = allowed f w && scan (after f w fs) ws

-- One turn, at a word that is made of a kind and a payload, where a term and where a branch has to come.
scan_term : (k p n b d t : ℕ) (fs : List Frame) (ws : List ℕ) → k < kind_base → starts_term d k p ≡ true → scan (frame (suc n) b d t ∷ fs) (word k p ∷ ws) ≡ scan (push (inside_by d k p) (push (frame n b d t) fs)) ws
unfolding scan
scan_term k p n b d t fs ws h q = rw (kind_of-word k p h, payload_of-word k p h, q)

scan_branch : (k p b d l : ℕ) (fs : List Frame) (ws : List ℕ) → k < kind_base → starts_branch l k p ≡ true → scan (frame 0 (suc b) d l ∷ fs) (word k p ∷ ws) ≡ scan (push (inside_by d k p) (push (frame 0 b d (suc (tag_of p))) fs)) ws
unfolding scan
scan_branch k p b d l fs ws h q = rw (kind_of-word k p h, payload_of-word k p h, q)

-- The first branch, if there is one, has a tag from l on.
abbrev StartsFrom : ℕ → Branches → Type 0
StartsFrom l end = Unit {0}
StartsFrom l (branch u n b bs) = l ≤ u

from_zero : (bs : Branches) → StartsFrom 0 bs
from_zero end = tt
from_zero (branch u n b bs) = omega arith

from_next : (t : ℕ) (bs : Branches) → StartsAbove t bs → StartsFrom (suc t) bs
from_next t end h = tt
from_next t (branch u n b bs) h = omega arith

next-above : (t : ℕ) (bs : Branches) → StartsFrom (suc t) bs → StartsAbove t bs
next-above t end h = tt
next-above t (branch u n b bs) h = omega arith

-- The words of an accepted expression under d binders take its items off the frame in front.
abbrev Passes : {s : Sort} → ℕ → Exp s → Type 0
Passes {s = term} d e = (n b t : ℕ) (fs : List Frame) (ws : List ℕ) → scan (frame (suc n) b d t ∷ fs) (words e ++ ws) ≡ scan (push (frame n b d t) fs) ws
Passes {s = terms} d e = (b t : ℕ) (fs : List Frame) (ws : List ℕ) → scan (push (frame (count e) b d t) fs) (words e ++ ws) ≡ scan (push (frame 0 b d t) fs) ws
Passes {s = branches} d e = (l : ℕ) (fs : List Frame) (ws : List ℕ) → StartsFrom l e → Rising e → scan (push (frame 0 (count e) d l) fs) (words e ++ ws) ≡ scan fs ws

passes : {s : Sort} (d : ℕ) (e : Exp s) → Accepted d e → Passes d e
unfolding inside_by binding starts_term starts_branch payload_fits following
passes d (var i) h = λ n b t fs ws. scan_term variable_kind i n b d t fs ws (omega arith) (le-leb _ _ h)
passes d (lam e) h = λ n b t fs ws. scan_term abstraction_kind 0 n b d t fs _ (omega arith) refl ∙ rw add-one (passes (suc d) e h 0 0 0 _ ws)
passes d (app e a) h =
    λ n b t fs ws. rw append_assoc
    (scan_term application_kind 0 n b d t fs _ (omega arith) refl ∙ rw add-zero (passes d e h.0 1 0 0 _ _ ∙ passes d a h.1 0 0 0 _ ws))
passes d (con u xs) h =
    let k : count xs < count_base = omega arith in
    λ n b t fs ws. scan_term constructor_kind (pack u (count xs)) n b d t fs _ (omega arith) (rw (tag_of-pack u _ k, count_of-pack u _ k) (tagged_passes u (count xs) h.0))
    ∙ rw (count_of-pack u _ k, add-zero) (passes d xs h.1 0 0 _ ws)
passes d (case e bs) h =
    λ n b t fs ws. rw append_assoc
    (scan_term case_kind (count bs) n b d t fs _ (omega arith) (le-leb _ _ h.0.0)
    ∙ rw add-zero (passes d e h.1 0 (count bs) 0 _ _ ∙ passes d bs h.2 0 _ ws (from_zero bs) h.0.1))
passes d (num i) h = λ n b t fs ws. scan_term numeral_kind i n b d t fs ws (omega arith) (le-leb _ _ h)
passes d nil h = λ b t fs ws. refl
passes d (cons a xs) h = λ b t fs ws. rw append_assoc (passes d a h.0 (count xs) b t fs _ ∙ passes d xs h.1 b t fs ws)
passes d end h = λ l fs ws g r. refl
passes d (branch u m e bs) h =
    let k : m < count_base = omega (arith, (pattern_limits u m h.0).1) in
    λ l fs ws g r. rw append_assoc
    (scan_branch branch_kind (pack u m) (count bs) d l fs _ (omega arith)
    (rw (tag_of-pack u m k, count_of-pack u m k, le-leb l u g) (pattern_passes u m h.0))
    ∙ rw (tag_of-pack u m k, count_of-pack u m k) (passes (d + m) e h.1 0 0 0 _ _ ∙ passes d bs h.2 (suc u) fs ws (from_next u bs r.0) r.1))

-- Words that are those of n accepted terms under d binders, or of n accepted branches with tags from l on, and then words of which P holds; and words
-- that fill frames.
abbrev TermsThen : ℕ → ℕ → (List ℕ → Type 0) → List ℕ → Type 0
TermsThen zero d P ws = P ws
TermsThen (suc n) d P ws = (e : Term) × (vs : List ℕ) × Accepted d e × (words e ++ vs ≡ ws) × TermsThen n d P vs

abbrev BranchesThen : ℕ → ℕ → ℕ → (List ℕ → Type 0) → List ℕ → Type 0
BranchesThen zero d l P ws = P ws
BranchesThen (suc n) d l P ws =
    (u : ℕ) × (m : ℕ) × (e : Term) × (vs : List ℕ) × (l ≤ u) × Pattern u m × Accepted (d + m) e × (word branch_kind (pack u m) ∷ (words e ++ vs) ≡ ws) × BranchesThen n d (suc u) P vs

abbrev FrameThen : Frame → (List ℕ → Type 0) → List ℕ → Type 0
FrameThen f P = TermsThen f.terms f.depth (BranchesThen f.branches f.depth f.least P)

abbrev Fills : List Frame → List ℕ → Type 0
Fills [] ws = [] ≡ ws
Fills (f ∷ fs) ws = FrameThen f (Fills fs) ws

-- The terms as one list of arguments, and the branches as those of one case.
gather_terms : (n d : ℕ) (P : List ℕ → Type 0) (ws : List ℕ) → TermsThen n d P ws → (xs : Terms) × (vs : List ℕ) × (count xs ≡ n) × Accepted d xs × (words xs ++ vs ≡ ws) × P vs
gather_terms zero d P ws h = (nil, ws, refl, tt, refl, h)
gather_terms (suc n) d P ws h =
    let r = gather_terms n d P h.1 h.4 in
    (cons h.0 r.0, r.1, ap suc r.2, (h.2, r.3), rw (append_assoc, r.4) h.3, r.5)

gather_branches : (n d l : ℕ) (P : List ℕ → Type 0) (ws : List ℕ) → BranchesThen n d l P ws → (bs : Branches) × (vs : List ℕ) × (count bs ≡ n) × StartsFrom l bs × Rising bs × Accepted d bs × (words bs ++ vs ≡ ws) × P vs
gather_branches zero d l P ws h = (end, ws, refl, tt, tt, tt, refl, h)
gather_branches (suc n) d l P ws h =
    let r = gather_branches n d (suc h.0) P h.3 h.8 in
    (branch h.0 h.1 h.2 r.0, r.1, ap suc r.2, h.4, (next-above h.0 r.0 r.3, r.4), (h.5, h.6, r.5), rw (append_assoc, r.6) h.7, r.7)

-- The payload of a branch that is allowed.
branch_pattern : (l k p : ℕ) → starts_branch l k p ≡ true → (k ≡ branch_kind) × (l ≤ tag_of p) × Pattern (tag_of p) (count_of p)
unfolding starts_branch payload_fits
branch_pattern l k p q =
    let a = (and-eq-true_iff (eqb k branch_kind) _).0 q in
    let kind = eqb-true k branch_kind a.0 in
    let b = (and-eq-true_iff (leb l (tag_of p)) _).0 (rw kind at a.1) in
    (kind, leb-true l (tag_of p) b.0, pattern_fits (tag_of p) (count_of p) b.1)

-- A branch that is allowed is to come, and its tag is within the limit.
pub branch_allowed : (n b d l k p : ℕ) → n ≤ 0 → allowed_by n b d l k p ≡ true → (0 < b) × (tag_of p ≤ tag_limit)
branch_allowed zero zero d l k p h q = absurd (false≢true q)
branch_allowed zero (suc b) d l k p h q = (omega arith, (pattern_limits (tag_of p) (count_of p) (branch_pattern l k p q).2).0)
branch_allowed (suc n) b d l k p h q = absurd (omega arith)

-- A word that may start a term starts one, if what follows the word is filled; and so for a branch.
fill_other : {k p : ℕ} → Payload k p → (k ≡ variable_kind → ⊥) → not (eqb k branch_kind) ≡ true → (d : ℕ) (P : List ℕ → Type 0) (ws : List ℕ)
    → FrameThen (inside_by d k p) P ws → TermsThen 1 d P (word k p ∷ ws)
unfolding inside_by binding following
fill_other (variable m) v b d P ws = absurd (v refl)
fill_other abstraction v b d P ws = rw (add-one d) (λ h. (lam h.0, h.1, h.2, cc, h.4))
fill_other application v b d P ws =
    rw add-zero (λ h. (app h.0 h.4.0, h.4.1, (h.2, h.4.2), rw append_assoc (cc), h.4.4))
fill_other (constructor {t} {n} l u m) v b d P ws =
    rw (count_of-pack t n (omega arith), add-zero)
    (λ h.
    let g = gather_terms n d P ws h in
    (con t g.0, g.1, (((l, u), omega (arith, g.2)), g.3), cc, g.5))
fill_other (case {p} m) v b d P ws =
    rw add-zero
    (λ h.
    let g = gather_branches p d 0 P h.1 h.4 in
    (case h.0 g.0, g.1, ((omega (arith, m, g.2), g.4), h.2, g.5), rw append_assoc (cc), g.7))
fill_other default v b d P ws = absurd (false≢true b)
fill_other (branch l u m) v b d P ws = absurd (false≢true b)
fill_other (numeral {p} m) v b d P ws = λ h. (num p, ws, m, refl, h)

fill_term : (k p d : ℕ) (P : List ℕ → Type 0) (ws : List ℕ) → starts_term d k p ≡ true → FrameThen (inside_by d k p) P ws → TermsThen 1 d P (word k p ∷ ws)
unfolding inside_by binding starts_term following
fill_term k p d P ws =
    elim (ℕ_discrete k variable_kind) [
      | yes e ↦ rw e (λ q h. (var p, ws, leb-true _ _ q, refl, h))
      | no v ↦ λ q.
          let both = (and-eq-true_iff (not (eqb k branch_kind)) (payload_fits k p)).0 (rw (ne_eqb k variable_kind v) at q) in
          fill_other ((payloads_exact k p).0 both.1) v both.0 d P ws
    ]

fill_branch : (k p n d l : ℕ) (P : List ℕ → Type 0) (ws : List ℕ) → starts_branch l k p ≡ true → FrameThen (inside_by d k p) (BranchesThen n d (suc (tag_of p)) P) ws → BranchesThen (suc n) d l P (word k p ∷ ws)
unfolding inside_by binding following
fill_branch k p n d l P ws q =
    let (kind, least, pattern) = branch_pattern l k p q in
    rw kind (λ h. (tag_of p, count_of p, h.0, h.1, least, pattern, h.2, cc (pack_of_parts p), h.4))

-- A frame that is not kept is filled by nothing.
push_fills : (n b d t : ℕ) (fs : List Frame) → Fills (push (frame n b d t) fs) ≡ FrameThen (frame n b d t) (Fills fs)
push_fills zero zero d t fs = refl
push_fills zero (suc b) d t fs = refl
push_fills (suc n) b d t fs = refl

pushes_fill : (i r : Frame) (fs : List Frame) (ws : List ℕ) → Fills (push i (push r fs)) ws → FrameThen i (FrameThen r (Fills fs)) ws
pushes_fill i r fs ws h =
    subst (λ P. FrameThen i P ws) (push_fills r.terms r.branches r.depth r.least fs)
    (subst (λ P. P ws) (push_fills i.terms i.branches i.depth i.least (push r fs)) h)

fill : (n b d t k p : ℕ) (P : List ℕ → Type 0) (ws : List ℕ) → allowed_by n b d t k p ≡ true → FrameThen (inside_by d k p) (FrameThen (rest_by n b d t p) P) ws → FrameThen (frame n b d t) P (word k p ∷ ws)
fill zero zero d t k p P ws q h = absurd (false≢true q)
fill zero (suc b) d t k p P ws q h = fill_branch k p b d t P ws q h
fill (suc n) b d t k p P ws q h = fill_term k p d (TermsThen n d (BranchesThen b d t P)) ws q h

scan_fills : (ws : List ℕ) (fs : List Frame) → scan fs ws ≡ true → Fills fs ws
unfolding scan
scan_fills [] [] q = refl
scan_fills [] (f ∷ fs) q = absurd (false≢true q)
scan_fills (w ∷ ws) [] q = absurd (false≢true q)
scan_fills (w ∷ ws) (f ∷ fs) q =
    let a = (and-eq-true_iff _ _).0 q in
    let h = pushes_fill (inside f.depth w) (rest f w) fs ws (scan_fills ws _ a.1) in
    rw (← word_of_parts w) (fill f.terms f.branches f.depth f.least _ _ (Fills fs) ws a.0 h)

-- The scan for one term under no binder succeeds exactly where `read` gives a term.
abbrev pub whole : List Frame
whole = frame 1 0 0 0 ∷ []

scan-words : (t : Term) → Accepted 0 t → scan whole (words t) ≡ true
unfolding scan
scan-words t h = ap (scan whole) (sym (append-nil (words t))) ∙ passes 0 t h 0 0 0 [] []

scan-read : (ws : List ℕ) → scan whole ws ≡ true → (t : Term) × (read ws ≡ some t)
scan-read ws q =
    let h = scan_fills ws whole q in
    (h.0, (read_exact ws h.0).1 (cc (append-nil (words h.0)), h.2))

pub scan_exact : (ws : List ℕ) → scan whole ws ≡ Option-elim (read ws) false (λ t. true)
unfolding Option-elim
scan_exact ws = go (scan whole ws) (read ws) refl refl
  where
    go : (b : Bool) (o : Option Term) → scan whole ws ≡ b → read ws ≡ o → b ≡ Option-elim o false (λ t. true)
    go true none q r = cc (scan-read ws q).1
    go true (some t) q r = refl
    go false none q r = refl
    go false (some t) q r = let h = (read_exact ws t).0 r in cc (scan-words t h.1)
