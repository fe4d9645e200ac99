-- The words that are found in bits are those of the terms whose bits they are, and these are found of the bits of every term.
use Prim.Native.Nat.{ℕ, zero, suc, ◌+◌, ◌≤◌}
use mathlib.Core.Path.{◌≡◌, refl, sym, ap, ◌∙◌}
use mathlib.Core.Bool.{Bool, true, false}
use mathlib.Core.List.{List, [], ◌∷◌, ◌++◌, append_assoc, append-nil, append_cancel_left}
use mathlib.Core.Option.{Option, some, none, map, bind, none-ne-some}
use native.Mathlib.Decide.{dec_le}
use native.Mathlib.Nat.{add-zero, zero-add}
use native.Mathlib.Omega.{arith}
use lib.ListN.{length, drop, replicate, take-append-drop}
use lib.Seq.{append_snoc, take-append-le, take-append_seam}
use Rattle.calculus.specs.Term.{Term, var, lam, app, con, case, num}
use Rattle.calculus.specs.Words.{abstraction_kind, application_kind, word, words}
use Rattle.calculus.specs.Read.{any_term}
use Rattle.calculus.proofs.All.{All, nothing, holds, all_map, all_some}
use Rattle.calculus.proofs.ReadLaws.{any-term}
use Rattle.encoding.specs.Bits.{bits, Pure}
use Rattle.encoding.specs.Decoding.{words_in, decode}
use Rattle.encoding.specs.Theorems.{BitsPrefixFree, DecodingExact}
use Rattle.encoding.proofs.PureLaws.{pure_packable}

-- A run of ones belongs to the next term.
pub words_in_run : (k : ℕ) (bs : List Bool) (i n : ℕ) → words_in (replicate k true ++ bs) i (suc n) ≡ words_in bs (i + k) (suc n)
unfolding words_in
words_in_run zero bs i n = ap (λ j. words_in bs j (suc n)) (sym (add-zero i))
words_in_run (suc k) bs i n =
    let e : suc i + k ≡ i + suc k = omega arith in words_in_run k bs (suc i) n ∙ ap (λ j. words_in bs j (suc n)) e

map-map : {A B C : Type 0} (g : B → C) (f : A → B) (o : Option A) → map g (map f o) ≡ map (λ a. g (f a)) o
map-map g f none = refl
map-map g f (some a) = refl

-- The bits of a term in front of others give its words in front of theirs.
pub words_in_bits : (t : Term) (rest : List Bool) (n : ℕ) → Pure t
    → words_in (bits t ++ rest) 0 (suc n) ≡ map (λ ws. words t ++ ws) (words_in rest 0 n)
unfolding words_in
words_in_bits (var i) rest n h =
    ap (λ cs. words_in cs 0 (suc n)) (append_assoc (replicate (suc i) true) (false ∷ []) rest)
    ∙ words_in_run (suc i) (false ∷ rest) 0 n
    ∙ ap (λ j. words_in (false ∷ rest) j (suc n)) (zero-add (suc i))
words_in_bits (lam b) rest n h = ap (map _) (words_in_bits b rest n h) ∙ map-map _ _ (words_in rest 0 n)
words_in_bits (app f a) rest n h =
    ap (λ cs. words_in (false ∷ true ∷ cs) 0 (suc n)) (append_assoc (bits f) (bits a) rest)
    ∙ ap (map _) (words_in_bits f (bits a ++ rest) (suc n) h.0 ∙ ap (map _) (words_in_bits a rest n h.1))
    ∙ simp (map-map, append_assoc)
words_in_bits (con t xs) rest n h = absurd h.0
words_in_bits (case e bs) rest n h = absurd h.0
words_in_bits (num m) rest n h = absurd h

-- Words and bits of n terms, one after the other.
abbrev pub Together : (n : ℕ) → List Bool → List ℕ → Type 0
Together zero bs ws = (bs ≡ []) × (ws ≡ [])
Together (suc n) bs ws =
    (t : Term) × (cs : List Bool) × (vs : List ℕ) × Pure t × (bits t ++ cs ≡ bs) × (words t ++ vs ≡ ws) × Together n cs vs

-- An abstraction of the first, and an application of the first to the second.
together_lam : (n : ℕ) (bs : List Bool) (ws : List ℕ) → Together (suc n) bs ws → Together (suc n) (false ∷ false ∷ bs) (word abstraction_kind 0 ∷ ws)
together_lam n bs ws h = (lam h.0, h.1, h.2, h.3, ap (λ cs. false ∷ false ∷ cs) h.4, ap (λ vs. word abstraction_kind 0 ∷ vs) h.5, h.6)

together_app : (n : ℕ) (bs : List Bool) (ws : List ℕ) → Together (suc (suc n)) bs ws → Together (suc n) (false ∷ true ∷ bs) (word application_kind 0 ∷ ws)
together_app n bs ws h = let g = h.6 in (app h.0 g.0, g.1, g.2, (h.3, g.3), rw append_assoc (cc), rw append_assoc (cc), g.6)

ones_first : (i : ℕ) (bs : List Bool) → replicate i true ++ (true ∷ bs) ≡ true ∷ (replicate i true ++ bs)
ones_first zero bs = refl
ones_first (suc i) bs = ap (λ cs. true ∷ cs) (ones_first i bs)

-- Whatever words are found, the bits are those of so many terms, and the words theirs.
pub words_in_sound : (bs : List Bool) (i n : ℕ) → All (Together n (replicate i true ++ bs)) (words_in bs i n)
unfolding words_in
words_in_sound [] zero zero = holds (refl, refl)
words_in_sound [] zero (suc n) = nothing
words_in_sound [] (suc i) n = nothing
words_in_sound (b ∷ bs) i zero = nothing
words_in_sound (true ∷ bs) i (suc n) = rw ones_first (words_in_sound bs (suc i) (suc n))
words_in_sound (false ∷ bs) (suc i) (suc n) =
    all_map _ (words_in_sound bs 0 n) (λ ws h. (var i, bs, ws, tt, append_snoc (replicate (suc i) true) false bs, refl, h))
words_in_sound (false ∷ []) zero (suc n) = nothing
words_in_sound (false ∷ false ∷ bs) zero (suc n) = all_map _ (words_in_sound bs 0 (suc n)) (together_lam n bs)
words_in_sound (false ∷ true ∷ bs) zero (suc n) = all_map _ (words_in_sound bs 0 (suc (suc n))) (together_app n bs)

pub words_in_decode : (bs : List Bool) (ws : List ℕ) → words_in bs 0 1 ≡ some ws → (t : Term) × Pure t × (bits t ≡ bs) × (words t ≡ ws)
words_in_decode bs ws q =
    let h = all_some (rw q at (words_in_sound bs 0 1)) in
    (h.0, h.3, sym (append-nil _) ∙ rw h.6.0 at h.4, sym (append-nil _) ∙ rw h.6.1 at h.5)

pub words_in_term : (t : Term) → Pure t → words_in (bits t) 0 1 ≡ some (words t)
unfolding words_in
words_in_term t h =
    ap (λ bs. words_in bs 0 1) (sym (append-nil (bits t))) ∙ words_in_bits t [] 0 h ∙ ap some (append-nil (words t))

pub decode-complete : (t : Term) → Pure t → decode (bits t) ≡ some t
unfolding decode bind
decode-complete t h = rw (words_in_term t h) (any-term t (pure_packable t h))

pub decode_sound : (bs : List Bool) (t : Term) → decode bs ≡ some t → Pure t × (bits t ≡ bs)
unfolding decode bind
decode_sound bs t q = go (words_in bs 0 1) refl q
  where
    go : (o : Option (List ℕ)) → words_in bs 0 1 ≡ o → bind o any_term ≡ some t → Pure t × (bits t ≡ bs)
    go none e r = absurd (none-ne-some t r)
    go (some ws) e r =
        let g = words_in_decode bs ws e in
        let same : g.0 ≡ t = cc (any-term g.0 (pure_packable g.0 g.1), g.3, r) in
        (rw same at g.1, rw same at g.2)

pub decoding_exact : DecodingExact
decoding_exact bs t = (decode_sound bs t, λ h. ap decode (sym h.1) ∙ decode-complete t h.0)

-- Bits after those of a term are left over.
extended : (t u : Term) (ds : List Bool) → Pure t → Pure u → bits t ++ ds ≡ bits u → t ≡ u
unfolding words_in
extended t u [] h g q = let e : bits t ≡ bits u = cc (append-nil (bits t)) in cc (decode-complete t h, decode-complete u g)
extended t u (d ∷ ds) h g q = let never : none ≡ some (words u) = cc (words_in_bits t (d ∷ ds) 0 h, words_in_term u g) in absurd (none-ne-some _ never)

shorter : (t u : Term) (bs cs : List Bool) → Pure t → Pure u → bits t ++ bs ≡ bits u ++ cs → length (bits t) ≤ length (bits u) → t ≡ u
shorter t u bs cs h g q le =
    let n = length (bits t) in
    extended t u (drop n (bits u)) h g (cc (take-append-drop n (bits u), take-append-le n (bits u) cs le, take-append_seam (bits t) bs))

pub bits_prefix_free : BitsPrefixFree
bits_prefix_free t u bs cs h g q = (same, append_cancel_left (bits u) bs cs (cc same))
  where
    same : t ≡ u
    same =
        elim (dec_le (length (bits t)) (length (bits u))) [
          | yes le ↦ shorter t u bs cs h g q le
          | no gt ↦ sym (shorter u t cs bs g h (sym q) (omega arith))
        ]
