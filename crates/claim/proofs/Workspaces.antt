-- Workspaces that pass refusal 7, and workspaces that hold a term: the term that their first words are, by how many are taken, and the workspace of a
-- term's words and zeros.
use Prim.Native.Nat.{ℕ, ◌-◌, ◌≤◌}
use mathlib.Core.Path.{◌≡◌, refl, sym, ◌∙◌, ap, subst}
use mathlib.Core.Bool.{Bool, true, false, cond}
use mathlib.Core.List.{List, [], ◌∷◌, ◌++◌}
use mathlib.Core.Option.{Option, some, none}
use native.Mathlib.Omega.{arith}
use lib.Dec.{eqb}
use lib.ListN.{length, drop, replicate, take-append-drop}
use lib.Seq.{take-append_seam}
use borrow.Author.Tests.{eqb-true, eqb-false}
use Rattle.calculus.specs.Term.{Term}
use Rattle.calculus.specs.Words.{words, size}
use Rattle.calculus.specs.Accepted.{Accepted}
use Rattle.calculus.specs.Theorems.{Held}
use Rattle.calculus.specs.Workspace.{sized, term_at, padded}
use Rattle.calculus.proofs.WordLaws.{accepted_packable}
use Rattle.calculus.proofs.PrefixFree.{words_prefix_free}
use Rattle.calculus.proofs.WorkspaceLaws.{sized_equal, first_equal, others_equal, term_at_exact, held, held-size, length-padded}
use Rattle.claim.specs.Claim.{Contains}

-- Three lengths that pass are equal.
module _ (l r s : ℕ) (fits : sized (l ∷ r ∷ s ∷ []) ≡ true) where
  pub sized_right : r ≡ l
  sized_right = first_equal l r (s ∷ []) (sized_equal l (r ∷ s ∷ []) fits)

  pub sized_scratch : s ≡ l
  sized_scratch = first_equal l s [] (others_equal l r (s ∷ []) (sized_equal l (r ∷ s ∷ []) fits))

pub holds_padded : {C : ℕ} {t : Term} → Accepted 0 t → size t ≤ C → Contains C t (padded C (words t))
holds_padded {C} {t} a h =
    let long = length-padded C (words t) h in
    record {
      holds = record { within = omega arith; words_are = sym (take-append_seam (words t) (replicate (C - size t) 0)); accepted = a };
      length_is = long;
    }

pub holds_fits : {C : ℕ} {t : Term} {ws : List ℕ} → Contains C t ws → size t ≤ C
holds_fits h = omega (arith, h.holds.within, h.length_is)

starts-with : {ws : List ℕ} {n : ℕ} {t : Term} → Held ws n t → words t ++ drop n ws ≡ ws
starts-with {ws} {n} h = ap (λ l. l ++ drop n ws) h.words_are ∙ take-append-drop n ws

-- A workspace holds one term, whatever lengths are given: no term's words are the start of another's.
one_held : {ws : List ℕ} {n m : ℕ} {t u : Term} → Held ws n t → Held ws m u → t ≡ u
one_held {ws} {n} {m} {t} {u} h k =
    (words_prefix_free t u (drop n ws) (drop m ws) (accepted_packable 0 t h.accepted) (accepted_packable 0 u k.accepted)
    (starts-with h ∙ sym (starts-with k))).0

pub term_at-size : {C : ℕ} {t : Term} {ws : List ℕ} → Contains C t ws → term_at ws (size t) ≡ some t
term_at-size {t = t} {ws = ws} h = (term_at_exact ws (size t) t).1 h.holds

pub term_at_holds : {C : ℕ} {t : Term} {ws : List ℕ} → Contains C t ws → (n : ℕ) → term_at ws n ≡ cond (eqb n (size t)) (some t) none
term_at_holds {t = t} {ws = ws} h n = by (eqb n (size t)) (term_at ws n) refl refl
  where
    by : (b : Bool) (o : Option Term) → eqb n (size t) ≡ b → term_at ws n ≡ o → term_at ws n ≡ cond b (some t) none
    by true o e q = rw (eqb-true n (size t) e) (term_at-size h)
    by false none e q = q
    by false (some u) e q =
        let k = held ws n u q in absurd (eqb-false n (size t) e (sym (held-size k) ∙ ap size (sym (one_held h.holds k))))

-- A workspace holds the term that its first words are.
pub holds_term_at : {t : Term} (ws : List ℕ) (n : ℕ) → term_at ws n ≡ some t → Contains (length ws) t ws
holds_term_at {t} ws n e =
    let h = held ws n t e in record { holds = subst (λ k. Held ws k t) (sym (held-size h)) h; length_is = refl }
