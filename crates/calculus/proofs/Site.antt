-- The site of a contraction in the words: those of the redex, which start at the contraction's position, give way to those of its contractum, and the
-- words before and after them stay. The redex contracts at its own first word, whose kind its rule tells, and it has what is asked of every word of the
-- whole, wherever that word stands.
use Prim.Native.Nat.{ℕ, suc, ◌+◌, ◌<◌}
use mathlib.Core.Path.{◌≡◌, refl, sym, ◌∙◌, ap, subst}
use mathlib.Core.List.{List, [], ◌∷◌, ◌++◌, append_assoc, append-nil}
use native.Mathlib.Nat.{add-zero}
use native.Mathlib.Omega.{arith}
use lib.ListN.{length, get_or, length-append, get_or-append}
use lib.Seq.{get_or-append-add}
use Rattle.calculus.specs.Term.{Sort, term, Exp, Term}
use Rattle.calculus.specs.Words.{constructor_kind, case_kind, word, kind_of, pack, words, size}
use Rattle.calculus.specs.Everywhere.{Asked, Everywhere}
use Rattle.calculus.specs.Contraction.{Rule, Contracts, at_beta, at_case, at_numeral, in_body, in-function, in-argument, in-arguments, in-subject, in-branches, in-first, in-later, in-branch, in-later-branch}
use Rattle.calculus.specs.Theorems.{redex_kind, ContractionPosition}
use Rattle.calculus.proofs.WordLaws.{size_positive}
use Rattle.calculus.proofs.Spine.{count_contraction}

-- Each P i asks something of words; the whole has it where W i holds.
pub record Site {I : Type 0} (P : I → Asked (Unit {0})) (W : I → Type 0) (ws vs : List ℕ) (p : ℕ) (r : Rule) : Type 0 where
  pub redex : Term
  pub contractum : Term
  pub before : List ℕ
  pub after : List ℕ
  pub from : ws ≡ before ++ (words redex ++ after)
  pub to : vs ≡ before ++ (words contractum ++ after)
  pub position : length before ≡ p
  pub contracts : Contracts term 0 r redex contractum
  pub kind : kind_of (get_or (words redex) 0 0) ≡ redex_kind r
  pub asked : (i : I) → W i → Everywhere (P i) tt redex

module _ {I : Type 0} {P : I → Asked (Unit {0})} {U W : I → Type 0} {ws vs : List ℕ} {r : Rule} (part : (i : I) → U i → W i) where
  -- Words in front, and words behind.
  site_before : {p q : ℕ} (xs : List ℕ) → length xs + p ≡ q → Site P W ws vs p r → Site P U (xs ++ ws) (xs ++ vs) q r
  site_before xs e f =
      record {
        redex = f.redex;
        contractum = f.contractum;
        before = xs ++ f.before;
        after = f.after;
        from = rw (f.from, append_assoc);
        to = rw (f.to, append_assoc);
        position = omega (arith, length-append xs f.before, f.position);
        contracts = f.contracts;
        kind = f.kind;
        asked = λ i h. f.asked i (part i h);
      }

  site_behind : {p : ℕ} (ys : List ℕ) → Site P W ws vs p r → Site P U (ws ++ ys) (vs ++ ys) p r
  site_behind ys f =
      record {
        redex = f.redex;
        contractum = f.contractum;
        before = f.before;
        after = f.after ++ ys;
        from = rw f.from (simp append_assoc);
        to = rw f.to (simp append_assoc);
        position = f.position;
        contracts = f.contracts;
        kind = f.kind;
        asked = λ i h. f.asked i (part i h);
      }

  -- Behind the word of a constructor or a case, which counts arguments or branches.
  site_counted : {p m n : ℕ} (w : ℕ → ℕ) → m ≡ n → Site P W ws vs p r → Site P U (w m ∷ ws) (w n ∷ vs) (suc p) r
  site_counted {p} {m} w e f = subst (λ n. Site P U (w m ∷ ws) (w n ∷ vs) (suc p) r) e (site_before (w m ∷ []) (omega arith) f)

-- Behind one word.
site_under : {I : Type 0} {P : I → Asked (Unit {0})} {W : I → Type 0} {ws vs : List ℕ} {p : ℕ} {r : Rule} (w : ℕ) → Site P W ws vs p r
    → Site P W (w ∷ ws) (w ∷ vs) (suc p) r
site_under w f = site_before (λ i h. h) (w ∷ []) (omega arith) f

site_root : {I : Type 0} (P : I → Asked (Unit {0})) {r : Rule} {t u : Term} → Contracts term 0 r t u → kind_of (get_or (words t) 0 0) ≡ redex_kind r
    → Site P (λ i. Everywhere (P i) tt t) (words t) (words u) 0 r
site_root P {t = t} {u} c k =
    record {
      redex = t;
      contractum = u;
      before = [];
      after = [];
      from = sym (append-nil (words t));
      to = sym (append-nil (words u));
      position = refl;
      contracts = c;
      kind = k;
      asked = λ i h. h;
    }

pub site : {I : Type 0} (P : I → Asked (Unit {0})) {s : Sort} {p : ℕ} {r : Rule} {e g : Exp s} → Contracts s p r e g
    → Site P (λ i. Everywhere (P i) tt e) (words e) (words g) p r
site P (at_beta {b = b} {a = a}) = site_root P (at_beta {b = b} {a = a}) refl
site P (at_case {t = t} {xs = xs} {bs = bs} c) = site_root P (at_case {xs = xs} {bs = bs} c) (omega arith)
site P (at_numeral {n = n}) = site_root P (at_numeral {n = n}) (omega arith)
site P (in_body c) = site_under _ (site P c)
site P (in-function {a = a} c) = site_under _ (site_behind (λ i h. h.0) (words a) (site P c))
site P (in-argument {f = f} c) = site_under _ (site_before (λ i h. h.1) (words f) refl (site P c))
site P (in-arguments {t = t} c) = site_counted (λ i h. h.1) (λ n. word constructor_kind (pack t n)) (count_contraction c) (site P c)
site P (in-subject {bs = bs} c) = site_under _ (site_behind (λ i h. h.1) (words bs) (site P c))
site P (in-branches {e = e} c) =
    site_counted (λ i h. h.2) (word case_kind) (count_contraction c) (site_before (λ i h. h) (words e) refl (site P c))
site P (in-first {xs = xs} c) = site_behind (λ i h. h.0) (words xs) (site P c)
site P (in-later {a = a} c) = site_before (λ i h. h.1) (words a) refl (site P c)
site P (in-branch {bs = bs} c) = site_under _ (site_behind (λ i h. h.1) (words bs) (site P c))
site P (in-later-branch {b = b} c) = site_under _ (site_before (λ i h. h.2) (words b) refl (site P c))

-- No question.
abbrev none_asked : ⊥ → Asked (Unit {0})
none_asked i = absurd i

-- A redex starts within the words, and so does what it becomes; the first word of the redex stands there.
module _ {s : Sort} {p : ℕ} {r : Rule} {e g : Exp s} (c : Contracts s p r e g) where
  found : Site none_asked (λ i. Everywhere (none_asked i) tt e) (words e) (words g) p r
  found = site none_asked c

  spread : (t : Term) → length (found.before ++ (words t ++ found.after)) ≡ p + (size t + length found.after)
  spread t = length-append found.before (words t ++ found.after) ∙ omega (arith, length-append (words t) found.after, found.position)

  pub contraction_within : p < size e
  contraction_within = omega (arith, ap length found.from, spread found.redex, size_positive found.redex)

  pub contraction_leaves : p < size g
  contraction_leaves = omega (arith, ap length found.to, spread found.contractum, size_positive found.contractum)

  pub redex-kind : kind_of (get_or (words e) p 0) ≡ redex_kind r
  redex-kind =
      ap (λ ws. kind_of (get_or ws p 0)) found.from
      ∙ ap (λ n. kind_of (get_or (found.before ++ (words found.redex ++ found.after)) n 0)) (sym (add-zero (length found.before) ∙ found.position))
      ∙ ap kind_of (get_or-append-add found.before (words found.redex ++ found.after) 0 0)
      ∙ ap kind_of (get_or-append (words found.redex) found.after 0 0 (size_positive found.redex))
      ∙ found.kind

pub contraction_position : ContractionPosition
contraction_position p r t u c = redex-kind c
