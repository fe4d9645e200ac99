-- The lengths of workspaces that pass refusal 7, and a workspace that holds a term, whatever stands after it.
use Prim.Native.Nat.{ℕ, ◌≤◌}
use mathlib.Core.Path.{◌≡◌, refl, sym, ◌∙◌, ap}
use mathlib.Core.Bool.{Bool, true, false, cond, ◌&&◌, and-eq-true_iff}
use mathlib.Core.List.Memᴰ
use mathlib.Core.List.{List, [], ◌∷◌, ◌++◌, Memᴰ}
use mathlib.Core.Logic.{⊎_elim, ◌↔◌}
use mathlib.Core.Option.{some, none, none-ne-some}
use native.Mathlib.Omega.{arith}
use lib.ListN.{length, take, length-append, length-replicate}
use lib.Seq.{take-append_seam, length-take-le}
use lib.Dec.{leb, eqb}
use borrow.Author.Tests.{le-leb, leb-true, leb-false, eqb-true, eq-eqb, not-false}
use Rattle.calculus.specs.Term.{Term}
use Rattle.calculus.specs.Words.{words, size, workspace_least, workspace_most}
use Rattle.calculus.specs.Accepted.{Accepted}
use Rattle.calculus.specs.Workspace.{equal_to, sized, wrong_workspace, term_at, padded}
use Rattle.calculus.specs.Read.{read}
use Rattle.calculus.specs.Theorems.{LengthsExact, Held, TermAtExact}
use Rattle.calculus.proofs.ReadLaws.{read-words, read_exact}

module _ (C : ℕ) (ns : List ℕ) (fits : sized (C ∷ ns) ≡ true) where
  within : (leb C workspace_most && equal_to C ns) ≡ true
  within = ((and-eq-true_iff (leb workspace_least C) (leb C workspace_most && equal_to C ns)).0 fits).1

  pub sized_least : workspace_least ≤ C
  sized_least =
      leb-true workspace_least C ((and-eq-true_iff (leb workspace_least C) (leb C workspace_most && equal_to C ns)).0 fits).0

  pub sized_most : C ≤ workspace_most
  sized_most = leb-true C workspace_most ((and-eq-true_iff (leb C workspace_most) (equal_to C ns)).0 within).0

  pub sized_equal : equal_to C ns ≡ true
  sized_equal = ((and-eq-true_iff (leb C workspace_most) (equal_to C ns)).0 within).1

module _ (C n : ℕ) (ns : List ℕ) (equal : equal_to C (n ∷ ns) ≡ true) where
  pub first_equal : n ≡ C
  first_equal = eqb-true n C ((and-eq-true_iff (eqb n C) (equal_to C ns)).0 equal).0

  pub others_equal : equal_to C ns ≡ true
  others_equal = ((and-eq-true_iff (eqb n C) (equal_to C ns)).0 equal).1

-- All of these lengths are C exactly if each of them is.
all_equal : (C : ℕ) (ns : List ℕ) → equal_to C ns ≡ true → (m : ℕ) → Memᴰ m ns → m ≡ C
all_equal C [] e m h = absurd (Memᴰ.not-nil h)
all_equal C (n ∷ ns) e m h = ⊎_elim (λ q. q ∙ first_equal C n ns e) (λ k. all_equal C ns (others_equal C n ns e) m k) (Memᴰ.cases_cons h)

equal_all : (C : ℕ) (ns : List ℕ) → ((m : ℕ) → Memᴰ m ns → m ≡ C) → equal_to C ns ≡ true
equal_all C [] h = refl
equal_all C (n ∷ ns) h = rw (eq-eqb n C (h n (Memᴰ.head refl))) (equal_all C ns (λ m k. h m (Memᴰ.tail k)))

all_lengths : (ns : List ℕ) → (sized ns ≡ true)
    ↔ ((n : ℕ) → Memᴰ n ns → (workspace_least ≤ n) × (n ≤ workspace_most) × ((m : ℕ) → Memᴰ m ns → n ≡ m))
all_lengths [] = (λ e n h. absurd (Memᴰ.not-nil h), λ h. refl)
all_lengths (C ∷ ns) = (
  λ e n h.
      let all : (m : ℕ) → Memᴰ m (C ∷ ns) → m ≡ C = λ m k. ⊎_elim (λ q. q) (all_equal C ns (sized_equal C ns e) m) (Memᴰ.cases_cons k) in
      let least = sized_least C ns e in
      let most = sized_most C ns e in
      let is-C = all n h in
      (omega arith, omega arith, λ m k. is-C ∙ sym (all m k)),
  λ h.
      let first = h C (Memᴰ.head refl) in
      rw (le-leb workspace_least C first.0, le-leb C workspace_most first.1) (equal_all C ns (λ m k. sym (first.2 m (Memᴰ.tail k)))),
)

pub lengths_exact : LengthsExact
lengths_exact = (
  all_lengths,
  λ C. (
    λ h. let fits = not-false (sized (C ∷ [])) h in (sized_least C [] fits, sized_most C [] fits),
    λ h. rw (le-leb workspace_least C h.0, le-leb C workspace_most h.1),
  ),
)

-- Where one workspace is lent.
pub workspace_short : (C : ℕ) → wrong_workspace C ≡ false → C ≤ workspace_most
workspace_short C h = ((lengths_exact.1 C).0 h).1

-- A length that is named again changes nothing.
pub sized_two : (C n : ℕ) → sized (C ∷ n ∷ C ∷ []) ≡ sized (C ∷ n ∷ [])
sized_two C n = rw (eq-eqb C C refl)

pub sized_one : (C : ℕ) → sized (C ∷ C ∷ C ∷ []) ≡ sized (C ∷ [])
sized_one C = rw (eq-eqb C C refl)

pub term_at-words : (t : Term) (rest : List ℕ) → Accepted 0 t → term_at (words t ++ rest) (size t) ≡ some t
unfolding term_at
term_at-words t rest a =
    rw (le-leb (size t) (length (words t ++ rest)) (omega (arith, length-append (words t) rest)), take-append_seam (words t) rest) (read-words t a)

pub term_at_exact : TermAtExact
unfolding term_at
term_at_exact ws n t = by (leb n (length ws)) refl
  where
    by : (b : Bool) → leb n (length ws) ≡ b → (cond b (read (take n ws)) none ≡ some t) ↔ Held ws n t
    by true e = (
      λ h. let r = (read_exact (take n ws) t).0 h in record { within = leb-true n (length ws) e; words_are = r.0; accepted = r.1 },
      λ h. (read_exact (take n ws) t).1 (h.words_are, h.accepted),
    )
    by false e = (λ h. absurd (none-ne-some t h), λ h. absurd (omega (arith, leb-false n (length ws) e, h.within)))

pub held : (ws : List ℕ) (n : ℕ) (t : Term) → term_at ws n ≡ some t → Held ws n t
held ws n t = (term_at_exact ws n t).0

pub held-size : {ws : List ℕ} {n : ℕ} {t : Term} → Held ws n t → size t ≡ n
held-size {ws} {n} h = ap length h.words_are ∙ length-take-le n ws h.within

pub length-padded : (C : ℕ) (ws : List ℕ) → length ws ≤ C → length (padded C ws) ≡ C
length-padded C ws h = simp (length-append, length-replicate) (omega arith)
