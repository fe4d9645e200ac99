-- Loading refuses exactly what it must, and otherwise leaves the term that the table means.
use Prim.Native.Nat.{ℕ, ◌-◌}
use mathlib.Core.Path.{◌≡◌, sym, ap, ◌∙◌}
use mathlib.Core.Bool.{true, false, and-eq-true_iff}
use mathlib.Core.List.{List, ◌++◌}
use mathlib.Core.Logic.{inl, inr}
use native.Mathlib.Omega.{arith}
use lib.ListN.{length, replicate}
use borrow.Author.Rules.{rules}
use borrow.Author.Tests.{not-false}
use Rattle.calculus.specs.Term.{term, Term}
use Rattle.calculus.specs.Words.{words, size}
use Rattle.calculus.specs.Refusal.{Refusal}
use Rattle.calculus.specs.Bringing.{refused, returned, FirstMet, NoneMet, refuse, place, bring_unless}
use Rattle.calculus.proofs.BringingLaws.{settled, first-met, none_met}
use Rattle.calculus.specs.Workspace.{wrong_workspace, padded}
use Rattle.storage.specs.Records.{Stored, view, is_record}
use Rattle.storage.specs.Meaning.{Means, meaning}
use Rattle.storage.specs.Header.{wrong_length, wrong_header, too_long}
use Rattle.storage.specs.Values.{wrong_value}
use Rattle.storage.specs.Links.{wrong_link}
use Rattle.storage.specs.Children.{wrong_children}
use Rattle.storage.specs.FreeNumbers.{wrong_free}
use Rattle.storage.specs.Load.{checks, load_stored}
use Rattle.storage.specs.Theorems.{Sound, Meant, LoadsExactly, LoadingExact}
use Rattle.storage.proofs.Meaning.MeaningLaws.{meaning-complete}
use Rattle.storage.proofs.Meaning.SoundMeans.{sound-means}

-- No refusal is met, each by its name.
pub record Passes (S : Stored) (C : ℕ) : Type 0 where
  pub workspace_fits : wrong_workspace C ≡ false
  pub length_fits : wrong_length S ≡ false
  pub header-fits : wrong_header S ≡ false
  pub short_enough : too_long (view S) C ≡ false
  pub values_fit : wrong_value (view S) ≡ false
  pub links-fit : wrong_link (view S) ≡ false
  pub children-fit : wrong_children (view S) ≡ false
  pub free_numbers_fit : wrong_free (view S) ≡ false

pub passes : (S : Stored) (C : ℕ) → NoneMet (checks S C) → Passes S C
passes S C h = search rules

pub passes_unmet : (S : Stored) (C : ℕ) → Passes S C → NoneMet (checks S C)
passes_unmet S C p = search rules

-- What refusal 2 leaves.
pub header-words : (S : Stored) → wrong_header S ≡ false
    → (S.form.header_fits S.words ≡ true) × (is_record (view S) (view S).root ≡ true)
unfolding wrong_header
header-words S h = (and-eq-true_iff (S.form.header_fits S.words) (is_record (view S) (view S).root)).0 (not-false _ h)

pub passes_sound : (S : Stored) (C : ℕ) → Passes S C → Sound (view S)
passes_sound S C p =
    record {
      root_inside = (header-words S p.header-fits).1;
      values = p.values_fit;
      links = p.links-fit;
      children-fit = p.children-fit;
      free_numbers = p.free_numbers_fit;
    }

pub unmet_means : (S : Stored) (C : ℕ) → NoneMet (checks S C) → Meant (view S)
unmet_means S C h = sound-means (view S) (passes_sound S C (passes S C h))

never : ◌≡◌ {A = ℕ} 0 1 → ⊥
never e = omega arith

module _ (S : Stored) (workspace : List ℕ) where
  pub load_refused : (k : Refusal) → FirstMet k (checks S (length workspace)) → load_stored S workspace ≡ refuse workspace k
  unfolding load_stored
  load_refused k h = ap (λ o. bring_unless o (meaning (view S)) workspace) (first-met k (checks S (length workspace)) h)

  pub load_returned : NoneMet (checks S (length workspace)) → (t : Term) → Means (view S) term (view S).root t
      → load_stored S workspace ≡ record { answer = returned (size t); workspace = padded (length workspace) (words t) }
  unfolding load_stored
  load_returned h t m =
      ap (λ o. bring_unless o (meaning (view S)) workspace) (none_met (checks S (length workspace)) h)
      ∙ ap (place workspace) (meaning-complete (view S) t (passes S (length workspace) h).links-fit m)

  exact_refused : (k : Refusal) → FirstMet k (checks S (length workspace)) → LoadsExactly S workspace
  exact_refused k met =
      let first = first-met k (checks S (length workspace)) met in
      let answered : (load_stored S workspace).answer ≡ refused k = ap (λ r. r.answer) (load_refused k met) in
      record {
        refuses = λ j. (
          λ e. let same : k ≡ j = cc in rw same at met,
          λ f. let other = first-met j (checks S (length workspace)) f in let same : k ≡ j = cc in answered ∙ ap refused same,
        );
        unchanged = λ j e. ap (λ r. r.workspace) (load_refused k met);
        returns = λ l. (
          λ e. absurd (never (cc)),
          λ h. let other = none_met (checks S (length workspace)) h.0 in absurd (never (cc)),
        );
        holds = λ l e. absurd (never (cc));
      }

  exact_returned : NoneMet (checks S (length workspace)) → Meant (view S) → LoadsExactly S workspace
  exact_returned unmet t =
      let None-first = none_met (checks S (length workspace)) unmet in
      let loaded = load_returned unmet t.meant t.means in
      let answered : (load_stored S workspace).answer ≡ returned (size t.meant) = ap (λ r. r.answer) loaded in
      record {
        refuses = λ k. (
          λ e. absurd (never (cc)),
          λ f. let other = first-met k (checks S (length workspace)) f in absurd (never (cc)),
        );
        unchanged = λ k e. absurd (never (cc));
        returns = λ l. (
          λ e. let same : size t.meant ≡ l = cc in (unmet, sym t.length_is ∙ same),
          λ h. answered ∙ ap returned (t.length_is ∙ h.1),
        );
        holds = λ l e. let same : size t.meant ≡ l = cc in (
          t.meant,
          t.means,
          t.accepted,
          same,
          ap (λ r. r.workspace) loaded ∙ ap (λ n. words t.meant ++ replicate (length workspace - n) 0) same,
        );
      }

pub loading_exact : LoadingExact
loading_exact S workspace =
    elim (settled (checks S (length workspace))) [
      | inl s ↦ exact_refused S workspace s.0 s.1
      | inr s ↦ exact_returned S workspace s (unmet_means S (length workspace) s)
    ]
