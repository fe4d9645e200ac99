-- The table of an accepted term is in prefix order, means the term and meets no refusal.
use Prim.Native.Nat.{ℕ, suc, ◌+◌, ◌*◌, ◌≤◌}
use mathlib.Core.Path.{◌≡◌, refl, ap}
use mathlib.Core.Bool.{true, false}
use mathlib.Core.Logic.{if_pos}
use mathlib.Core.List.{◌∷◌}
use native.Mathlib.Omega.{arith}
use lib.ListN.{length}
use borrow.Author.Tests.{le-leb, le-ltb, eq-eqb}
use Rattle.calculus.specs.Term.{term, Term}
use Rattle.calculus.specs.Decide.{scoped?}
use Rattle.calculus.specs.Words.{size, workspace_most}
use Rattle.calculus.specs.Accepted.{Accepted}
use Rattle.calculus.proofs.WordLaws.{accepted_scoped, size_positive, accepted_packable}
use Rattle.calculus.proofs.Indices.{indices_bounded}
use Rattle.storage.specs.Records.{form1, record_at, in_form1, view, entry}
use Rattle.storage.specs.Meaning.{Means}
use Rattle.calculus.specs.Workspace.{wrong_workspace}
use Rattle.storage.specs.Header.{wrong_length, wrong_header}
use Rattle.storage.specs.Links.{wrong_link}
use Rattle.storage.specs.FreeNumbers.{wrong_free}
use Rattle.storage.specs.PrefixOrder.{nothing, InPrefixOrder}
use Rattle.storage.specs.Write.{records, table_of}
use Rattle.storage.proofs.Tests.{record_is_record}
use Rattle.storage.proofs.LinkRules.{linked_passes}
use Rattle.storage.proofs.Meaning.Nodes.{built}
use Rattle.storage.proofs.Meaning.MeaningLaws.{meaning-complete}
use Rattle.storage.proofs.Meaning.ChainMeaning.{term-not-branch}
use Rattle.storage.proofs.Fits.{Valued, valued-passes, Fitted, fitted_passes}
use Rattle.storage.proofs.LoadLaws.{Passes}
use Rattle.storage.proofs.Written.PrefixLinks.{prefix-linked}
use Rattle.storage.proofs.Written.Standing.{Stand, records-length, stand-next, stand-means, stand-fills}
use Rattle.storage.proofs.Written.StandingFits.{Fits, stand-fits}
use Rattle.storage.proofs.Written.TableWords.{recordsWords-length, words-stand}

pub tableOf-length : (t : Term) → length (table_of t) ≡ form1.record_words * (size t + 1)
tableOf-length t = omega (arith, recordsWords-length (records 1 0 t), records-length t 1 0)

module _ (t : Term) where
  standing : Stand (view (in_form1 (table_of t))) 1 (records 1 0 t)
  standing =
      (words-stand (entry form1.number (size t) 1 0 ∷ records 1 0 t) (view (in_form1 (table_of t))) 0
      (λ j. let same : 0 + j ≡ j = omega arith in ap (record_at (in_form1 (table_of t))) same)).1

  pub written-in-order : InPrefixOrder (view (in_form1 (table_of t)))
  written-in-order =
      let last : 1 + size t ≡ suc (size t) = omega arith in
      stand-fills (view (in_form1 (table_of t))) (built t) 1 0 standing (suc (size t)) (rw last nothing)

  module _ (accepted : Accepted 0 t) (fits : size t ≤ workspace_most) where
    pub written-means : Means (view (in_form1 (table_of t))) term 1 t
    written-means = stand-means (view (in_form1 (table_of t))) (built t) 1 0 (omega arith) (omega arith) (accepted_packable 0 t accepted) standing

    each_fits : (i : ℕ) → 1 ≤ i → i ≤ size t → Fits (view (in_form1 (table_of t))) i
    each_fits i l u =
        stand-fits (view (in_form1 (table_of t))) (prefix-linked (view (in_form1 (table_of t))) written-in-order) (built t) 1 0 0 (omega arith) (omega arith) accepted
        (indices_bounded t accepted fits) standing i l (omega arith)

    written-valued : Valued (view (in_form1 (table_of t)))
    written-valued = record { value-fits = λ i l u. (each_fits i l u).value-fits; declared-fits = λ i l u. refl }

    written-fitted : Fitted (view (in_form1 (table_of t)))
    written-fitted =
        record {
          declared_agrees = λ i l u. refl;
          children-fit = λ i l u. (each_fits i l u).children-fit;
          root_term = term-not-branch written-means;
          root_last = stand-next (view (in_form1 (table_of t))) (built t) 1 0 standing;
        }

    written-length : wrong_length (in_form1 (table_of t)) ≡ false
    unfolding wrong_length
    written-length =
        rw (
          le-ltb (length (table_of t)) form1.record_words (omega (arith, tableOf-length t)),
          le-leb 1 (size t) (size_positive t),
          le-leb (size t) workspace_most fits,
          eq-eqb (length (table_of t)) (form1.record_words * (size t + 1)) (tableOf-length t),
        )

    written-header : wrong_header (in_form1 (table_of t)) ≡ false
    unfolding wrong_header
    written-header = rw (record_is_record (view (in_form1 (table_of t))) 1 (omega arith) (size_positive t))

    written-links : wrong_link (view (in_form1 (table_of t))) ≡ false
    written-links = linked_passes (view (in_form1 (table_of t))) (prefix-linked (view (in_form1 (table_of t))) written-in-order)

    written-free : wrong_free (view (in_form1 (table_of t))) ≡ false
    written-free = rw (meaning-complete (view (in_form1 (table_of t))) t written-links written-means, if_pos (scoped? 0 t) (accepted_scoped 0 t accepted) true false)

    pub written-passes : (C : ℕ) → wrong_workspace C ≡ false → size t ≤ C → Passes (in_form1 (table_of t)) C
    written-passes C h u =
        record {
          workspace_fits = h;
          length_fits = written-length;
          header-fits = written-header;
          short_enough = le-ltb C (size t) u;
          values_fit = valued-passes (view (in_form1 (table_of t))) written-valued;
          links-fit = written-links;
          children-fit = fitted_passes (view (in_form1 (table_of t))) written-fitted;
          free_numbers_fit = written-free;
        }
