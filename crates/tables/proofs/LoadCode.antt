-- Loading by what judging tells: a refusal is answered, and words that were read are those of the term that the table means.
use Prim.Native.Nat.{ℕ, ◌≤◌}
use mathlib.Core.Path.{◌≡◌, sym, ap, ◌∙◌}
use mathlib.Core.Bool.{false}
use mathlib.Core.List.{List}
use mathlib.Core.Option.{none}
use native.Mathlib.Omega.{arith}
use lib.ListN.{length}
use lib.Seq.{slice}
use borrow.Author.Tests.{ltb-false}
use Rattle.calculus.specs.Words.{words, workspace_most}
use Rattle.calculus.specs.Refusal.{Refusal}
use Rattle.calculus.specs.Workspace.{wrong_workspace}
use Rattle.calculus.specs.Bringing.{Result, refused, returned, first_met, NoneMet, refuse, hold, bring_unless}
use Rattle.calculus.proofs.BringingLaws.{none_first}
use Rattle.words.specs.Placed.{Copies}
use Rattle.words.proofs.RoomLaws.{room_length}
use Rattle.storage.specs.Records.{Stored, view}
use Rattle.records.specs.Counting.{room_most}
use Rattle.storage.proofs.LinkRules.{linked}
use Rattle.storage.proofs.RecordLaws.{sized}
use Rattle.transcription.specs.Reading.{term_words}
use Rattle.storage.specs.Load.{table_checks, checks, load_stored}
use Rattle.tables.specs.Judging.{Judged}
use Rattle.storage.specs.Meaning.{meaning}
use Rattle.storage.specs.Theorems.{Meant}
use Rattle.tables.proofs.JudgingLaws.{unless_refused, unless_returned}
use Rattle.storage.proofs.LoadLaws.{Passes, passes, unmet_means, load_returned}
use Rattle.tables.proofs.ReadingMeaning.{means_spelled}

module _ (S : Stored) (workspace : List ℕ) (w : wrong_workspace (length workspace) ≡ false) {before after : List ℕ} {answer : Result}
    (j : Judged (view S) (table_checks S (length workspace)) before answer after) where
  first : first_met (checks S (length workspace)) ≡ first_met (table_checks S (length workspace))
  first = rw w

  pub judged_refuses : (why : Refusal) → answer ≡ refused why → refuse workspace why ≡ load_stored S workspace
  unfolding load_stored
  judged_refuses why e =
      sym (ap (λ o. bring_unless o (meaning (view S)) workspace) (first ∙ unless_refused (first_met (table_checks S (length workspace))) (view S).n why (sym e ∙ j.answers)))

  module _ (end : ℕ) (e : answer ≡ returned end) (room : length before ≡ room_most) where
    told : (first_met (table_checks S (length workspace)) ≡ none) × (end ≡ (view S).n)
    told = unless_returned (first_met (table_checks S (length workspace))) (view S).n end (sym e ∙ j.answers)

    unmet : NoneMet (checks S (length workspace))
    unmet = none_first (checks S (length workspace)) (first ∙ told.0)

    passed : Passes S (length workspace)
    passed = passes S (length workspace) unmet

    short : (view S).n ≤ workspace_most
    short = (sized S passed.length_fits).1

    -- They can be put into the workspace.
    pub judged_fits : Copies after 0 end workspace 0
    judged_fits =
        record {
          ordered = omega arith;
          within = omega (arith, told.1, short, room_length j.room, room);
          fits = omega (arith, told.1, ltb-false (length workspace) (view S).n passed.short_enough);
        }

    meant : Meant (view S)
    meant = unmet_means S (length workspace) unmet

    spelled : term_words (view S) (view S).root ≡ words meant.meant
    spelled = means_spelled (view S) (linked (view S) passed.links-fit) meant.means

    pub judged_loads : hold workspace (slice 0 end after) ≡ load_stored S workspace
    judged_loads =
        ap (hold workspace) (ap (λ n. slice 0 n after) told.1 ∙ j.reads told.0 ∙ spelled)
        ∙ sym (load_returned S workspace unmet meant.meant meant.means)
