-- What C sees of some calls, by computation.
use mathlib.Core.Path.{refl}
use mathlib.Core.Logic.Dec
use mathlib.Core.Option.{bind, or_else}
use native.Mathlib.Decide.{ℕ_discrete, dec_lt}
use Rattle.calculus.specs.Decide.{everywhere?, scoped?, accepted?}
use Rattle.calculus.specs.Read.{take_term, read_lam, read_app, item, items, one_term, read, only_term, any_term}
use Rattle.calculus.specs.Step.{first_step}
use Rattle.calculus.specs.Leftmost.{leftmost}
use Rattle.calculus.specs.Equality.{tree, from_trees, equal?}
use Rattle.calculus.specs.Workspace.{term_at}
use Rattle.calculus.specs.Rounds.{same, rounds_in, rounds_by}
use Rattle.claim.specs.Press.{press}
use Rattle.claim.specs.Showing.{show}
use Rattle.storage.specs.Load.{load_stored}
use Rattle.storage.specs.Write.{write}
use Rattle.notation.specs.Reader.{sign, is_index, settle, on_digit, on_begun, step, scan, finish, line_words, line_term}
use Rattle.notation.specs.Reading.{read_line}
use Rattle.encoding.specs.Decoding.{words_in, decode}
use Rattle.encoding.specs.Encoded.{combinator?}
use Rattle.encoding.specs.Import.{import}
use Rattle.encoding.specs.Export.{export}
use Rattle.firmware.specs.Examples.{CountExamples, PressExamples, SideExamples}

pub count_examples : CountExamples
unfolding read_line line_term line_words scan step settle sign on_digit is_index on_begun finish any_term only_term scoped? load_stored import decode words_in write export term_at read items item take_term read_lam one_term accepted? everywhere? combinator? dec_lt bind
count_examples =
    record {
      line = refl;
      line_refused = refl;
      load_refused = refl;
      import_refused = refl;
      written = refl;
      write_refused = refl;
      exported = refl;
      export_refused = refl;
    }

pub press_examples : PressExamples
unfolding press term_at read items item take_term read_lam read_app one_term accepted? everywhere? Dec.and dec_lt bind or_else first_step leftmost tree from_trees equal? ℕ_discrete same rounds_in rounds_by
press_examples =
    record {
      same = refl;
      different = refl;
      budget = refl;
      full = refl;
      refused = refl;
      refused_on_the_right = refl;
      fresh_words = refl;
    }

pub side_examples : SideExamples
unfolding show term_at read items item take_term read_lam read_app one_term accepted? everywhere? Dec.and dec_lt bind
side_examples = record { left_shorter = refl; right_shorter = refl; equal_lengths = refl; refused = refl }
