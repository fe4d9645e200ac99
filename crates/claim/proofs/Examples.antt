-- What showing hands back, by computation.
use mathlib.Core.Path.{refl}
use mathlib.Core.Logic.Dec
use mathlib.Core.Option.{bind, or_else}
use native.Mathlib.Decide.{dec_le, dec_lt}
use Rattle.calculus.specs.Decide.{both₃, is_tag?, starts_above?, rising?, everywhere?, tagged?, accepted?}
use Rattle.calculus.specs.Read.{take_term, take_terms, take_branches, read_lam, read_app, read_con, read_case, read_branch, item, items, one_term, read}
use Rattle.calculus.specs.Workspace.{term_at}
use Rattle.claim.specs.Showing.{show}
use Rattle.claim.specs.Examples.{ShownExamples}

pub shown_examples : ShownExamples
unfolding show term_at read items item take_term take_terms take_branches read_lam read_app read_con read_case read_branch one_term accepted? everywhere? tagged? both₃ is_tag? starts_above? rising? Dec.and dec_le dec_lt bind or_else
shown_examples =
    record {
      left_shorter = refl;
      right_shorter = refl;
      equal_lengths = refl;
      equal_words = refl;
      refused_too_short = refl;
      refused_too_long = refl;
      refused_left_shorter = refl;
      refused_right_shorter = refl;
      refused_left = refl;
      refused_left_equal = refl;
      refused_right = refl;
      refused_right_equal = refl;
    }
