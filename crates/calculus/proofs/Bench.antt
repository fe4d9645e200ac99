-- The starred bench pairs, the edges of the rules and their numbers hold, by computation.
use mathlib.Core.Path.{refl}
use mathlib.Core.Logic.Dec
use mathlib.Core.Option.{bind, or_else}
use native.Mathlib.Decide.{ℕ_discrete, dec_le, dec_lt}
use native.Mathlib.Omega.{arith}
use Rattle.calculus.specs.Decide.{both₃, is_tag?, starts_above?, rising?, everywhere?, tagged?, accepted?}
use Rattle.calculus.specs.Read.{take_term, take_terms, take_branches, read_lam, read_app, read_con, read_case, read_branch, item, items, one_term, read}
use Rattle.calculus.specs.Step.{first_step}
use Rattle.calculus.specs.Leftmost.{leftmost}
use Rattle.calculus.specs.Equality.{tree, from_trees, equal?}
use Rattle.calculus.specs.Rounds.{same, rounds_in, rounds_by}
use Rattle.calculus.specs.Bench.{Starred, contracted, judged}
use Rattle.calculus.specs.Boundaries.{Boundaries}
use Rattle.calculus.specs.Numbers.{Numbers}

pub starred : Starred
unfolding contracted judged read items item take_term take_terms take_branches read_lam read_app read_con read_case read_branch one_term accepted? everywhere? tagged? both₃ is_tag? starts_above? rising? Dec.and dec_le dec_lt bind or_else first_step leftmost tree from_trees equal? ℕ_discrete same rounds_in rounds_by
starred =
    record {
      one_contraction = refl;
      first_of_two = refl;
      second_of_two = refl;
      same_within_budget = refl;
      budget_one_short = refl;
      free_variables_differ = refl;
      loop-against-itself = refl;
      loop-runs-to-budget = refl;
      loop-thrown-away = refl;
      argument_raised = refl;
      no_eta = refl;
      branch_of_the_tag = refl;
      last_argument_is_index_0 = refl;
      other_count_is_stuck = refl;
    }

pub boundaries : Boundaries
unfolding contracted judged read items item take_term take_terms take_branches read_lam read_app read_con read_case read_branch one_term accepted? everywhere? tagged? both₃ is_tag? starts_above? rising? Dec.and dec_le dec_lt bind or_else first_step leftmost tree from_trees equal? ℕ_discrete same rounds_in rounds_by
boundaries =
    record {
      both_move_within_budget = refl;
      both_move_one_short = refl;
      right_alone_moves = refl;
      budget_before_full = refl;
      full = refl;
      next_term_of_C_words = refl;
      left_too_long = refl;
      right_too_long = refl;
      right_too_long_one_short = refl;
      right_alone_too_long = refl;
      differ_at_the_last_word_of_the_shorter = refl;
      differ_before_a_second_difference = refl;
      position_of_the_current_terms = refl;
      no_position_with_same = refl;
      no_position_with_budget = refl;
      no_position_with_full = refl;
      no_words_compared = refl;
      equal_words_compared = refl;
      left_is_the_start = refl;
      right_is_the_start = refl;
      free_255 = refl;
      free_256 = refl;
      tag_1 = refl;
      tag_0 = refl;
      tag_255 = refl;
      tag_256 = refl;
      branch_tag_255 = refl;
      branch_tag_256 = refl;
      arguments_15 = refl;
      bound_15 = refl;
      bound_15_free_256 = refl;
      branches_15 = refl;
      branches_16 = refl;
      default_read = refl;
      branch_tag_0_bound_1 = refl;
      branch_tag_0_bound_15 = refl;
      tag_0_with_an_argument = refl;
      tag_0_with_15_arguments = refl;
      tag_0_before_a_default = refl;
      default_first = refl;
      default_second = refl;
      two_defaults = refl;
      default_and_14 = refl;
      default_and_15 = refl;
      default_free_255 = refl;
      default_free_256 = refl;
      tags_equal = refl;
      tags_rising = refl;
      tags_fall_after_rise = refl;
      abstraction_free_255 = refl;
      abstraction_free_256 = refl;
      branch_in_abstraction_free_255 = refl;
      branch_in_abstraction_free_256 = refl;
      tag_selects = refl;
      tag_missing = refl;
      case_argument_raised = refl;
      case_index_lowered = refl;
      arguments_3_in_order = refl;
      case_arguments_3 = refl;
      arguments_15_in_order = refl;
      case_arguments_15 = refl;
      constructor_applied = refl;
      redex_in_later_argument = refl;
      redex_in_subject = refl;
      redex_in_later_branch = refl;
      default_taken = refl;
      default_for_another_tag = refl;
      default_for_a_lower_tag = refl;
      listed_tag_beside_a_default = refl;
      fewer_arguments_beside_a_default = refl;
      more_arguments_beside_a_default = refl;
      default_drops_arguments = refl;
      default_lowers_nothing = refl;
      default_before_an_endless_argument = refl;
      no_default_for_a_variable = refl;
      no_default_for_an_abstraction = refl;
      no_default_for_an_application = refl;
      no_default_for_a_case = refl;
      no_default_for_a_numeral = refl;
      redex_in_default_first = refl;
      argument_put_into_a_default = refl;
      default_against_its_body = refl;
      stuck_beside_a_default = refl;
      default_in_second_place = refl;
      listed_before_a_later_default = refl;
      first_of_two_defaults = refl;
      first_of_equal_tags = refl;
      first_of_equal_tags_is_stuck = refl;
      tag_0_that_binds = refl;
      tag_0_that_binds_is_no_default = refl;
      tag_0_takes_the_default = refl;
      numeral_0 = refl;
      numeral_2 = refl;
      numeral_31 = refl;
      numeral_32 = refl;
      no_kind_7 = refl;
      numeral_applied = refl;
      numeral_as_subject = refl;
      numeral_in_later_branch = refl;
      numeral_thrown_away = refl;
      numeral_behind_a_redex = refl;
      numeral_under_a_binder = refl;
      numeral_put_under_a_binder = refl;
      numeral_against_its_term = refl;
      numeral_against_itself = refl;
      numeral_is_not_normal = refl;
      numeral_of_C_words = refl;
      numeral_too_long = refl;
      closed_under_two = omega arith;
      open_under_two = λ h. omega (arith, h);
    }

pub numbers : Numbers
numbers = record { kinds = refl; bases = refl; workspaces = refl; limits = refl; refusals = refl; verdicts = refl }
