-- The computed examples hold.
use mathlib.Core.Path.{refl}
use mathlib.Core.Logic.Dec
use mathlib.Core.Option.{bind}
use native.Mathlib.Decide.{dec_lt}
use Rattle.calculus.specs.Decide.{both₃, is_tag?, starts_above?, rising?, everywhere?, tagged?, accepted?}
use Rattle.calculus.specs.Read.{take_term, take_terms, take_branches, read_lam, read_app, read_con, read_case, read_branch, item, items, one_term, read, only_term, any_term}
use Rattle.calculus.specs.Workspace.{term_at}
use Rattle.encoding.specs.Decoding.{words_in, decode}
use Rattle.encoding.specs.Encoded.{combinator?}
use Rattle.encoding.specs.Import.{import}
use Rattle.encoding.specs.Export.{export}
use Rattle.encoding.specs.Examples.{BitsExamples, BytesExamples, DecodingExamples, ImportExamples, ExportExamples}

pub bits_examples : BitsExamples
bits_examples =
    record {
      index_0 = refl;
      index_1 = refl;
      index_2 = refl;
      identity = refl;
      k = refl;
      s = refl;
      identity_of_k = refl;
      k_of_identity = refl;
    }

pub bytes_examples : BytesExamples
bytes_examples =
    record {
      byte_1 = refl;
      byte_32 = refl;
      byte_255 = refl;
      bytes_in_order = refl;
      no_bytes = refl;
      zeros_in_the_byte = refl;
      zeros_in_later_bytes = refl;
      whole_byte = refl;
      ninth_bit = refl;
      only_zeros = refl;
      ones = refl;
    }

pub decoding_examples : DecodingExamples
unfolding decode bind words_in any_term items item take_term read_lam read_app only_term
decoding_examples =
    record {
      index_0 = refl;
      index_2 = refl;
      identity = refl;
      two_indices = refl;
      application_first = refl;
      abstraction_first = refl;
      nothing = refl;
      half_a_sign = refl;
      no_body = refl;
      no_function = refl;
      no_argument = refl;
      one = refl;
      two_ones = refl;
      half_a_body = refl;
      ones_in_the_body = refl;
      half_an_argument = refl;
      ones_in_the_argument = refl;
      zero_left_over = refl;
      one_left_over = refl;
      term_left_over = refl;
      no_words_of_nothing = refl;
      no_words_of_a_run = refl;
      no_words_of_half_a_sign = refl;
    }

pub import_examples : ImportExamples
unfolding import decode bind words_in any_term items item take_term read_lam read_app only_term combinator? everywhere? Dec.and dec_lt
import_examples =
    record {
      identity = refl;
      zero_bytes_after = refl;
      k = refl;
      s = refl;
      identity_of_k = refl;
      whole_byte = refl;
      one_bit_in_a_byte = refl;
      count_one_less = refl;
      count_one_more = refl;
      count_of_all_bits = refl;
      no_bits = refl;
      no_bits_of_no_bytes = refl;
      lowest_bit_first = refl;
      padding_first_bit = refl;
      padding_last_bit = refl;
      padding_own_byte_of_two = refl;
      padding_next_byte = refl;
      padding_between = refl;
      padding_last_byte = refl;
      padding_far_behind = refl;
      count_past_a_term = refl;
      count_past_a_missing_zero = refl;
      count_past_zeros = refl;
      count_past_no_bytes = refl;
      words_15 = refl;
      words_2048 = refl;
      words_2049 = refl;
      fills = refl;
      one_too_long = refl;
      one_word_more = refl;
      open_alone = refl;
      open_under_one = refl;
      open_under_two = refl;
      bound_under_three = refl;
      open_argument = refl;
      open_function = refl;
      open_by_many = refl;
      open_32768 = refl;
      ones_63 = refl;
      ones_64 = refl;
      ones_65 = refl;
      ones_64_open = refl;
      largest_bound = refl;
      words_15_no_bits = refl;
      words_15_too_long = refl;
      words_15_open = refl;
      padding_too_long = refl;
      padding_open = refl;
      count_past_too_long = refl;
      count_past_open = refl;
      early_too_long = refl;
      left_over_too_long = refl;
      left_over_open = refl;
      too_long_open = refl;
    }

pub export_examples : ExportExamples
unfolding export term_at read bind items item take_term take_terms take_branches read_lam read_app read_con read_case read_branch one_term accepted? tagged? is_tag? rising? starts_above? both₃ combinator? everywhere? dec_lt
export_examples =
    record {
      identity = refl;
      zero_bytes_after = refl;
      words_after = refl;
      k = refl;
      s = refl;
      identity_of_k = refl;
      bits_8 = refl;
      bits_8_no_bytes = refl;
      bits_8_two_bytes = refl;
      bits_9 = refl;
      bits_9_one_byte = refl;
      no_bytes = refl;
      ones_64 = refl;
      ones_65 = refl;
      largest_bound = refl;
      largest_bound_one_byte_less = refl;
      words_15 = refl;
      words_2048 = refl;
      words_2049 = refl;
      length_0 = refl;
      length_one_less = refl;
      length_one_more = refl;
      length_C = refl;
      length_past_C = refl;
      constructor_alone = refl;
      constructor_of_identity = refl;
      constructor_inside = refl;
      constructor_applied = refl;
      constructor_as_argument = refl;
      case_alone = refl;
      case_with_a_branch = refl;
      case_inside = refl;
      case_applied = refl;
      case_as_argument = refl;
      numeral_alone = refl;
      numeral_inside = refl;
      numeral_applied = refl;
      numeral_as_argument = refl;
      open_alone = refl;
      open_by_255 = refl;
      open_under_one = refl;
      open_under_two = refl;
      bound_under_three = refl;
      open_argument = refl;
      open_function = refl;
      words_15_length_0 = refl;
      words_15_open = refl;
      words_15_no_bytes = refl;
      free_256 = refl;
      numeral_32 = refl;
      length_0_no_bytes = refl;
      open_no_bytes = refl;
      constructor_no_bytes = refl;
    }
