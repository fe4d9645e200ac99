-- The examples of loading and writing, by computation.
use Prim.Native.Nat.{ℕ}
use mathlib.Core.Path.{◌≡◌, refl}
use mathlib.Core.Logic.Dec
use mathlib.Core.Option.{bind}
use native.Mathlib.Decide.{dec_le, dec_lt}
use native.Mathlib.Omega.{arith}
use Rattle.calculus.specs.Decide.{both₃, is_tag?, starts_above?, rising?, everywhere?, tagged?, scoped?, accepted?}
use Rattle.calculus.specs.Read.{take_term, take_terms, take_branches, read_lam, read_app, read_con, read_case, read_branch, item, items, one_term, read}
use Rattle.calculus.specs.Workspace.{term_at}
use Rattle.storage.specs.Records.{view, in_form1}
use Rattle.storage.specs.Meaning.{term_of, meant_term, meant_terms, meant_branch, meant_branches, meant, meaning}
use Rattle.storage.specs.Header.{wrong_length, wrong_header}
use Rattle.calculus.specs.Payload.{payload_fits}
use Rattle.storage.specs.Values.{value_fits, wrong_value}
use Rattle.storage.specs.Links.{namings, wrong_link}
use Rattle.storage.specs.Children.{children_fit, wrong_children}
use Rattle.storage.specs.Load.{load_stored}
use Rattle.storage.specs.PrefixOrder.{InPrefixOrder, nothing, chained}
use Rattle.storage.specs.Write.{write}
use Rattle.storage.specs.Examples.{table, applied, LoadingExamples, WritingExamples, MeaningExamples}
use Rattle.storage.proofs.Written.PrefixStanding.{fills_first, record-fills}

pub loading_examples : LoadingExamples
unfolding load_stored meaning meant meant_term meant_terms meant_branch meant_branches term_of wrong_length wrong_header payload_fits value_fits wrong_value namings wrong_link children_fit wrong_children bind everywhere? scoped? Dec.and dec_le dec_lt both₃
loading_examples =
    record {
      order = λ S C. refl;
      identity_loads = refl;
      other_order_loads = refl;
      case_loads = refl;
      numerals_load = refl;
      workspace_of_15 = (refl, refl);
      a_word_too_many = (refl, refl);
      a_word_too_few = (refl, refl);
      no_header = (refl, refl);
      no_record = (refl, refl);
      records_2048 = (refl, refl);
      records_2049 = (refl, refl);
      form_2 = (refl, refl);
      form_0 = (refl, refl);
      last_header_word = (refl, refl);
      root_outside = (refl, refl);
      root_0 = (refl, refl);
      as_long_as_workspace = refl;
      longer_than_workspace = (refl, refl);
      kind_7 = (refl, refl);
      index_32767 = (refl, refl);
      index_32768 = (refl, refl);
      tag_0 = (refl, refl);
      tag_1 = refl;
      tag_255 = refl;
      tag_256 = (refl, refl);
      default_loads = refl;
      branch_tag_0_bound_1 = (refl, refl);
      branch_tag_0_bound_15 = (refl, refl);
      branch_tag_1 = refl;
      branch_tag_255 = refl;
      branch_tag_256 = (refl, refl);
      numeral_31 = refl;
      numeral_32 = (refl, refl);
      abstraction_with_value = (refl, refl);
      application_with_value = (refl, refl);
      case_with_value = (refl, refl);
      link_to_itself = (refl, refl);
      link_to_itself_alone = (refl, refl);
      child_before_its_parent = (refl, refl);
      next_before_its_sibling = (refl, refl);
      link_outside = (refl, refl);
      link_outside_alone = (refl, refl);
      named_by_none = (refl, refl);
      named_twice = (refl, refl);
      variable_with_a_child = (refl, refl);
      numeral_with_a_child = (refl, refl);
      arguments_15 = refl;
      arguments_16 = refl;
      no_subject = refl;
      no_branches = refl;
      branches_15 = refl;
      branches_16 = refl;
      root_with_a_next = (refl, refl);
      root_a_branch = (refl, refl);
      equal_tags = (refl, refl);
      default_first = refl;
      default_second = (refl, refl);
      two_defaults = (refl, refl);
      free_number_255 = refl;
      free_number_256 = (refl, refl);
      workspace_before_length = (refl, refl);
      length_before_header = (refl, refl);
      header_before_too_long = (refl, refl);
      too_long_before_values = (refl, refl);
      values_before_links = (refl, refl);
      links_before_children = (refl, refl);
      children_before_free_numbers = (refl, refl);
      all_values_before_links = (refl, refl);
      all_links_before_children = (refl, refl);
      all_children_before_free_numbers = (refl, refl);
    }

pub writing_examples : WritingExamples
unfolding write term_at bind read items item take_term take_terms take_branches read_lam read_app read_con read_case read_branch one_term accepted? everywhere? tagged? both₃ is_tag? starts_above? rising? Dec.and dec_le dec_lt
writing_examples =
    record {
      identity_written = refl;
      other_order_written_anew = refl;
      case_written = refl;
      numerals_written = refl;
      default_written = refl;
      write_workspace_of_15 = (refl, refl);
      write_no_term = (refl, refl);
      write_numeral_32 = (refl, refl);
      write_length_0 = (refl, refl);
      write_length_17 = (refl, refl);
      write_table_too_long = (refl, refl);
      write_table_too_short = (refl, refl);
      write_workspace_before_term = (refl, refl);
      write_term_before_length = (refl, refl);
    }

not_in_order : InPrefixOrder (view (in_form1 (table applied))) → ⊥
not_in_order order =
    let root = (record-fills (omega arith) order).1 in
    let function = (record-fills (omega arith) root.1).1 in
    let body : ◌≡◌ {A = ℕ} 4 3 = fills_first (omega arith) function.1 in
    omega arith

pub meaning_examples : MeaningExamples
unfolding meaning meant meant_term meant_terms meant_branch meant_branches term_of bind
meaning_examples =
    record {
      abstraction_with_value_means_none = refl;
      application_with_value_means_none = refl;
      case_with_value_means_none = refl;
      child_of_a_variable_means_none = refl;
      child_of_a_numeral_means_none = refl;
      two_bodies_mean_none = refl;
      three_parts_mean_none = refl;
      branch_means_none = refl;
      in_order = chained (chained nothing nothing) nothing;
      not_in_order = not_in_order;
    }
