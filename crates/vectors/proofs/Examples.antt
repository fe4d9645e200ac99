-- What some bytes read as and which lines pass, by computation.
use mathlib.Core.Path.{refl}
use mathlib.Core.Logic.Dec
use mathlib.Core.Option.{bind, or_else}
use native.Mathlib.Decide.{ℕ_discrete, dec_le, dec_lt}
use Rattle.calculus.specs.Decide.{both₃, is_tag?, starts_above?, rising?, everywhere?, tagged?, scoped?, accepted?}
use Rattle.calculus.specs.Read.{take_term, take_terms, take_branches, read_lam, read_app, read_con, read_case, read_branch, item, items as readItems, one_term, read, only_term, any_term}
use Rattle.calculus.specs.Step.{first_step}
use Rattle.calculus.specs.Leftmost.{leftmost}
use Rattle.calculus.specs.Equality.{tree, from_trees, equal?}
use Rattle.calculus.specs.Workspace.{term_at}
use Rattle.calculus.specs.Rounds.{same, rounds_in, rounds_by}
use Rattle.claim.specs.Press.{press}
use Rattle.claim.specs.Showing.{show}
use Rattle.notation.specs.Reader.{sign, is_index, settle, on_digit, on_close, popped, on_begun, step, scan, finish, line_words, line_term}
use Rattle.notation.specs.Reading.{read_line}
use Rattle.storage.specs.Header.{wrong_length, wrong_header}
use Rattle.calculus.specs.Payload.{payload_fits}
use Rattle.storage.specs.Values.{value_fits, wrong_value}
use Rattle.storage.specs.Links.{namings, wrong_link}
use Rattle.storage.specs.Children.{children_fit, wrong_children}
use Rattle.storage.specs.Meaning.{term_of, meant_term, meant_terms, meant_branch, meant_branches, meant, meaning}
use Rattle.storage.specs.Load.{load_stored}
use Rattle.storage.specs.Write.{write}
use Rattle.text.specs.Bytes.{are_bytes}
use Rattle.vector_text.specs.Text.{past_space, starts_with, after, digits, number_at, setting_at}
use Rattle.vector_text.specs.Lists.{item_at, with_more, items, list_at, compared_at}
use Rattle.vector_text.specs.Compared.{agree, are_words}
use Rattle.vectors.specs.Pair.{verdict_at, given_at, lent_at, refused_after, counted_after, checked, press_step, shown_after, stepped, steps_from, opened_at, pair_run, pair_holds}
use Rattle.vectors.specs.Stored.{chain_from, table_at, is_last, is_table, writes_into, writes_back, brought_as, loaded_as, loading, load_holds, writes_words, write_holds}
use Rattle.vectors.specs.Typed.{reading, line_holds}
use Rattle.encoding.specs.Decoding.{words_in, decode}
use Rattle.encoding.specs.Encoded.{combinator?}
use Rattle.encoding.specs.Import.{import}
use Rattle.encoding.specs.Export.{export}
use Rattle.vectors.specs.Encoded.{exports_back, imported_as, importing, import_holds, exported_as, exports_words, export_holds}
use Rattle.vectors.specs.Vector.{passes, share_of}
use Rattle.vectors.specs.Examples.{ReadExamples, PassingExamples}

pub read_examples : ReadExamples
unfolding past_space starts_with after digits number_at setting_at item_at with_more items list_at chain_from share_of
read_examples =
    record {
      keyword = refl;
      keyword_cut = refl;
      keyword_nowhere = refl;
      number_largest = refl;
      number_above = refl;
      number_none = refl;
      number_behind_a_space = refl;
      number_behind_two = refl;
      setting = refl;
      setting_default = refl;
      list_fits = refl;
      list_over = refl;
      list_empty = refl;
      chain_of_two = refl;
      comment = refl;
      cut_off = refl;
    }

pub passing_examples : PassingExamples
unfolding past_space starts_with after digits number_at setting_at item_at with_more items list_at compared_at agree are_words verdict_at given_at lent_at refused_after counted_after checked press_step shown_after stepped steps_from opened_at pair_run pair_holds chain_from table_at is_last is_table writes_into writes_back brought_as loaded_as loading load_holds writes_words write_holds reading line_holds import export words_in decode combinator? exports_back imported_as importing import_holds exported_as exports_words export_holds passes are_bytes read_line line_term line_words scan step settle sign on_digit on_close is_index on_begun finish popped any_term only_term load_stored write wrong_length wrong_header payload_fits value_fits wrong_value namings wrong_link children_fit wrong_children term_of meant_term meant_terms meant_branch meant_branches meant meaning press show term_at read readItems item take_term take_terms take_branches read_lam read_app read_con read_case read_branch one_term accepted? scoped? everywhere? tagged? both₃ is_tag? starts_above? rising? Dec.and dec_le dec_lt bind or_else first_step leftmost tree from_trees equal? ℕ_discrete same rounds_in rounds_by
passing_examples =
    record {
      pressed_right = refl;
      other_verdict = refl;
      other_spent = refl;
      other_left = refl;
      other_right = refl;
      no_left = refl;
      surplus = refl;
      position_right = refl;
      other_position = refl;
      no_position = refl;
      no_number_of_a_position = refl;
      refused_right = refl;
      other_refusal = refl;
      shown_right = refl;
      other_shown = refl;
      nothing_shown = refl;
      loaded-right = refl;
      other_loaded = refl;
      nothing_loaded = refl;
      surplus_loaded = refl;
      unloaded_right = refl;
      other_unloaded = refl;
      surplus_unloaded = refl;
      read_right = refl;
      other_read = refl;
      fewer_read = refl;
      nothing_read = refl;
      surplus_read = refl;
      unread_right = refl;
      other_unread = refl;
      surplus_unread = refl;
      not_unread = refl;
      above_read = refl;
      above_unread = refl;
      imported_right = refl;
      other_imported = refl;
      fewer_imported = refl;
      nothing_imported = refl;
      surplus_imported = refl;
      unimported_right = refl;
      other_unimported = refl;
      surplus_unimported = refl;
      not_unimported = refl;
      exported_right = refl;
      other_count = refl;
      other_exported = refl;
      nothing_exported = refl;
      surplus_exported = refl;
      unexported_right = refl;
      other_unexported = refl;
      not_unexported = refl;
      above_imported = refl;
      above_unimported = refl;
      written_right = refl;
      other_written = refl;
      surplus_written = refl;
      no_keyword = refl;
      session = refl;
      session_total = refl;
      session_left = refl;
      session_right = refl;
      session_verdict = refl;
      answer = refl;
      answer_spent = refl;
      answer_left = refl;
      answer_right = refl;
      answer_position = refl;
      answer_verdict = refl;
      answer_refused = refl;
      not_refused = refl;
      lent = refl;
      lent_left = refl;
      lent_right = refl;
      lent_scratch = refl;
      lent_last = refl;
      refused_kept = refl;
      refused_words = refl;
      refused_session = refl;
      counted_renewed = refl;
      counted_words = refl;
      counted_session = refl;
      unloaded_kept = refl;
      unloaded_changed = refl;
      unread_kept = refl;
      unread_changed = refl;
      unimported_kept = refl;
      unimported_changed = refl;
      encoding_written = refl;
      encoding_count = refl;
      encoding_byte = refl;
      encoding_longer = refl;
      encoding_missing = refl;
      encoding_again = refl;
      encoding_again_count = refl;
      encoding_again_byte = refl;
      encoding_again_missing = refl;
      unexported_kept = refl;
      unexported_changed = refl;
      unwritten_kept = refl;
      unwritten_changed = refl;
    }
