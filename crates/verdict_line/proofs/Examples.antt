-- What is printed for some bytes, by computation.
use mathlib.Core.Path.{refl}
use mathlib.Core.Logic.Dec
use mathlib.Core.Option.{bind, or_else}
use native.Mathlib.Decide.{ℕ_discrete, dec_le, dec_lt}
use Rattle.calculus.specs.Decide.{both₃, is_tag?, starts_above?, rising?, everywhere?, tagged?, scoped?, accepted?}
use Rattle.calculus.specs.Read.{take_term, take_terms, take_branches, read_lam, read_app, read_con, read_case, read_branch, item, items, one_term, read}
use Rattle.calculus.specs.Step.{first_step}
use Rattle.calculus.specs.Leftmost.{leftmost}
use Rattle.calculus.specs.Equality.{tree, from_trees, equal?}
use Rattle.calculus.specs.Workspace.{term_at}
use Rattle.calculus.specs.Rounds.{same, rounds_in, rounds_by}
use Rattle.claim.specs.Press.{press}
use Rattle.storage.specs.Header.{wrong_length, wrong_header}
use Rattle.calculus.specs.Payload.{payload_fits}
use Rattle.storage.specs.Values.{value_fits, wrong_value}
use Rattle.storage.specs.Links.{namings, wrong_link}
use Rattle.storage.specs.Children.{children_fit, wrong_children}
use Rattle.storage.specs.Meaning.{term_of, meant_term, meant_terms, meant_branch, meant_branches, meant, meaning}
use Rattle.storage.specs.Load.{load_stored}
use Rattle.text.specs.Bytes.{words_of}
use Rattle.text.specs.Decimal.{digits, decimal}
use Rattle.request.specs.Request.{request}
use Rattle.verdict_line.specs.Line.{printed}
use Rattle.verdict_line.specs.Examples.{bytes_of, PrintedExamples}

pub printed_examples : PrintedExamples
unfolding printed request words_of bytes_of digits decimal load_stored wrong_length wrong_header payload_fits value_fits wrong_value namings wrong_link children_fit wrong_children term_of meant_term meant_terms meant_branch meant_branches meant meaning press term_at read items item take_term take_terms take_branches read_lam read_app read_con read_case read_branch one_term accepted? scoped? everywhere? tagged? both₃ is_tag? starts_above? rising? Dec.and dec_le dec_lt bind or_else first_step leftmost tree from_trees equal? ℕ_discrete same rounds_in rounds_by
printed_examples =
    record {
      same = refl;
      different = refl;
      different-at-1 = refl;
      budget = refl;
      full = refl;
      refused_left = refl;
      refused_workspace = refl;
      refused_budget = refl;
      no_bytes = refl;
      byte_missing = refl;
      byte_surplus = refl;
      count_at_limit = refl;
      count_above = refl;
    }
