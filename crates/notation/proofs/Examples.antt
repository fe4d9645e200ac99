-- The computed examples hold.
use Prim.Native.Nat.{ℕ}
use mathlib.Core.Path.{◌≡◌, refl, sym, ◌∙◌}
use mathlib.Core.List.{List, [], ◌∷◌}
use mathlib.Core.Option.{Option, some, none, bind, none-ne-some}
use mathlib.Core.Logic.Dec
use native.Mathlib.Decide.{dec_le}
use Rattle.calculus.specs.Term.{Term}
use Rattle.calculus.specs.Decide.{everywhere?, scoped?}
use Rattle.calculus.specs.Read.{items, item, take_term, read_lam, read_app, only_term, any_term}
use Rattle.notation.specs.Reader.{sign, is_index, settle, on_digit, on_close, popped, on_begun, step, scan, finish, line_words, line_term}
use Rattle.notation.specs.Reading.{read_line}
use Rattle.notation.specs.Examples.{Gives, AllGive, lines, GrammarExamples, ReadingExamples}
use Rattle.notation.proofs.TermLaws.{line_exact, line_complete}

gives : (line : List ℕ) (o : Option Term) → line_term line ≡ o → Gives line o
gives line (some t) e = (line_exact line t).0 e
gives line none e = λ t l. none-ne-some t (sym e ∙ line_complete l)

abbrev found : List (List ℕ × Option Term) → List (Option Term)
found [] = []
found (l ∷ ls) = line_term l.0 ∷ found ls

abbrev expected : List (List ℕ × Option Term) → List (Option Term)
expected [] = []
expected (l ∷ ls) = l.1 ∷ expected ls

all_give : (ls : List (List ℕ × Option Term)) → found ls ≡ expected ls → AllGive ls
all_give [] e = tt
all_give (l ∷ ls) e = (gives l.0 l.1 (cc), all_give ls (cc))

pub grammar_examples : GrammarExamples
unfolding line_term bind line_words scan step settle sign on_digit on_close is_index on_begun finish items popped item read_app read_lam any_term only_term take_term
grammar_examples = all_give lines refl

pub reading_examples : ReadingExamples
unfolding read_line line_term bind line_words scan step settle sign on_digit on_close is_index on_begun finish items popped item read_app read_lam any_term only_term take_term scoped? everywhere? Dec.and dec_le
reading_examples =
    record {
      term_and_zeros = refl;
      no_bytes = refl;
      one_byte = refl;
      words_15 = refl;
      words_2049 = refl;
      free_255 = refl;
      free_256 = refl;
      free_255_bound = refl;
      free_256_bound = refl;
      free_32767 = refl;
      index_32768 = refl;
      fills = refl;
      one_too_long = refl;
      free_and_long = refl;
      bytes_1024 = refl;
      bytes_1025 = refl;
      bytes_and_free_and_long = refl;
    }
