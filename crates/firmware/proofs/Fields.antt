-- What C sees of each answer, by computation.
use mathlib.Core.Path.{refl}
use Rattle.firmware.specs.Numbers.{AnswerInWords}
use Rattle.firmware.specs.Calls.{SeenFields}

pub answer_in_words : AnswerInWords
answer_in_words v s l r p = refl

pub seen_fields : SeenFields
seen_fields =
    record {
      count_returned = λ count n. refl;
      count_refused = λ count why. refl;
      brought = λ count a workspace. refl;
      written = λ count a table. refl;
      exported = λ count a bytes. refl;
      press_shown = λ session answer a l r s scratch. refl;
      press_refused = λ session answer why l r s scratch. refl;
      press_from = λ session answer l r call. refl;
      left_part = λ n. refl;
      right_part = λ n. refl;
    }
