-- `table_at` meets its contract.
use Rattle.request.proofs.RequestLaws.{count_missing, too_many, words_missing, stands_there}
use mathlib.Core.Path.{sym}
use native.Mathlib.Omega.{arith}
use Rattle.request.proofs.table_at.Goals as goal
use Rattle.request.proofs.table_at.Goals.{then-words-gt-TABLE_MOST-via-then-words-gt-TABLE_MOST, then-words-gt-TABLE_MOST-via-else-words-gt-TABLE_MOST+then-ahead-words}

pub returns-then-ahead-lt-WORD_BYTES : goal.returns-then-ahead-lt-WORD_BYTES
returns-then-ahead-lt-WORD_BYTES c = sym (count_missing _ _ (omega arith))

pub returns-then-words-gt-TABLE_MOST : goal.returns-then-words-gt-TABLE_MOST
returns-then-words-gt-TABLE_MOST c =
    elim c.then-words-gt-TABLE_MOST.branch [
      | then-words-gt-TABLE_MOST-via-then-words-gt-TABLE_MOST w ↦ sym (too_many _ _ (omega (arith, c.word_at-words.ensures)))
      | then-words-gt-TABLE_MOST-via-else-words-gt-TABLE_MOST+then-ahead-words w ↦ sym (words_missing _ _ (omega (arith, c.word_at-words.ensures)))
    ]

pub returns : goal.returns
returns c =
    let w = c.word_at-words.ensures in
    rw w (sym (stands_there _ _ (record { few = omega (arith, w); inside = omega (arith, w) })))
