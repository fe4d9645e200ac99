-- Lists of words at a position of a line: words with commas between them, `times*word` for equal ones; `-` for no words.
use Rattle.std.specs.Prelude.{ℕ, zero, suc, ◌+◌, ◌*◌, Bool, cond, List, [], ◌∷◌, eqb, leb, length, replicate}
use Rattle.std.proofs.lemmas.List.Edits.{sets}
use Rattle.calculus.specs.Words.{workspace_most}
use Rattle.storage.specs.Records.{form1}
use Rattle.vector_text.specs.Text.{nowhere, after, number_at}
use Rattle.vector_text.specs.Compared.{are_words}

abbrev pub star : List ℕ
star = 42 ∷ []

abbrev pub comma : List ℕ
comma = 44 ∷ []

abbrev pub dash : List ℕ
dash = 45 ∷ []

-- The words of the longest list that is compared: a table one record longer than the largest.
abbrev pub list_most : ℕ
list_most = form1.record_words * (workspace_most + 2)

-- Equal words of a list, one after the other.
pub record Item : Type 0 where
  pub times : ℕ
  pub word : ℕ
  pub next : ℕ

-- A word, or a number of times and a word.
unfoldable pub item_at : List ℕ → (at : ℕ) → Item
item_at text at =
    let first = number_at text at in
    let from = after text first.next star in
    let second = number_at text from in
    cond (eqb from nowhere) (record { times = 1; word = first.value; next = first.next })
    (record { times = first.value; word = second.value; next = second.next })

-- Lent words, how many of them the items so far have put there, and where reading goes on.
pub record Listed : Type 0 where
  pub words : List ℕ
  pub count : ℕ
  pub next : ℕ

abbrev pub listed_of : (words : List ℕ) (count next : ℕ) → Listed
listed_of ws count next = record { words = ws; count = count; next = next }

abbrev pub unlisted : List ℕ → Listed
unlisted ws = record { words = ws; count = 0; next = nowhere }

-- One item more, where it fits.
unfoldable pub with_more : List ℕ → Listed → Listed
with_more text l =
    let i = item_at text l.next in
    cond (leb (l.count + i.times) (length l.words))
    (record {
      words = sets l.words l.count (replicate i.times i.word);
      count = l.count + i.times;
      next = i.next;
    })
    (unlisted l.words)

-- Items until no comma follows, at most `turns` of them.
unfoldable pub items : (turns : ℕ) → List ℕ → Listed → Listed
items zero text l = l
items (suc k) text l =
    let m = with_more text l in
    let from = after text m.next comma in
    cond (eqb from nowhere) m (items k text (record { words = m.words; count = m.count; next = from }))

-- A list has fewer items than its line has bytes.
unfoldable pub list_at : List ℕ → (at : ℕ) → (words : List ℕ) → Listed
list_at text at ws =
    let none = after text at dash in
    cond (eqb none nowhere) (items (length text) text (record { words = ws; count = 0; next = at }))
    (record { words = ws; count = 0; next = none })

-- Words beside a list: whether they are its words and then a tail of equal ones, how many it has, and where reading goes on.
pub record Compared : Type 0 where
  pub equal : Bool
  pub count : ℕ
  pub next : ℕ

-- Words beside the list at a position: whether they are its words and then a tail of equal ones.
abbrev pub compared_with : Listed → (words : List ℕ) (tail : ℕ) → Compared
compared_with l ws tail = record { equal = are_words ws l.words l.count tail; count = l.count; next = l.next }

unfoldable pub compared_at : List ℕ → (at : ℕ) → (words : List ℕ) (tail : ℕ) → Compared
compared_at text at ws tail = compared_with (list_at text at (replicate list_most 0)) ws tail
