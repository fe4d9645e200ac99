-- What reading makes of the records that hang at a link ("The stored table": term and chain are read by turns): the words of the term that
-- the records mean. A record is read with the chain of its children; its next sibling is read after it.
use Rattle.std.specs.Prelude.{ℕ, suc, ◌-◌, ◌≡◌, false, cond, List, [], ◌∷◌, ◌++◌, eqb, length}
use Rattle.calculus.specs.Words.{word}
use Rattle.storage.specs.Records.{Table, Stored, view, hanging}
use Rattle.storage.specs.Payload.{payload}
use Rattle.storage.specs.Values.{wrong_value}
use Rattle.storage.specs.Children.{children, wrong_children}
use Rattle.records.specs.Preconditions.{Walkable}

-- How many records are still ahead at a link: the one that it names and all after it.
abbrev pub ahead : Table → (link : ℕ) → ℕ
ahead T l = cond (eqb l 0) 0 (suc T.n - l)

-- The word of a record.
abbrev pub record_word : Table → ℕ → ℕ
record_word T i = word (T.at i).kind (payload (T.at i).kind (T.at i).value (length (children T i)))

-- The words of a chain, and those of a record with its children.
unfoldable pub chain_words : Table → (link : ℕ) → List ℕ
chain_words T l = hanging T [] (λ i below after. record_word T i ∷ (below ++ after)) T.n l

abbrev pub term_words : Table → ℕ → List ℕ
term_words T i = record_word T i ∷ chain_words T (T.at i).first

-- A link into a table that has passed refusals 3 to 5.
pub record Readable (S : Stored) (link : ℕ) : Type 0 where
  pub walkable : Walkable S link
  pub values_fit : wrong_value (view S) ≡ false
  pub children-fit : wrong_children (view S) ≡ false
