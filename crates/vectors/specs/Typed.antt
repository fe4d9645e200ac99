-- What a line of reading says.
use Rattle.std.specs.Prelude.{ℕ, min, Bool, false, cond, List, take, replicate}
use Rattle.calculus.specs.Bringing.{Brought}
use Rattle.notation.specs.Reading.{read_line}
use Rattle.text.specs.Bytes.{are_bytes}
use Rattle.vector_text.specs.Text.{number_at}
use Rattle.vector_text.specs.Lists.{list_most, list_at}
use Rattle.vectors.specs.Pair.{junk_words}
use Rattle.vectors.specs.Stored.{Verified, verified_of, brought_as, ends_as}

-- Reading bytes: what they bring is what the line says, to its end.
abbrev pub read_as : List ℕ → (at : ℕ) → Brought → Bool
read_as line at q = ends_as line (brought_as line at q)

abbrev pub reading_of : List ℕ → (at : ℕ) → Brought → Verified
reading_of line at q = verified_of (read_as line at q) q.workspace

-- A number that is no byte is not read.
unfoldable pub reading : List ℕ → (at : ℕ) → (bytes workspace : List ℕ) → Verified
reading line at bytes workspace = cond (are_bytes bytes) (reading_of line at (read_line bytes workspace)) (verified_of false workspace)

unfoldable pub line_holds : List ℕ → (at : ℕ) → Bool
line_holds line at =
    let c = number_at line at in
    let l = list_at line c.next (replicate list_most 0) in
    (reading line l.next (take (min l.count list_most) l.words) (junk_words c.value)).holds
