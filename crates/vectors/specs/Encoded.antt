-- What a line of importing or exporting says.
use Rattle.std.specs.Prelude.{ℕ, min, Bool, false, cond, ◌&&◌, List, eqb, length, take, replicate}
use Rattle.calculus.specs.Bringing.{Brought}
use Rattle.encoding.specs.Import.{import}
use Rattle.encoding.specs.Export.{Exported, export}
use Rattle.text.specs.Bytes.{are_bytes}
use Rattle.vector_text.specs.Text.{nowhere, after, number_at}
use Rattle.vector_text.specs.Compared.{are_words}
use Rattle.vector_text.specs.Lists.{list_most, Listed, list_at}
use Rattle.text.specs.Names.{refusal_name}
use Rattle.vectors.specs.Keywords.{writes_word}
use Rattle.vectors.specs.Answers.{is_returned}
use Rattle.vectors.specs.Pair.{junk, junk_words}
use Rattle.vectors.specs.Stored.{Verified, verified_of, refused_last, is_last, junk_table, brought_as, ends_as}

-- Exporting into bytes of junk.
abbrev pub exported_into : (workspace : List ℕ) (len size : ℕ) → Exported
exported_into workspace len size = export workspace len (junk_table size)

-- What was exported is this bit count and these bytes.
abbrev pub is_encoding : (count : ℕ) (bytes : List ℕ) → Exported → Bool
is_encoding count bytes q = is_returned q.answer count && are_words q.bytes bytes (length bytes) junk

unfoldable pub exports_back : (workspace : List ℕ) (len count : ℕ) (bytes : List ℕ) → Bool
exports_back workspace len count bytes = is_encoding count bytes (exported_into workspace len (length bytes))

-- Importing an encoding: what it brings is what the line says, to its end, and a term that was brought is exported too.
unfoldable pub imported_as : List ℕ → (at count : ℕ) → (bytes : List ℕ) → Brought → Bool
imported_as line at count bytes q =
    let c = brought_as line at q in
    cond (eqb c.count 0) (ends_as line c) (ends_as line c && exports_back q.workspace c.count count bytes)

abbrev pub importing_of : List ℕ → (at count : ℕ) → (bytes : List ℕ) → Brought → Verified
importing_of line at count bytes q = verified_of (imported_as line at count bytes q) q.workspace

-- A number that is no byte is not imported.
unfoldable pub importing : List ℕ → (at count : ℕ) → (bytes workspace : List ℕ) → Verified
importing line at count bytes workspace =
    cond (are_bytes bytes) (importing_of line at count bytes (import bytes count workspace)) (verified_of false workspace)

unfoldable pub import_holds : List ℕ → (at : ℕ) → Bool
import_holds line at =
    let c = number_at line at in
    let count = number_at line c.next in
    let l = list_at line count.next (replicate list_most 0) in
    (importing line l.next count.value (take (min l.count list_most) l.words) (junk_words c.value)).holds

-- Exporting a term: a refusal changes nothing, and else the bit count and the bytes are those that the line says.
unfoldable pub exported_as : List ℕ → (at : ℕ) → Exported → Bool
exported_as line at q =
    let from = after line at refusal_name in
    let count = number_at line (after line at writes_word) in
    cond (eqb from nowhere) (is_returned q.answer count.value && is_last line count.next q.bytes)
    (refused_last line from q.answer q.bytes)

-- Exporting words, with the length and the size that stand behind them.
abbrev pub exports_listed : List ℕ → Listed → Verified
exports_listed line l =
    let len = number_at line l.next in
    let size = number_at line len.next in
    verified_of (exported_as line size.next (exported_into l.words len.value size.value)) l.words

unfoldable pub exports_words : List ℕ → (at : ℕ) → (workspace : List ℕ) → Verified
exports_words line at workspace = exports_listed line (list_at line at workspace)

unfoldable pub export_holds : List ℕ → (at : ℕ) → Bool
export_holds line at = let c = number_at line at in (exports_words line c.next (junk_words c.value)).holds
