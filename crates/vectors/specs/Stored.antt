-- What a line of loading or writing says.
use Rattle.std.specs.Prelude.{ℕ, zero, suc, ◌+◌, ◌*◌, ◌/◌, ◌%◌, min, Bool, false, cond, ◌&&◌, List, [], ◌∷◌, eqb, leb, length, take, replicate}
use Rattle.calculus.specs.Refusal.{number}
use Rattle.calculus.specs.Bringing.{Result, refused, returned, Brought}
use Rattle.storage.specs.Records.{form1}
use Rattle.storage.specs.Load.{load}
use Rattle.storage.specs.Write.{Written, write}
use Rattle.vector_text.specs.Text.{nowhere, after, number_at}
use Rattle.text.specs.Names.{refusal_name}
use Rattle.vectors.specs.Keywords.{chain_keyword, gives_word, writes_word}
use Rattle.vector_text.specs.Compared.{are_words}
use Rattle.vector_text.specs.Lists.{list_most, Listed, list_at, Compared, compared_at}
use Rattle.vectors.specs.Answers.{is_returned}
use Rattle.vectors.specs.Pair.{junk, junk_words}

-- Whether a call went as the line says, and the words that it left in what it was lent.
pub record Verified : Type 0 where
  pub holds : Bool
  pub words : List ℕ

abbrev pub verified_of : Bool → (words : List ℕ) → Verified
verified_of holds ws = record { holds = holds; words = ws }

-- The refusal that the line names last, and what was lent is still junk.
abbrev pub refused_last : List ℕ → (at : ℕ) → Result → (lent : List ℕ) → Bool
refused_last line at (refused why) ws = (eqb (number why) (number_at line at).value && eqb (number_at line at).next (length line)) && are_words ws ws 0 junk
refused_last line at (returned n) ws = false

-- The table of n - 1 abstractions around a variable, word by word. The header differs from an abstraction over the next record in the second word
-- alone.
abbrev pub chain_word : (records index place : ℕ) → ℕ
chain_word records index place =
    let record' = place / form1.record_words in
    let field = place % form1.record_words in
    cond (leb records record') (cond (eqb field 1) index 0)
    (cond (eqb field 0) 1 (cond (eqb field 1) (cond (eqb record' 0) records 0) (cond (eqb field 2) (record' + 1) 0)))

unfoldable pub chain_from : (records index place count : ℕ) → List ℕ
chain_from records index place zero = []
chain_from records index place (suc n) = chain_word records index place ∷ chain_from records index (place + 1) n

abbrev pub chain : (records index count : ℕ) → List ℕ
chain records index count = chain_from records index 0 count

-- The table that comes next, into lent words.
abbrev pub chain_at : List ℕ → (from : ℕ) → (words : List ℕ) → Listed
chain_at line from ws =
    let records = number_at line from in
    let index = number_at line records.next in
    record {
      words = chain records.value index.value (length ws);
      count = form1.record_words * (records.value + 1);
      next = index.next;
    }

unfoldable pub table_at : List ℕ → (at : ℕ) → (words : List ℕ) → Listed
table_at line at ws =
    let from = after line at chain_keyword in
    cond (eqb from nowhere) (list_at line at ws) (chain_at line from ws)

-- Words are the list that comes next, and the line ends behind it.
unfoldable pub is_last : List ℕ → (at : ℕ) → (words : List ℕ) → Bool
is_last line at ws = let c = compared_at line at ws junk in (c.equal && eqb c.count (length ws)) && eqb c.next (length line)

-- A written table is the one that the line names after `writes`, or else the one that was loaded.
unfoldable pub is_table : List ℕ → (at : ℕ) → (written loaded : List ℕ) → Bool
is_table line at written loaded =
    let from = after line at writes_word in
    cond (eqb from nowhere) (are_words written loaded (length loaded) junk && eqb at (length line)) (is_last line from written)

-- Writing a term: a refusal changes nothing, and else the table is the one that the line says.
abbrev pub written_as : List ℕ → (at : ℕ) → (loaded : List ℕ) → (len : ℕ) → Written → Verified
written_as line at loaded len w =
    let from = after line at refusal_name in
    record {
      holds =
          cond (eqb from nowhere) (is_returned w.answer len && is_table line at w.table loaded)
          (refused_last line from w.answer w.table);
      words = w.table;
    }

unfoldable pub writes_into : List ℕ → (at : ℕ) → (loaded workspace : List ℕ) (len : ℕ) (table : List ℕ) → Verified
writes_into line at loaded workspace len table = written_as line at loaded len (write workspace len table)

-- A loaded term is written into a table of junk as long as the one that was loaded.
abbrev pub junk_table : (n : ℕ) → List ℕ
junk_table n = replicate (min n list_most) junk

unfoldable pub writes_back : List ℕ → (at : ℕ) → (loaded workspace : List ℕ) (len : ℕ) → Bool
writes_back line at loaded workspace len = (writes_into line at loaded workspace len (junk_table (length loaded))).holds

-- What a call brought into a workspace of junk, beside what the line says: the refusal that it names last, which changes nothing and has no words, or the
-- words that it gives, with zeros after them.
abbrev pub refused_as : List ℕ → (from : ℕ) → Brought → Compared
refused_as line from q =
    record { equal = refused_last line from q.answer q.workspace; count = 0; next = length line }

abbrev pub given_as : Brought → Compared → Compared
given_as q c = record { equal = c.equal && is_returned q.answer c.count; count = c.count; next = c.next }

unfoldable pub brought_as : List ℕ → (at : ℕ) → Brought → Compared
brought_as line at q =
    let from = after line at refusal_name in
    cond (eqb from nowhere) (given_as q (compared_at line (after line at gives_word) q.workspace 0)) (refused_as line from q)

-- The line ends behind it.
abbrev pub ends_as : List ℕ → Compared → Bool
ends_as line c = c.equal && eqb c.next (length line)

-- Loading a table: a term that was brought is written too.
unfoldable pub loaded_as : List ℕ → (at : ℕ) → (table : List ℕ) → Brought → Bool
loaded_as line at table q =
    let c = brought_as line at q in
    cond (eqb c.count 0) (ends_as line c) (c.equal && writes_back line c.next table q.workspace c.count)

abbrev pub loading_of : List ℕ → (at : ℕ) → (table : List ℕ) → Brought → Verified
loading_of line at table q = record { holds = loaded_as line at table q; words = q.workspace }

unfoldable pub loading : List ℕ → (at : ℕ) → (table workspace : List ℕ) → Verified
loading line at table workspace = loading_of line at table (load table workspace)

unfoldable pub load_holds : List ℕ → (at : ℕ) → Bool
load_holds line at =
    let c = number_at line at in
    let t = table_at line c.next (replicate list_most 0) in
    (loading line t.next (take (min t.count list_most) t.words) (junk_words c.value)).holds

-- Writing words, with the length and the size that stand behind them.
abbrev pub writes_listed : List ℕ → Listed → Verified
writes_listed line l =
    let len = number_at line l.next in
    let size = number_at line len.next in
    record { holds = (writes_into line size.next [] l.words len.value (junk_table size.value)).holds; words = l.words }

unfoldable pub writes_words : List ℕ → (at : ℕ) → (workspace : List ℕ) → Verified
writes_words line at workspace = writes_listed line (list_at line at workspace)

unfoldable pub write_holds : List ℕ → (at : ℕ) → Bool
write_holds line at = let c = number_at line at in (writes_words line c.next (junk_words c.value)).holds
