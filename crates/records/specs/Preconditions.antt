-- What the functions on stored tables ask of their callers: words that are there, numbers that fit a word, links that lead on.
use Rattle.std.specs.Prelude.{ℕ, suc, ◌*◌, ◌^◌, ◌≤◌, ◌<◌, ◌≡◌, false, length}
use Rattle.calculus.specs.Words.{case_kind, kind_base}
use Rattle.storage.specs.Records.{Record, Stored, view}
use Rattle.storage.specs.Header.{wrong_length}
use Rattle.storage.specs.Payload.{payload}
use Rattle.storage.specs.Links.{wrong_link}
use Rattle.words.specs.Limits.{payload_bound}

-- The words of record i are there.
abbrev pub Inside : Stored → ℕ → Type 0
Inside S i = S.form.record_words * suc i ≤ length S.words

-- Both links of a record fit a word of 32 bits.
pub record Puttable (r : Record) : Type 0 where
  pub first_fits : r.first < 2 ^ 32
  pub next_fits : r.next < 2 ^ 32

-- The word of a record with so many children exists, and its payload does not go below 0.
pub record Wordable (kind value children : ℕ) : Type 0 where
  pub kind_fits : kind < kind_base
  pub payload-fits : payload kind value children < payload_bound
  pub subject : kind ≡ case_kind → 1 ≤ children

-- The link is 0 or names a record of a table whose links name later records.
pub record Walkable (S : Stored) (link : ℕ) : Type 0 where
  pub length_fits : wrong_length S ≡ false
  pub links-fit : wrong_link (view S) ≡ false
  pub link_within : link ≤ (view S).n
