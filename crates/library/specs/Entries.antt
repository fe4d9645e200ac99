-- The entries of a table of numerals: numeral n stands at n × (n + 2) with 2 × n + 3 words.
use Rattle.std.specs.Prelude.{ℕ, suc, ◌+◌, ◌*◌, ◌≤◌, ◌≡◌, List, length}
use Rattle.std.proofs.Math.Option.{some}
use Rattle.std.proofs.Math.Seq.{slice}
use Rattle.calculus.specs.Words.{library_words}
use Rattle.calculus.specs.Accepted.{numeral_limit}
use Rattle.calculus.specs.Read.{read}
use Rattle.calculus.specs.Numeral.{numeral}
use Rattle.calculus.specs.Theorems.{Closed}

abbrev pub entry_at : ℕ → ℕ
entry_at n = n * (n + 2)

abbrev pub entry_end : ℕ → ℕ
entry_end n = entry_at n + (2 * n + 3)

abbrev pub entry : List ℕ → ℕ → List ℕ
entry table n = slice (entry_at n) (entry_end n) table

-- The entry is a whole term by the word rules, its numeral, and it is closed.
pub record Entry (table : List ℕ) (n : ℕ) : Type 0 where
  pub whole : read (entry table n) ≡ some (numeral n)
  pub closed : Closed (numeral n)

-- The table holds the entries of all numerals up to the limit, one after the other, and nothing else.
pub record Entries (table : List ℕ) : Type 0 where
  pub length_is : length table ≡ library_words
  pub first_starts : entry_at 0 ≡ 0
  pub next_starts : (n : ℕ) → entry_at (suc n) ≡ entry_end n
  pub last_ends : entry_end numeral_limit ≡ library_words
  pub each : (n : ℕ) → n ≤ numeral_limit → Entry table n
