-- Prefix order of records ("The stored table"), said of the records themselves.
use Rattle.std.specs.Prelude.{ℕ, suc}
use Rattle.storage.specs.Records.{Table}

-- `Fills T l i k` says that the chain from link l, with all that belongs to its records, is the records from i up to before k in prefix order:
-- its first record stands at i, that record's children and all that belongs to them from i + 1 on, and its later siblings right after these.
pub data Fills (T : Table) : (link from to : ℕ) → Type 0 where
  nothing : {i : ℕ} → Fills T 0 i i
  chained : {i j k : ℕ} → Fills T (T.at i).first (suc i) j → Fills T (T.at i).next j k → Fills T i i k

abbrev pub InPrefixOrder : Table → Type 0
InPrefixOrder T = Fills T T.root 1 (suc T.n)
