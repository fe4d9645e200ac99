-- Refusal 6 ("Numbers for refused calls"): free numbers, of the term that a table means.
use Rattle.std.specs.Prelude.{Bool}
use Rattle.calculus.specs.Bringing.{free_above}
use Rattle.storage.specs.Records.{Table}
use Rattle.storage.specs.Meaning.{meaning}

abbrev pub wrong_free : Table → Bool
wrong_free T = free_above (meaning T)
