-- What the code's types stand for: what writing leaves.
use Rattle.std.specs.Prelude.{ℕ, ◌≡◌, List, Result}
use Rattle.words.specs.declared.refusal.Refusal.{Refusal}
use Rattle.words.specs.Types.{result_of}
use Rattle.storage.specs.Write.{Written}

-- Everything at exit of writing: its result and the lent table.
abbrev pub written_of : Result ℕ Refusal → (table : List ℕ) → Written
written_of a table = record { answer = result_of a; table = table }

-- Each field is that of its name.
pub record WrittenFields : Type 0 where
  pub fields : (a : Result ℕ Refusal) (table : List ℕ) → written_of a table ≡ record { answer = result_of a; table = table }
