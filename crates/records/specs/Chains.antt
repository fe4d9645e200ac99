-- A walk along a chain: what is left of it, and what a step gives.
use Rattle.std.specs.Prelude.{◌≡◌, List, Option, IfSome}
use Rattle.std.specs.Iterator.{YieldsFirstBy}
use Rattle.records.specs.declared.Record as codeRecord
use Rattle.records.specs.declared.chain.Chain.{Chain}
use Rattle.records.specs.Preconditions.{Walkable}
use Rattle.records.specs.Types.{stored_of, viewed_of, record_of}
use Rattle.storage.specs.Records.{Record}
use Rattle.storage.specs.Children.{chain_from}

abbrev pub left : Chain → List Record
left s = chain_from (viewed_of s.table) s.link

-- The first record that is left, whose next leads on in the same table.
abbrev pub Passes : Chain → Option codeRecord.Record → Chain → Type 0
Passes s o t =
    YieldsFirstBy record_of left s o t × (t.table ≡ s.table) × IfSome o (λ r. Walkable (stored_of s.table) r.next)
