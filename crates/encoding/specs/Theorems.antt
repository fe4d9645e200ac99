-- What is owed about encodings: each statement is a type with a name, and its proof in proofs/ has that type.
use Rattle.std.specs.Prelude.{ℕ, ◌+◌, ◌*◌, ◌-◌, ◌≤◌, ◌<◌, ◌≡◌, Bool, true, false, List, [], ◌∷◌, ◌++◌, ◌↔◌, length, replicate}
use Rattle.std.proofs.Math.Option.{some, none}
use Rattle.calculus.specs.Term.{Term}
use Rattle.calculus.specs.Words.{application_kind, kind_of, words, size}
use Rattle.calculus.specs.Accepted.{Accepted}
use Rattle.calculus.specs.Theorems.{Closed, unchanged}
use Rattle.calculus.specs.Workspace.{wrong_workspace, term_at}
use Rattle.calculus.specs.Refusal.{Refusal, WrongWorkspace, TooLong, NoTerm, WrongBits, NoCombinator}
use Rattle.calculus.specs.Bringing.{refused, returned}
use Rattle.encoding.specs.Bits.{bits, Pure, Combinator}
use Rattle.encoding.specs.Bytes.{byte_bits, unpacked, Bytes}
use Rattle.encoding.specs.Decoding.{decode}
use Rattle.encoding.specs.Import.{import}
use Rattle.encoding.specs.Export.{Exported, export}

-- Words of variables, abstractions and applications only.
abbrev pub PureWords : List ℕ → Type 0
PureWords [] = Unit {0}
PureWords (w ∷ ws) = (kind_of w ≤ application_kind) × PureWords ws

-- Which terms have bits: those without another kind of word, whatever their indices.
abbrev pub PureExact : Type 0
PureExact = (t : Term) → Pure t ↔ PureWords (words t)

-- Which of them are combinators: the closed ones.
abbrev pub CombinatorExact : Type 0
CombinatorExact = (t : Term) → Combinator t ↔ (Closed t × Pure t)

-- The bits of a term are never the start of another's.
abbrev pub BitsPrefixFree : Type 0
BitsPrefixFree = (t u : Term) (bs cs : List Bool) → Pure t → Pure u → bits t ++ bs ≡ bits u ++ cs → (t ≡ u) × (bs ≡ cs)

-- The most bits that a combinator of so many words has; with as many bytes as hold them, exporting never meets 8.
abbrev pub BitsMost : Type 0
BitsMost = (t : Term) → Combinator t → byte_bits * length (bits t) ≤ size t * (size t + 16)

-- The term that is found is the one whose bits they are.
abbrev pub DecodingExact : Type 0
DecodingExact = (bs : List Bool) (t : Term) → (decode bs ≡ some t) ↔ (Pure t × (bits t ≡ bs))

-- Bytes with a bit count are the encoding of a term: its bits, as many as the count says, and 0 in every lent bit past them.
pub record EncodingOf (t : Term) (bytes : List ℕ) (count : ℕ) : Type 0 where
  pub pure : Pure t
  pub counted : length (bits t) ≡ count
  pub bits_are : unpacked bytes ≡ bits t ++ replicate (byte_bits * length bytes - count) false

-- They are the encoding of one term at most.
abbrev pub EncodingUnique : Type 0
EncodingUnique = (bytes : List ℕ) (count : ℕ) (t u : Term) → EncodingOf t bytes count → EncodingOf u bytes count → t ≡ u

-- A refusal to export, and the lent bytes as they were.
abbrev pub bytes_kept : (bytes : List ℕ) → Refusal → Exported
bytes_kept bytes why = record { answer = refused why; bytes = bytes }

-- What importing does, by the bits of terms alone: 7 first; then 12, escaped exactly if the bits are those of one term; then 8, then 13, and nothing is
-- changed; otherwise the term is left, which is accepted.
pub record ImportsExactly (bytes : List ℕ) (count : ℕ) (workspace : List ℕ) : Type 0 where
  pub wrong-workspace : wrong_workspace (length workspace) ≡ true → import bytes count workspace ≡ unchanged workspace WrongWorkspace
  pub escapes : wrong_workspace (length workspace) ≡ false
      → ((import bytes count workspace).answer ≡ refused WrongBits → ⊥) ↔ ((t : Term) × EncodingOf t bytes count)
  pub wrong-bits : wrong_workspace (length workspace) ≡ false → ((t : Term) → EncodingOf t bytes count → ⊥)
      → import bytes count workspace ≡ unchanged workspace WrongBits
  pub too_long : wrong_workspace (length workspace) ≡ false → (t : Term) → EncodingOf t bytes count → length workspace < size t
      → import bytes count workspace ≡ unchanged workspace TooLong
  pub no-combinator : wrong_workspace (length workspace) ≡ false → (t : Term) → EncodingOf t bytes count → size t ≤ length workspace → (Combinator t → ⊥)
      → import bytes count workspace ≡ unchanged workspace NoCombinator
  pub leaves : wrong_workspace (length workspace) ≡ false → (t : Term) → EncodingOf t bytes count → size t ≤ length workspace → Combinator t
      → Accepted 0 t
      × (import bytes count workspace ≡ record { answer = returned (size t); workspace = words t ++ replicate (length workspace - size t) 0 })

abbrev pub ImportingExact : Type 0
ImportingExact = (bytes : List ℕ) (count : ℕ) (workspace : List ℕ) → ImportsExactly bytes count workspace

-- What exporting does: 7 first, then 10, then 13, then 8 exactly if the lent bytes have fewer bits than the term, and nothing is changed; otherwise the
-- lent bytes are the term's encoding.
pub record ExportsExactly (workspace : List ℕ) (len : ℕ) (bytes : List ℕ) : Type 0 where
  pub wrong-workspace : wrong_workspace (length workspace) ≡ true → export workspace len bytes ≡ bytes_kept bytes WrongWorkspace
  pub no_term : wrong_workspace (length workspace) ≡ false → term_at workspace len ≡ none → export workspace len bytes ≡ bytes_kept bytes NoTerm
  pub no-combinator : wrong_workspace (length workspace) ≡ false → (t : Term) → term_at workspace len ≡ some t → (Combinator t → ⊥)
      → export workspace len bytes ≡ bytes_kept bytes NoCombinator
  pub too_few : wrong_workspace (length workspace) ≡ false → (t : Term) → term_at workspace len ≡ some t → Combinator t
      → byte_bits * length bytes < length (bits t) → export workspace len bytes ≡ bytes_kept bytes TooLong
  pub too_few_only : wrong_workspace (length workspace) ≡ false → (t : Term) → term_at workspace len ≡ some t → Combinator t
      → (export workspace len bytes).answer ≡ refused TooLong → byte_bits * length bytes < length (bits t)
  pub leaves : wrong_workspace (length workspace) ≡ false → (t : Term) → term_at workspace len ≡ some t → Combinator t
      → length (bits t) ≤ byte_bits * length bytes
      → ((export workspace len bytes).answer ≡ returned (length (bits t)))
      × EncodingOf t (export workspace len bytes).bytes (length (bits t))
      × (length (export workspace len bytes).bytes ≡ length bytes)
      × Bytes (export workspace len bytes).bytes

abbrev pub ExportingExact : Type 0
ExportingExact = (workspace : List ℕ) (len : ℕ) (bytes : List ℕ) → ExportsExactly workspace len bytes

-- Import of what was exported gives the term again: for every combinator that a workspace holds, whatever stands after it there and in the two lent parts
-- that are written to, and room enough.
abbrev pub ImportAfterExport : Type 0
ImportAfterExport =
    (t : Term) (rest bytes target : List ℕ) → Combinator t → wrong_workspace (length (words t ++ rest)) ≡ false
    → length (bits t) ≤ byte_bits * length bytes → wrong_workspace (length target) ≡ false → size t ≤ length target
    → ((export (words t ++ rest) (size t) bytes).answer ≡ returned (length (bits t)))
    × (import (export (words t ++ rest) (size t) bytes).bytes (length (bits t)) target
    ≡ record { answer = returned (size t); workspace = words t ++ replicate (length target - size t) 0 })

-- Export of what was imported gives the count and the bytes again, whatever the part that is written to held, to as many bytes as were imported; what fewer
-- or more bytes get is `ExportingExact`.
abbrev pub ExportAfterImport : Type 0
ExportAfterImport =
    (bytes : List ℕ) (count : ℕ) (workspace out : List ℕ) (l : ℕ) → Bytes bytes → (import bytes count workspace).answer ≡ returned l
    → length out ≡ length bytes
    → export (import bytes count workspace).workspace l out ≡ record { answer = returned count; bytes = bytes }
