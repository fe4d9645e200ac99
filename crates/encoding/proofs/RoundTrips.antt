-- Importing what was exported gives the term again, and exporting what was imported gives the encoding again.
use Prim.Native.Nat.{ℕ, ◌*◌, ◌-◌, ◌≤◌}
use mathlib.Core.Path.{◌≡◌, refl, sym, ap, ap₂, ◌∙◌}
use mathlib.Core.Bool.{Bool, false}
use mathlib.Core.List.{List, ◌++◌}
use mathlib.Core.Option.{Option, some, none}
use native.Mathlib.Omega.{arith}
use lib.ListN.{length, replicate}
use borrow.Author.Tests.{ltb-false, not-false}
use Rattle.calculus.specs.Term.{Term}
use Rattle.calculus.specs.Words.{words, size}
use Rattle.calculus.specs.Workspace.{wrong_workspace, padded}
use Rattle.calculus.specs.Refusal.{Refusal}
use Rattle.calculus.specs.Bringing.{returned, first_met, NoneMet, bring_unless, bring}
use Rattle.calculus.proofs.BringingLaws.{none_first}
use Rattle.calculus.proofs.WorkspaceLaws.{term_at-words, length-padded}
use Rattle.encoding.specs.Bits.{bits, Combinator}
use Rattle.encoding.specs.Bytes.{byte_bits, Bytes, packed}
use Rattle.encoding.specs.Encoded.{encoded_term}
use Rattle.encoding.specs.Import.{import_checks, import}
use Rattle.encoding.specs.Export.{export}
use Rattle.encoding.specs.Theorems.{EncodingOf, ImportAfterExport, ExportAfterImport}
use Rattle.encoding.proofs.PureLaws.{combinator_pure, combinator_accepted}
use Rattle.encoding.proofs.BytesLaws.{packed-unpacked, packed-padded}
use Rattle.encoding.proofs.EncodedLaws.{combinator_is, encoded-term, encoding_found, count_fits}
use Rattle.encoding.proofs.ImportLaws.{import_leaves}
use Rattle.encoding.proofs.ExportLaws.{packed_encodes, export_leaves}

pub import-after-export : ImportAfterExport
import-after-export t rest bytes target k w h w' fits =
    let left = export_leaves (words t ++ rest) (size t) bytes w t (term_at-words t rest (combinator_accepted t k)) k h in (
      ap (λ r. r.answer) left,
      rw left (import_leaves (packed (length bytes) (bits t)) (length (bits t)) target w' t (packed_encodes t (length bytes) (combinator_pure t k) h) fits k),
    )

-- Where a length is returned, no refusal is met.
unmet : (checks : List (Refusal × Bool)) (given : Option Term) (workspace : List ℕ) (l : ℕ) → (bring checks given workspace).answer ≡ returned l
    → NoneMet checks
unmet checks given workspace l q = none_first checks (go (first_met checks) q)
  where
    go : (o : Option Refusal) → (bring_unless o given workspace).answer ≡ returned l → o ≡ none
    go none e = refl
    go (some why) e = let never : ◌≡◌ {A = ℕ} 0 1 = cc in absurd (omega arith)

-- The bytes of an encoding are those of the bits of its term.
encoded_bytes : (t : Term) (bytes : List ℕ) (count : ℕ) → Bytes bytes → EncodingOf t bytes count → packed (length bytes) (bits t) ≡ bytes
encoded_bytes t bytes count h c = cc (packed-padded (length bytes) (byte_bits * length bytes - count) (bits t), packed-unpacked bytes h)

-- What is true where a length is returned.
record Imported (bytes : List ℕ) (count : ℕ) (workspace : List ℕ) : Type 0 where
  right : wrong_workspace (length workspace) ≡ false
  t : Term
  encodes : EncodingOf t bytes count
  fits : size t ≤ length workspace
  combinator : Combinator t

imported : (bytes : List ℕ) (count : ℕ) (workspace : List ℕ) (l : ℕ) → (import bytes count workspace).answer ≡ returned l → Imported bytes count workspace
unfolding import
imported bytes count workspace l q =
    let p = unmet (import_checks bytes count (length workspace)) (encoded_term bytes count) workspace l q in
    let found = encoding_found bytes count p.1.0 in
    let e = encoded-term found.0 bytes count found.1 in
    record {
      right = p.0;
      t = found.0;
      encodes = found.1;
      fits = ltb-false (length workspace) (size found.0) (rw e at p.1.1.0);
      combinator = combinator_is found.0 (not-false _ (rw e at p.1.1.1.0));
    }

export_again : (bytes : List ℕ) (count : ℕ) (workspace out : List ℕ) (i : Imported bytes count workspace) → Bytes bytes → length out ≡ length bytes
    → export (padded (length workspace) (words i.t)) (size i.t) out ≡ record { answer = returned count; bytes = bytes }
export_again bytes count workspace out i h same =
    let C = length workspace in
    let t = i.t in
    let w : wrong_workspace (length (padded C (words t))) ≡ false = rw (length-padded C (words t) i.fits) i.right in
    let held = term_at-words t (replicate (C - size t) 0) (combinator_accepted t i.combinator) in
    export_leaves (padded C (words t)) (size t) out w t held i.combinator (omega (arith, count_fits t bytes count i.encodes, i.encodes.counted))
    ∙ rw (i.encodes.counted, same, encoded_bytes t bytes count h i.encodes)

pub export-after-import : ExportAfterImport
export-after-import bytes count workspace out l h q same =
    let i = imported bytes count workspace l q in
    let left = import_leaves bytes count workspace i.right i.t i.encodes i.fits i.combinator in
    let answers : returned l ≡ returned (size i.t) = sym q ∙ ap (λ r. r.answer) left in
    let is-size : l ≡ size i.t = cc in
    ap₂ (λ ws n. export ws n out) (ap (λ r. r.workspace) left) is-size ∙ export_again bytes count workspace out i h same
