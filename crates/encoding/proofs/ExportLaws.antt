-- Exporting a term: which refusal is met, and what is left.
use Prim.Native.Nat.{ℕ, ◌*◌, ◌≤◌, ◌<◌}
use mathlib.Core.Path.{◌≡◌, refl}
use mathlib.Core.Bool.{false}
use mathlib.Core.List.{List}
use mathlib.Core.Option.{some, none}
use native.Mathlib.Decide.{dec_lt}
use native.Mathlib.Omega.{arith}
use lib.ListN.{length}
use borrow.Author.Tests.{lt-ltb, le-ltb}
use Rattle.calculus.specs.Term.{Term}
use Rattle.calculus.specs.Workspace.{wrong_workspace, term_at}
use Rattle.calculus.specs.Refusal.{TooLong, NoTerm, NoCombinator}
use Rattle.calculus.specs.Bringing.{refused, returned}
use Rattle.encoding.specs.Bits.{bits, Pure, Combinator}
use Rattle.encoding.specs.Bytes.{byte_bits, packed}
use Rattle.encoding.specs.Export.{export}
use Rattle.encoding.specs.Theorems.{EncodingOf, bytes_kept, ExportingExact}
use Rattle.encoding.proofs.PureLaws.{combinator_pure}
use Rattle.encoding.proofs.BytesLaws.{length-packed, bytes_packed, unpacked-packed}
use Rattle.encoding.proofs.EncodedLaws.{is-combinator, is_no_combinator}

-- Bytes with the bits of a term, and 0 after them, are its encoding.
pub packed_encodes : (t : Term) (n : ℕ) → Pure t → length (bits t) ≤ byte_bits * n → EncodingOf t (packed n (bits t)) (length (bits t))
packed_encodes t n h g =
    record { pure = h; counted = refl; bits_are = rw (length-packed n (bits t)) (unpacked-packed n (bits t) g) }

module _ (workspace : List ℕ) (len : ℕ) (bytes : List ℕ) (w : wrong_workspace (length workspace) ≡ false) where
  export_none : term_at workspace len ≡ none → export workspace len bytes ≡ bytes_kept bytes NoTerm
  unfolding export
  export_none e = rw (w, e)

  module _ (t : Term) (given : term_at workspace len ≡ some t) where
    export_free : (Combinator t → ⊥) → export workspace len bytes ≡ bytes_kept bytes NoCombinator
    unfolding export
    export_free n = rw (w, given, is_no_combinator t n)

    module _ (k : Combinator t) where
      export_short : byte_bits * length bytes < length (bits t) → export workspace len bytes ≡ bytes_kept bytes TooLong
      unfolding export
      export_short h = rw (w, given, is-combinator t k, lt-ltb (byte_bits * length bytes) (length (bits t)) h)

      pub export_leaves : length (bits t) ≤ byte_bits * length bytes
          → export workspace len bytes ≡ record { answer = returned (length (bits t)); bytes = packed (length bytes) (bits t) }
      unfolding export
      export_leaves h = rw (w, given, is-combinator t k, le-ltb (byte_bits * length bytes) (length (bits t)) h)

      too_short : (export workspace len bytes).answer ≡ refused TooLong → byte_bits * length bytes < length (bits t)
      too_short q =
          elim (dec_lt (byte_bits * length bytes) (length (bits t))) [
            | yes h ↦ h
            | no n ↦ let left = export_leaves (omega arith) in let never : ◌≡◌ {A = ℕ} 0 1 = cc in absurd (omega arith)
          ]

pub exporting_exact : ExportingExact
unfolding export
exporting_exact workspace len bytes =
    record {
      wrong-workspace = λ e. rw e;
      no_term = export_none workspace len bytes;
      no-combinator = export_free workspace len bytes;
      too_few = export_short workspace len bytes;
      too_few_only = too_short workspace len bytes;
      leaves = λ w t given k h. rw (export_leaves workspace len bytes w t given k h) (
        refl,
        packed_encodes t (length bytes) (combinator_pure t k) h,
        length-packed (length bytes) (bits t),
        bytes_packed (length bytes) (bits t),
      );
    }
