-- Exporting the term in a workspace ("Binary encodings", "Numbers for refused calls"), as a function of everything at entry to everything at exit.
use Rattle.std.specs.Prelude.{ℕ, ◌*◌, not, cond, List, ltb, length}
use Rattle.std.proofs.Math.Option.{Option, some, none}
use Rattle.calculus.specs.Term.{Term}
use Rattle.calculus.specs.Workspace.{wrong_workspace, term_at}
use Rattle.calculus.specs.Refusal.{Refusal, WrongWorkspace, TooLong, NoTerm, NoCombinator}
use Rattle.calculus.specs.Bringing.{Result, refused, returned}
use Rattle.encoding.specs.Bits.{bits}
use Rattle.encoding.specs.Bytes.{byte_bits, packed}
use Rattle.encoding.specs.Encoded.{is_combinator}

-- Everything at exit; the workspace is only read.
pub record Exported : Type 0 where
  pub answer : Result
  pub bytes : List ℕ

-- A refusal changes nothing.
abbrev pub refuse_export : (bytes : List ℕ) → Refusal → Exported
refuse_export bytes why = record { answer = refused why; bytes = bytes }

-- The bit count is returned, and the rest of the lent bytes is 0.
abbrev pub put : (bytes : List ℕ) → Term → Exported
put bytes t = record { answer = returned (length (bits t)); bytes = packed (length bytes) (bits t) }

-- Refusal 10 where the workspace holds no term of that length, then 13 of the term, then 8, "too few bytes".
abbrev pub export_term : (bytes : List ℕ) → Option Term → Exported
export_term bytes none = refuse_export bytes NoTerm
export_term bytes (some t) =
    cond (not (is_combinator t)) (refuse_export bytes NoCombinator)
    (cond (ltb (byte_bits * length bytes) (length (bits t))) (refuse_export bytes TooLong)
    (put bytes t))

unfoldable pub export : (workspace : List ℕ) (len : ℕ) (bytes : List ℕ) → Exported
export workspace len bytes =
    cond (wrong_workspace (length workspace)) (refuse_export bytes WrongWorkspace) (export_term bytes (term_at workspace len))
