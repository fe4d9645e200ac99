-- Exporting, by what the code finds of the words: whether they are a combinator's, and their bits.
use Prim.Native.Nat.{ℕ, ◌+◌, ◌/◌, ◌≤◌, ◌<◌}
use mathlib.Core.Path.{◌≡◌, sym, ap, ap₂, ◌∙◌}
use mathlib.Core.Bool.{true, false, false≢true}
use mathlib.Core.List.{List, [], ◌∷◌, append-nil}
use mathlib.Core.Option.{some}
use native.Mathlib.Omega.{arith}
use borrow.Author.Tests.{le-leb, lt-leb}
use lib.ListN.{length, take}
use Rattle.calculus.specs.Term.{Term}
use Rattle.calculus.specs.Words.{words}
use Rattle.calculus.specs.Workspace.{wrong_workspace, term_at}
use Rattle.calculus.specs.Refusal.{TooLong, NoTerm, NoCombinator}
use Rattle.calculus.specs.Bringing.{returned}
use Rattle.calculus.proofs.ReadLaws.{read-words}
use Rattle.calculus.proofs.WorkspaceLaws.{workspace_short, held}
use Rattle.terms.specs.IsTerm.{is_term}
use Rattle.terms.proofs.IsTerm.{is_term_some, is_term_none}
use Rattle.encoding.specs.Bits.{bits, Combinator}
use Rattle.encoding.specs.Bytes.{byte_bits, packed}
use Rattle.encoding.specs.Export.{Exported, refuse_export, export}
use Rattle.encoding.proofs.PureLaws.{combinator_pure, combinator_accepted}
use Rattle.encoding.proofs.ExportLaws.{exporting_exact, export_leaves}
use Rattle.binary.specs.Words.{are_combinators, words_bits}
use Rattle.binary.proofs.CombinatorLaws.{stands, stands_complete, term_stands, combinator_found, words-bits, and_true}

module _ (workspace : List ℕ) (len : ℕ) (bytes : List ℕ) (w : wrong_workspace (length workspace) ≡ false) where
  -- The length is above C, or the words are no term.
  pub export_past : length workspace < len → refuse_export bytes NoTerm ≡ export workspace len bytes
  unfolding term_at
  export_past h = sym ((exporting_exact workspace len bytes).no_term w (rw (lt-leb len (length workspace) h)))

  pub export_none : is_term workspace len ≡ false → refuse_export bytes NoTerm ≡ export workspace len bytes
  export_none e = sym ((exporting_exact workspace len bytes).no_term w (is_term_none workspace len (workspace_short (length workspace) w) e))

  -- They are a term, and do not pass.
  pub export_open : is_term workspace len ≡ true → are_combinators (0 ∷ []) (take len workspace) ≡ false → refuse_export bytes NoCombinator ≡ export workspace len bytes
  export_open e n =
      let t = (is_term_some workspace len e).0 in
      let given = (is_term_some workspace len e).1 in
      let tested : are_combinators (0 ∷ []) (take len workspace) ≡ stands 0 t =
      ap (are_combinators (0 ∷ [])) (sym (held workspace len t given).words_are ∙ sym (append-nil (words t))) ∙ term_stands t 0 [] [] ∙ and_true (stands 0 t) in
      sym ((exporting_exact workspace len bytes).no-combinator w t given (λ k. false≢true (sym n ∙ tested ∙ stands_complete 0 t k)))

  -- They pass.
  module _ (within : len ≤ length workspace) (pass : are_combinators (0 ∷ []) (take len workspace) ≡ true) where
    abbrev t : Term
    t = (combinator_found (take len workspace) pass).0

    words_are : take len workspace ≡ words t
    words_are = (combinator_found (take len workspace) pass).1

    closed : Combinator t
    closed = (combinator_found (take len workspace) pass).2

    given : term_at workspace len ≡ some t
    unfolding term_at
    given = rw (le-leb len (length workspace) within, words_are) (read-words t (combinator_accepted t closed))

    pub bits_are : words_bits (take len workspace) ≡ bits t
    bits_are = ap words_bits words_are ∙ words-bits t (combinator_pure t closed)

    module _ {n : ℕ} (n-is : n ≡ length (words_bits (take len workspace))) where
      counted : n ≡ length (bits t)
      counted = n-is ∙ ap length bits_are

      pub export_few : length bytes < (n + 7) / byte_bits → refuse_export bytes TooLong ≡ export workspace len bytes
      export_few h = sym ((exporting_exact workspace len bytes).too_few w t given closed (omega (arith, counted)))

      module _ (enough : (n + 7) / byte_bits ≤ length bytes) where
        pub export-all : (before after : List ℕ) → length before ≡ length bytes → after ≡ packed (length before) (words_bits (take len workspace))
            → ◌≡◌ {A = Exported} (record { answer = returned n; bytes = after }) (export workspace len bytes)
        export-all before after same e =
            ap₂ (λ k bs. record { answer = returned k; bytes = bs }) counted (e ∙ ap₂ packed same bits_are)
            ∙ sym (export_leaves workspace len bytes w t given closed (omega (arith, counted)))
