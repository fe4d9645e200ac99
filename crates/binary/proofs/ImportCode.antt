-- Importing, by what the code finds of an encoding: its padding, its words, and whether they are a combinator's.
use Prim.Native.Nat.{ℕ, ◌+◌, ◌*◌, ◌≤◌, ◌<◌}
use mathlib.Core.Path.{◌≡◌, sym, ap, ◌∙◌}
use mathlib.Core.Bool.{Bool, true, false, not, ◌&&◌, false≢true, and-eq-true_iff}
use mathlib.Core.List.{List, [], ◌∷◌, ◌++◌, append-nil}
use mathlib.Core.Option.{some, none, bind, none-ne-some}
use native.Mathlib.Omega.{arith}
use borrow.Author.Tests.{le-ltb, ltb-false, not-true}
use lib.Dec.{ltb}
use lib.ListN.{length, take, drop}
use lib.Seq.{sets, slice, sets-eq, take-append_seam}
use Rattle.calculus.specs.Term.{Term}
use Rattle.calculus.specs.Words.{words, size, workspace_most}
use Rattle.calculus.specs.Read.{any_term}
use Rattle.calculus.specs.Workspace.{wrong_workspace}
use Rattle.calculus.specs.Refusal.{TooLong, WrongBits, NoCombinator}
use Rattle.calculus.specs.Bringing.{refuse, hold}
use Rattle.encoding.specs.Bits.{bits, Pure, Combinator}
use Rattle.encoding.specs.Bytes.{byte_bits, unpacked}
use Rattle.encoding.specs.Decoding.{words_in, decode}
use Rattle.encoding.specs.Encoded.{all_zero}
use Rattle.encoding.specs.Import.{import}
use Rattle.encoding.specs.Theorems.{EncodingOf}
use Rattle.encoding.proofs.DecodeLaws.{words_in_decode, decode-complete}
use Rattle.encoding.proofs.EncodedLaws.{encoded-term, encoding_right, right_bits, encoding_is}
use Rattle.encoding.proofs.ImportLaws.{importing_exact}
use Rattle.binary.specs.Words.{are_combinators}
use Rattle.binary.specs.Scan.{all_clipped}
use Rattle.binary.proofs.ScanLaws.{clipped-length}
use Rattle.binary.proofs.CombinatorLaws.{stands, stands_sound, stands_complete, clipped_stands, combinator_unclipped, and_true}

-- What `is_padded` answers.
abbrev pub is_padded : (bytes : List ℕ) (count : ℕ) → Bool
is_padded bytes count = not (ltb (byte_bits * length bytes) count) && all_zero (drop count (unpacked bytes))

module _ (bytes : List ℕ) (count : ℕ) (workspace : List ℕ) (w : wrong_workspace (length workspace) ≡ false) where
  -- An encoding is padded.
  padded_encoding : (t : Term) → EncodingOf t bytes count → is_padded bytes count ≡ true
  padded_encoding t c =
      let r = right_bits bytes count (encoding_right t bytes count c) in
      rw (le-ltb (byte_bits * length bytes) count r.0, r.1)

  pub import_unpadded : is_padded bytes count ≡ false → refuse workspace WrongBits ≡ import bytes count workspace
  import_unpadded e = sym ((importing_exact bytes count workspace).wrong-bits w (λ t c. false≢true (sym e ∙ padded_encoding t c)))

  -- No words are found.
  pub import_none : words_in (take count (unpacked bytes)) 0 1 ≡ none → refuse workspace WrongBits ≡ import bytes count workspace
  unfolding decode bind
  import_none e =
      sym ((importing_exact bytes count workspace).wrong-bits w
      (λ t c. none-ne-some t (sym (ap (λ o. bind o any_term) e) ∙ encoded-term t bytes count c)))

  module _ (padded : is_padded bytes count ≡ true) where
    parts : (not (ltb (byte_bits * length bytes) count) ≡ true) × (all_zero (drop count (unpacked bytes)) ≡ true)
    parts = (and-eq-true_iff (not (ltb (byte_bits * length bytes) count)) (all_zero (drop count (unpacked bytes)))).0 padded

    pub count-within : count ≤ byte_bits * length bytes
    count-within = ltb-false (byte_bits * length bytes) count (not-true (ltb (byte_bits * length bytes) count) parts.0)

    -- They are found: those of a term.
    module _ (ws : List ℕ) (found : words_in (take count (unpacked bytes)) 0 1 ≡ some ws) where
      abbrev term : Term
      term = (words_in_decode (take count (unpacked bytes)) ws found).0

      pure : Pure term
      pure = (words_in_decode (take count (unpacked bytes)) ws found).1

      bits_are : bits term ≡ take count (unpacked bytes)
      bits_are = (words_in_decode (take count (unpacked bytes)) ws found).2

      words_are : words term ≡ ws
      words_are = (words_in_decode (take count (unpacked bytes)) ws found).3

      encodes : EncodingOf term bytes count
      encodes = encoding_is bytes count term count-within parts.1 (ap decode (sym bits_are) ∙ decode-complete term pure)

      size_is : size term ≡ length ws
      size_is = ap length words_are

      pub import_long : length workspace < length ws → refuse workspace TooLong ≡ import bytes count workspace
      import_long h = sym ((importing_exact bytes count workspace).too_long w term encodes (omega (arith, size_is)))

      -- There is room for them, in the array where they are put and in the workspace.
      module _ (before after : List ℕ) (n : ℕ) (room : length before ≡ workspace_most) (n-is : n ≡ length ws) (fits : n ≤ length workspace)
          (short : length workspace ≤ workspace_most) (put : after ≡ sets before 0 (all_clipped ws)) where
        held : take n after ≡ all_clipped ws
        held =
            let same = clipped-length ws in
            ap (take n) (put ∙ sets-eq (all_clipped ws) before 0 (omega arith))
            ∙ ap (λ k. take k (all_clipped ws ++ drop (0 + length (all_clipped ws)) before)) (n-is ∙ sym same)
            ∙ take-append_seam (all_clipped ws) (drop (0 + length (all_clipped ws)) before)

        tested : are_combinators (0 ∷ []) (take n after) ≡ stands 0 term
        tested =
            ap (are_combinators (0 ∷ [])) (held ∙ ap all_clipped (sym words_are) ∙ sym (append-nil (all_clipped (words term))))
            ∙ clipped_stands term 0 [] [] pure (omega (arith, size_is))
            ∙ and_true (stands 0 term)

        pub import_free : are_combinators (0 ∷ []) (take n after) ≡ false → refuse workspace NoCombinator ≡ import bytes count workspace
        import_free e =
            sym ((importing_exact bytes count workspace).no-combinator w term encodes (omega (arith, size_is))
            (λ k. false≢true (sym e ∙ tested ∙ stands_complete 0 term k)))

        pub import_leaves : are_combinators (0 ∷ []) (take n after) ≡ true → hold workspace (slice 0 n after) ≡ import bytes count workspace
        import_leaves e =
            let k : Combinator term = stands_sound 0 term (sym tested ∙ e) in
            ap (hold workspace) (held ∙ ap all_clipped (sym words_are) ∙ combinator_unclipped term 0 k (omega (arith, size_is)))
            ∙ sym ((importing_exact bytes count workspace).leaves w term encodes (omega (arith, size_is)) k).1
