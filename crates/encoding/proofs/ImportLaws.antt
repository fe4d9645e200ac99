-- Importing an encoding: which refusal is met, and what is left.
use Prim.Native.Nat.{ℕ, ◌≤◌, ◌<◌}
use mathlib.Core.Path.{◌≡◌, refl, sym, ap, ◌∙◌}
use mathlib.Core.Bool.{Bool, true, false, not}
use mathlib.Core.List.{List, [], ◌∷◌}
use mathlib.Core.Option.{some}
use native.Mathlib.Omega.{arith}
use lib.Dec.{ltb}
use lib.ListN.{length}
use borrow.Author.Tests.{lt-ltb, le-ltb}
use Rattle.calculus.specs.Term.{Term}
use Rattle.calculus.specs.Words.{words, size}
use Rattle.calculus.specs.Workspace.{wrong_workspace, padded}
use Rattle.calculus.specs.Refusal.{TooLong, WrongBits, NoCombinator}
use Rattle.calculus.specs.Bringing.{refused, returned, bring}
use Rattle.encoding.specs.Bits.{Combinator}
use Rattle.encoding.specs.Encoded.{wrong_bits, is_combinator}
use Rattle.encoding.specs.Import.{import}
use Rattle.calculus.specs.Theorems.{unchanged}
use Rattle.encoding.specs.Theorems.{EncodingOf, ImportingExact}
use Rattle.encoding.proofs.PureLaws.{combinator_accepted}
use Rattle.encoding.proofs.EncodedLaws.{is-combinator, is_no_combinator, encoded-term, encoding_right, encoding_found}

never : ◌≡◌ {A = ℕ} 0 1 → ⊥
never e = omega arith

module _ (bytes : List ℕ) (count : ℕ) (workspace : List ℕ) (w : wrong_workspace (length workspace) ≡ false) where
  import_wrong : wrong_bits bytes count ≡ true → import bytes count workspace ≡ unchanged workspace WrongBits
  unfolding import
  import_wrong e = rw (w, e)

  import-given : ((import bytes count workspace).answer ≡ refused WrongBits → ⊥) → (t : Term) × EncodingOf t bytes count
  import-given h = go (wrong_bits bytes count) refl
    where
      go : (b : Bool) → wrong_bits bytes count ≡ b → (t : Term) × EncodingOf t bytes count
      go true e = absurd (h (ap (λ r. r.answer) (import_wrong e)))
      go false e = encoding_found bytes count e

  import_none : ((t : Term) → EncodingOf t bytes count → ⊥) → import bytes count workspace ≡ unchanged workspace WrongBits
  import_none h = go (wrong_bits bytes count) refl
    where
      go : (b : Bool) → wrong_bits bytes count ≡ b → import bytes count workspace ≡ unchanged workspace WrongBits
      go true e = import_wrong e
      go false e = let found = encoding_found bytes count e in absurd (h found.0 found.1)

  module _ (t : Term) (c : EncodingOf t bytes count) where
    -- What is still checked of the encoding of a term.
    import-encoded : import bytes count workspace
        ≡ bring ((TooLong, ltb (length workspace) (size t)) ∷ (NoCombinator, not (is_combinator t)) ∷ []) (some t) workspace
    unfolding import
    import-encoded = rw (w, encoding_right t bytes count c, encoded-term t bytes count c)

    not_wrong : (import bytes count workspace).answer ≡ refused WrongBits → ⊥
    not_wrong q = go (ltb (length workspace) (size t)) (is_combinator t) (ap (λ r. r.answer) (sym import-encoded) ∙ q)
      where
        go : (l k : Bool) → (bring ((TooLong, l) ∷ (NoCombinator, not k) ∷ []) (some t) workspace).answer ≡ refused WrongBits → ⊥
        go true k e = never (cc)
        go false false e = never (cc)
        go false true e = never (cc)

    import_long : length workspace < size t → import bytes count workspace ≡ unchanged workspace TooLong
    import_long h = import-encoded ∙ rw (lt-ltb (length workspace) (size t) h)

    import_free : size t ≤ length workspace → (Combinator t → ⊥) → import bytes count workspace ≡ unchanged workspace NoCombinator
    import_free h n = import-encoded ∙ rw (le-ltb (length workspace) (size t) h, is_no_combinator t n)

    pub import_leaves : size t ≤ length workspace → Combinator t
        → import bytes count workspace ≡ record { answer = returned (size t); workspace = padded (length workspace) (words t) }
    import_leaves h k = import-encoded ∙ rw (le-ltb (length workspace) (size t) h, is-combinator t k)

pub importing_exact : ImportingExact
unfolding import
importing_exact bytes count workspace =
    record {
      wrong-workspace = λ e. rw e;
      escapes = λ w. (import-given bytes count workspace w, λ c. not_wrong bytes count workspace w c.0 c.1);
      wrong-bits = import_none bytes count workspace;
      too_long = import_long bytes count workspace;
      no-combinator = import_free bytes count workspace;
      leaves = λ w t c h k. (combinator_accepted t k, import_leaves bytes count workspace w t c h k);
    }
