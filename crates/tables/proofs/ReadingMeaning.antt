-- What the readers make of a table is what the table means: the words of the term, and whether its free numbers are in range.
use Prim.Native.Nat.{ℕ, ◌+◌, ◌-◌, ◌≤◌}
use mathlib.Core.Path.{◌≡◌, refl, ap, ap₂, sym, ◌∙◌}
use mathlib.Core.Bool.{not}
use mathlib.Core.List.{List, ◌∷◌, ◌++◌, append-nil}
use native.Mathlib.Omega.{arith}
use lib.ListN.{length, drop}
use lib.Seq.{sets-eq}
use Rattle.calculus.specs.Term.{Sort, term, terms, branches, Exp, count}
use Rattle.calculus.specs.Words.{case_kind, word, words, size, workspace_most}
use Rattle.calculus.proofs.WordLaws.{pack_of_parts}
use Rattle.terms.specs.IsTerm.{is_term}
use Rattle.words.specs.Placed.{Placed}
use Rattle.storage.specs.Records.{Table, Stored, view}
use Rattle.storage.specs.Meaning.{Means, plain, case_of, no_term, a_term, no_branch, a_branch}
use Rattle.storage.specs.Children.{children}
use Rattle.transcription.specs.Reading.{chain_words, term_words, Readable}
use Rattle.calculus.specs.Bringing.{free_above}
use Rattle.storage.specs.FreeNumbers.{wrong_free}
use Rattle.storage.proofs.LinkRules.{Linked, linked}
use Rattle.storage.proofs.Fits.{Valued, valued, Fitted, fitted}
use Rattle.storage.proofs.Meaning.Nodes.{node-words}
use Rattle.storage.proofs.Meaning.MeaningLaws.{term-inside, meaning-complete}
use Rattle.storage.proofs.Meaning.ChainMeaning.{terms-chain, case-chain}
use Rattle.storage.proofs.Meaning.SoundMeans.{Root, root-of}
use Rattle.tables.proofs.FreeNumbers.{free_is_term}
use Rattle.storage.proofs.RecordLaws.{sized}
use Rattle.transcription.proofs.ReadingLaws.{chain_words-end, chain_words_record}

module _ (T : Table) (L : Linked T) where
  abbrev Spelled : {s : Sort} → ℕ → Exp s → Type 0
  Spelled {s = term} i e = term_words T i ≡ words e
  Spelled {s = terms} l e = chain_words T l ≡ words e
  Spelled {s = branches} l e = chain_words T l ≡ words e

  pub means_spelled : {s : Sort} {i : ℕ} {e : Exp s} → Means T s i e → Spelled i e
  means_spelled {i = i} (plain k n m) =
      rw (k.2, (terms-chain T L m).0, means_spelled m) (sym (node-words n))
  means_spelled {i = i} (case_of {bs = bs} k z m ms) =
      let r = term-inside m in
      let branches : length (children T i) - 1 ≡ count bs = omega (arith, (case-chain T L m ms).0) in
      rw k.2
      (ap₂ (λ p vs. word case_kind p ∷ vs) branches (chain_words_record T L _ r.0 r.1 ∙ ap₂ ◌++◌ (means_spelled m) (means_spelled ms)))
  means_spelled no_term = chain_words-end T 0 refl
  means_spelled {i = i} (a_term m ms) =
      let r = term-inside m in
      chain_words_record T L i r.0 r.1 ∙ ap₂ ◌++◌ (means_spelled m) (means_spelled ms)
  means_spelled no_branch = chain_words-end T 0 refl
  means_spelled {i = i} (a_branch {b = b} k m ms) =
      chain_words_record T L i k.0 k.1 ∙ rw (k.2, pack_of_parts, means_spelled m, append-nil (words b), means_spelled ms)

-- The root means a term with as many words as there are records.
module _ (S : Stored) (h : Readable S (view S).root) (l : 1 ≤ (view S).root) where
  abbrev T : Table
  T = view S

  abbrev links : Linked T
  links = linked T h.walkable.links-fit

  abbrev values : Valued T
  values = valued T h.values_fit

  abbrev fits : Fitted T
  fits = fitted T h.children-fit

  root : Root T
  root = root-of T (l, h.walkable.link_within) links values fits

  root_words : term_words T T.root ≡ words root.meant
  root_words = means_spelled T links root.means

  pub root_length : length (term_words T T.root) ≡ T.n
  root_length = ap length root_words ∙ root.size_is

  pub root_short : length (term_words T T.root) ≤ workspace_most
  root_short = omega (arith, ap length root_words, root.size_is, sized S h.walkable.length_fits)

  -- Where its words are put, they are an accepted term exactly if its free numbers are in range.
  pub free_in_words : (before after : List ℕ) (end : ℕ) → workspace_most ≤ length before → Placed before 0 (term_words T T.root) after end
      → wrong_free T ≡ not (is_term after end)
  free_in_words before after end room p =
      let t = root.meant in
      let short = root_short in
      let ends : end ≡ size t = omega (arith, p.position, ap length root_words) in
      let placed : after ≡ words t ++ drop (0 + size t) before = p.slice ∙ rw root_words (sets-eq (words t) before 0 (omega (arith, ap length root_words, short, room))) in
      let same : is_term (words t ++ drop (0 + size t) before) (size t) ≡ is_term after end = ap₂ is_term (sym placed) (sym ends) in
      ap free_above (meaning-complete T t h.walkable.links-fit root.means)
      ∙ ap not (free_is_term T links values fits root.means (drop (0 + size t) before) (omega (arith, ap length root_words, short)) ∙ same)
