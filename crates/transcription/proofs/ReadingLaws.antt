-- The readers' turns: what is read at a link that is not 0, and how many records are ahead after it.
use Prim.Native.Nat.{ℕ, suc, ◌+◌, ◌-◌, ◌≤◌, ◌<◌}
use mathlib.Core.Path.{◌≡◌, refl, ap, ◌∙◌}
use mathlib.Core.Bool.{and-eq-true_iff}
use mathlib.Core.List.{[], ◌∷◌, ◌++◌}
use mathlib.Core.Logic.{inl, inr}
use native.Mathlib.Omega.{arith}
use lib.ListN.{length, length-append}
use borrow.Author.Tests.{eq-eqb, ne_eqb}
use Rattle.calculus.specs.Words.{word}
use Rattle.storage.specs.Records.{Record, Table, Stored, record_at, view}
use Rattle.storage.specs.Payload.{payload}
use Rattle.records.specs.Preconditions.{Wordable}
use Rattle.storage.specs.Values.{numberFits}
use Rattle.storage.specs.Children.{children, children_fit, chain_from}
use Rattle.transcription.specs.Reading.{ahead, chain_words, term_words, Readable}
use Rattle.storage.proofs.LinkRules.{Ahead, Linked, linked}
use Rattle.records.proofs.PayloadLaws.{has_word}
use Rattle.storage.proofs.Fits.{valued, fitted}
use Rattle.storage.proofs.Hanging.{hanging_zero, hanging_record}
use Rattle.records.proofs.Walks.{walked}

module _ (T : Table) where
  pub chain_words-end : (l : ℕ) → l ≡ 0 → chain_words T l ≡ []
  unfolding chain_words
  chain_words-end l e = rw e (hanging_zero T [] _ T.n)

  pub chain_words_record : Linked T → (i : ℕ) → 1 ≤ i → i ≤ T.n → chain_words T i ≡ term_words T i ++ chain_words T (T.at i).next
  unfolding chain_words
  chain_words_record L i l u = hanging_record T [] _ L i l u

  -- Fewer records are ahead at a link of a record than at the record.
  pub ahead-end : (l : ℕ) → l ≡ 0 → ahead T l ≡ 0
  ahead-end l e = rw (eq-eqb l 0 e)

  pub ahead_record : (i : ℕ) → 1 ≤ i → ahead T i ≡ suc T.n - i
  ahead_record i l = rw (ne_eqb i 0 (λ e. omega arith))

  ahead_falls : (i l : ℕ) → 1 ≤ i → i ≤ T.n → Ahead T i l → ahead T l < ahead T i
  ahead_falls i l v u (inl e) = omega (arith, ahead-end l e, ahead_record i v)
  ahead_falls i l v u (inr a) = omega (arith, ahead_record l (omega arith), ahead_record i v)

-- A turn: a record that was read at a link, and reading on from it.
pub record ReadOn (S : Stored) (link : ℕ) (r : Record) : Type 0 where
  pub below : Readable S r.first
  pub after : Readable S r.next
  pub fewer_below : ahead (view S) r.first < ahead (view S) link
  pub fewer_after : ahead (view S) r.next < ahead (view S) link
  pub words : chain_words (view S) link ≡ term_words (view S) link ++ chain_words (view S) r.next
  pub words_length : length (chain_words (view S) link) ≡ length (term_words (view S) link) + length (chain_words (view S) r.next)
  pub wordable : Wordable r.kind r.value (length (children (view S) link))

pub read_on : (S : Stored) (link : ℕ) (r : Record) → Readable S link → 1 ≤ link → r ≡ record_at S link → ReadOn S link r
unfolding children_fit
read_on S link r h v e =
    let T = view S in
    let w = h.walkable in
    let u = w.link_within in
    let L = linked T w.links-fit in
    let fits = fitted T h.children-fit in
    let values = valued T h.values_fit in
    let on = walked S link (record_at S link) w v refl in
    let number = ((and-eq-true_iff (numberFits (T.at link).kind (length (children T link))) _).0 (fits.children-fit link v u)).0 in
    rw e
    (record {
      below = record { walkable = on.below; values_fit = h.values_fit; children-fit = h.children-fit };
      after = record { walkable = on.after; values_fit = h.values_fit; children-fit = h.children-fit };
      fewer_below = ahead_falls T link _ v u (L.first_ahead link v u);
      fewer_after = ahead_falls T link _ v u (L.next_ahead link v u);
      words = chain_words_record T L link v u;
      words_length = ap length (chain_words_record T L link v u) ∙ length-append (term_words T link) _;
      wordable = has_word (T.at link).kind (T.at link).value (length (children T link)) (values.value-fits link v u) number;
    })

-- The words of the record that was read, from the number of its children.
pub term_read : (S : Stored) (at m w : ℕ) (r : Record) → r ≡ record_at S at → m ≡ length (chain_from (view S) r.first)
    → w ≡ word r.kind (payload r.kind r.value m) → term_words (view S) at ≡ w ∷ chain_words (view S) r.first
term_read S at m w r e q h = rw (h, q, e)
