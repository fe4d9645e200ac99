-- Records and their words: which records a list of words holds, and that these words are no others.
use Prim.Native.Nat.{ℕ, suc, ◌+◌, ◌*◌}
use mathlib.Core.Path.{◌≡◌, refl, sym, ap, ◌∙◌}
use mathlib.Core.List.{List, [], ◌∷◌}
use native.Mathlib.Omega.{arith}
use lib.ListN.{length, get_or}
use Rattle.storage.specs.Records.{Record, Table, record_at, form1, in_form1, records_words}
use Rattle.storage.proofs.RecordLaws.{entry_path, parts}
use Rattle.storage.proofs.Written.Standing.{Stand}

-- After the words of one record the next ones begin.
recordAt-suc : (a b c d : ℕ) (ws : List ℕ) (i : ℕ) → record_at (in_form1 (a ∷ b ∷ c ∷ d ∷ ws)) (suc i) ≡ record_at (in_form1 ws) i
recordAt-suc a b c d ws i =
    let p = form1.record_words * suc i in
    let q = form1.record_words * i in
    entry_path (at p q (omega arith)) (at (p + 1) (q + 1) (omega arith)) (at (p + 2) (q + 2) (omega arith)) (at (p + 3) (q + 3) (omega arith))
  where
    at : (m n : ℕ) → m ≡ suc (suc (suc (suc n))) → get_or (a ∷ b ∷ c ∷ d ∷ ws) m 0 ≡ get_or ws n 0
    at m n e = rw e

pub recordsWords-length : (rs : List Record) → length (records_words rs) ≡ form1.record_words * length rs
recordsWords-length [] = refl
recordsWords-length (r ∷ rs) = omega (arith, recordsWords-length rs)

-- The records whose words a table holds from index i on stand there.
pub words-stand : (rs : List Record) (T : Table) (i : ℕ) → ((j : ℕ) → T.at (i + j) ≡ record_at (in_form1 (records_words rs)) j) → Stand T i rs
words-stand [] T i h = tt
words-stand (r ∷ rs) T i h =
    let here : i ≡ i + 0 = omega arith in
    let next : (j : ℕ) → suc i + j ≡ i + suc j = λ j. omega arith in
    let p = parts (ap T.at here ∙ h 0) in
    (record { kind = p.kind; value = p.value; first = p.first; next = p.next }, words-stand rs T (suc i) (λ j. ap T.at (next j) ∙ h (suc j) ∙ recordAt-suc _ _ _ _ (records_words rs) j))

-- Words that hold these records, and no more, are their words.
pub stand-words : (rs : List Record) (ws : List ℕ) (i : ℕ) (T : Table) → length ws ≡ form1.record_words * length rs
    → ((j : ℕ) → T.at (i + j) ≡ record_at (in_form1 ws) j) → Stand T i rs → ws ≡ records_words rs
stand-words [] [] i T e h s = refl
stand-words [] (w ∷ ws) i T e h s = absurd (omega arith)
stand-words (r ∷ rs) [] i T e h s = absurd (omega arith)
stand-words (r ∷ rs) (a ∷ []) i T e h s = absurd (omega arith)
stand-words (r ∷ rs) (a ∷ b ∷ []) i T e h s = absurd (omega arith)
stand-words (r ∷ rs) (a ∷ b ∷ c ∷ []) i T e h s = absurd (omega arith)
stand-words (r ∷ rs) (a ∷ b ∷ c ∷ d ∷ ws) i T e h s =
    let here : i ≡ i + 0 = omega arith in
    let p = parts (sym (ap T.at here ∙ h 0)) in
    let next : (j : ℕ) → suc i + j ≡ i + suc j = λ j. omega arith in
    let rest = stand-words rs ws (suc i) T (omega arith) (λ j. ap T.at (next j) ∙ h (suc j) ∙ recordAt-suc a b c d ws j) s.1 in
    let own = s.0 in
    cc
