-- Records part by part, and which tables pass refusals 1, 2 and 8.
use Prim.Native.Nat.{ℕ, ◌+◌, ◌*◌, ◌≤◌}
use mathlib.Core.Path.{◌≡◌, refl, ap}
use mathlib.Core.Bool.{Bool, true, false, true≢false, not, ◌&&◌, ◌||◌, and-eq-true_iff}
use native.Mathlib.Nat.{mul-le-mul_left}
use native.Mathlib.Omega.{arith}
use lib.Dec.{leb, ltb, eqb}
use lib.ListN.{length, get_or}
use borrow.Author.Tests.{leb-true, le-leb, ltb-false, le-ltb, eqb-true, eq-eqb, not-false}
use Rattle.calculus.specs.Words.{workspace_most}
use Rattle.storage.specs.Records.{Record, entry, Stored, view, form1, in_form1}
use Rattle.storage.specs.Header.{wrong_length, wrong_header}
use Rattle.storage.specs.Refusals.{RecordsExact, LengthExact, HeaderExact, TooLongExact}
use Rattle.storage.proofs.Tests.{is_record_true, record_is_record}

-- Records that are equal part by part, but for what they declare.
pub record Parts (r s : Record) : Type 0 where
  pub kind : r.kind ≡ s.kind
  pub value : r.value ≡ s.value
  pub first : r.first ≡ s.first
  pub next : r.next ≡ s.next

pub parts : {r s : Record} → r ≡ s → Parts r s
parts e =
    record { kind = ap (λ x. x.kind) e; value = ap (λ x. x.value) e; first = ap (λ x. x.first) e; next = ap (λ x. x.next) e }

pub entry_path : {k k' v v' f f' x x' : ℕ} → k ≡ k' → v ≡ v' → f ≡ f' → x ≡ x' → entry k v f x ≡ entry k' v' f' x'
entry_path p q r s = λ d. entry (p d) (q d) (r d) (s d)

-- Tests that pass, from the refusal that they keep away.
neither : (a b : Bool) → (a || b) ≡ false → b ≡ false
neither true b h = absurd (true≢false h)
neither false b h = h

module _ (S : Stored) where
  pub sized : wrong_length S ≡ false → (1 ≤ (view S).n) × ((view S).n ≤ workspace_most) × (length S.words ≡ S.form.record_words * ((view S).n + 1))
  unfolding wrong_length
  sized h =
      let n = (view S).n in
      let outer = (and-eq-true_iff (leb 1 n && leb n workspace_most) _).0 (not-false _ (neither (ltb (length S.words) S.form.record_words) _ h)) in
      let inner = (and-eq-true_iff (leb 1 n) (leb n workspace_most)).0 outer.0 in
      (leb-true 1 n inner.0, leb-true n workspace_most inner.1, eqb-true _ _ outer.1)

  pub rooted : wrong_header S ≡ false → (1 ≤ (view S).root) × ((view S).root ≤ (view S).n)
  unfolding wrong_header
  rooted h = is_record_true (view S) (view S).root ((and-eq-true_iff (S.form.header_fits S.words) _).0 (not-false _ h)).1

pub records_exact : RecordsExact
records_exact ws i = (refl, refl, refl, refl, refl, refl, refl)

pub length_exact : LengthExact
unfolding wrong_length
length_exact S = (
  sized S,
  λ h.
      let some : 1 ≤ (view S).n + 1 = omega arith in
      let long : S.form.record_words ≤ length S.words = omega (arith, h.2, mul-le-mul_left S.form.record_words some) in
      rw (le-ltb _ _ long, le-leb 1 (view S).n h.0, le-leb (view S).n workspace_most h.1) (ap not (eq-eqb _ _ h.2)),
)

pub header_exact : HeaderExact
unfolding wrong_header
header_exact ws = (
  λ h.
      let words = (and-eq-true_iff (eqb (get_or ws 0 0) 1) (eqb (get_or ws 3 0) 0)).0 ((and-eq-true_iff (form1.header_fits ws) _).0 (not-false _ h)).0 in
      let root = rooted (in_form1 ws) h in
      (eqb-true _ 1 words.0, root.0, root.1, eqb-true _ 0 words.1),
  λ h. rw (eq-eqb _ 1 h.0, eq-eqb _ 0 h.3) (ap not (record_is_record (view (in_form1 ws)) _ h.1 h.2)),
)

pub too_long_exact : TooLongExact
too_long_exact T C = (ltb-false C T.n, le-ltb C T.n)
