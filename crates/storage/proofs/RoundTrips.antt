-- Loading what was written gives the term again, and writing what was loaded gives the table again exactly when its records are in prefix order.
use Prim.Native.Nat.{ℕ, suc, ◌+◌, ◌*◌, ◌≤◌}
use mathlib.Core.Path.{◌≡◌, refl, sym, ap, subst, ◌∙◌}
use mathlib.Core.Bool.{and-eq-true_iff}
use mathlib.Core.List.{List, ◌∷◌}
use native.Mathlib.Omega.{arith}
use lib.Dec.{eqb}
use lib.ListN.{length, get_or}
use borrow.Author.Tests.{ltb-false, eqb-true}
use Rattle.calculus.specs.Term.{term, Term}
use Rattle.calculus.specs.Words.{size, workspace_most}
use Rattle.storage.specs.Records.{form1, record_at, in_form1, view, entry}
use Rattle.storage.specs.Meaning.{Means}
use Rattle.storage.specs.Load.{load}
use Rattle.storage.specs.Write.{records, table_of}
use Rattle.storage.specs.Theorems.{LoadAfterWrite, WriteAfterLoad}
use Rattle.storage.specs.PrefixOrder.{InPrefixOrder}
use Rattle.storage.proofs.Fits.{fitted}
use Rattle.calculus.proofs.WorkspaceLaws.{workspace_short}
use Rattle.storage.proofs.Written.Standing.{records-length}
use Rattle.storage.proofs.Written.TableWords.{stand-words}
use Rattle.storage.proofs.RecordLaws.{sized}
use Rattle.storage.proofs.Written.PrefixStanding.{root_stands}
use Rattle.storage.proofs.LoadLaws.{Passes, passes, passes_unmet, header-words, load_returned, loading_exact}
use Rattle.storage.proofs.Written.WriteLaws.{write-returned, write-filled}
use Rattle.storage.proofs.Written.WrittenTable.{written-in-order, written-means, written-passes}

pub load-after-write : LoadAfterWrite
load-after-write t rest table target a h e h' u =
    let written = write-returned t rest table a h e in
    let most : size t ≤ workspace_most = omega (arith, workspace_short (length target) h') in
    let unmet = passes_unmet (in_form1 (table_of t)) (length target) (written-passes t a most (length target) h' u) in
    let loaded = load_returned (in_form1 (table_of t)) target unmet t (written-means t a most) in
    rw written (refl, ap (λ r. r.answer) loaded, ap (λ r. r.workspace) loaded)

-- Records in prefix order that mean t are those of the table of t.
in-order-table : (table : List ℕ) (t : Term) (C : ℕ) → Passes (in_form1 table) C → Means (view (in_form1 table)) term (view (in_form1 table)).root t
    → size t ≡ (view (in_form1 table)).n → InPrefixOrder (view (in_form1 table)) → table ≡ table_of t
in-order-table table t C p m size_is order =
    let T = view (in_form1 table) in
    let last = (fitted T p.children-fit).root_last in
    let stands = root_stands T t T.root (suc T.n) last m order in
    let header = (and-eq-true_iff (eqb (get_or table 0 0) form1.number) (eqb (get_or table 3 0) 0)).0 (header-words (in_form1 table) p.header-fits).0 in
    stand-words (entry form1.number (size t) 1 0 ∷ records 1 0 t) table 0 T
    (omega (arith, (sized (in_form1 table) p.length_fits).2, records-length t 1 0))
    (λ j. let same : 0 + j ≡ j = omega arith in ap (record_at (in_form1 table)) same)
    (record { kind = eqb-true _ _ header.0; value = sym size_is; first = stands.0; next = eqb-true _ _ header.1 }, stands.1)

pub write-after-load : WriteAfterLoad
write-after-load table workspace out l answered same_length =
    let C = length workspace in
    let unmet = ((loading_exact (in_form1 table) workspace).returns l).0 answered in
    let held = (loading_exact (in_form1 table) workspace).holds l answered in
    let p = passes (in_form1 table) C unmet.0 in
    let t = held.0 in
    let fits : l ≤ C = omega (arith, ltb-false C (view (in_form1 table)).n p.short_enough, unmet.1) in
    let room : length out ≡ form1.record_words * (l + 1) = omega (arith, (sized (in_form1 table) p.length_fits).2, unmet.1) in
    let written = write-filled t C l (load table workspace).workspace out held.2 held.3 held.4 p.workspace_fits fits room in (
      ap (λ r. r.answer) written,
      rw written (
        λ e. subst (λ ws. InPrefixOrder (view (in_form1 ws))) e (written-in-order t),
        λ order. sym (in-order-table table t C p held.1 (held.3 ∙ sym unmet.1) order),
      ),
    )
