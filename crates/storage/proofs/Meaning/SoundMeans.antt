-- A table that meets no refusal means a term, which is accepted and has as many words as the table has records.
use Prim.Native.Nat.{◌≤◌}
use mathlib.Core.Path.{◌≡◌, ap, ◌∙◌}
use mathlib.Core.Option.{some}
use native.Mathlib.Omega.{arith}
use borrow.Author.Tests.{not-false}
use Rattle.calculus.specs.Term.{term, Term}
use Rattle.calculus.specs.Words.{size}
use Rattle.storage.specs.Records.{Table}
use Rattle.storage.specs.Meaning.{Means, meaning}
use Rattle.calculus.specs.Bringing.{free_fits}
use Rattle.calculus.proofs.BringingLaws.{free-fits}
use Rattle.storage.specs.Theorems.{SoundMeans}
use Rattle.storage.proofs.Tests.{is_record_true}
use Rattle.storage.proofs.LinkRules.{Linked, linked}
use Rattle.storage.proofs.Meaning.MeaningLaws.{meaning-complete}
use Rattle.storage.proofs.Meaning.Extent.{extent, extent-zero, root-extent, means-sized}
use Rattle.storage.proofs.Fits.{Valued, valued, Fitted, fitted}
use Rattle.storage.proofs.Meaning.Exists.{record-means}
use Rattle.storage.proofs.Meaning.Accepts.{means-accepted}

-- Where the root is a record and refusals 3 to 5 are not met, the root means a term with as many words as there are records.
pub record Root (T : Table) : Type 0 where
  pub meant : Term
  pub means : Means T term T.root meant
  pub size_is : size meant ≡ T.n

pub root-of : (T : Table) → (1 ≤ T.root) × (T.root ≤ T.n) → Linked T → Valued T → Fitted T → Root T
root-of T r links values fits =
    let t = record-means T links fits values T.n T.root r.0 r.1 (omega arith) fits.root_term in
    let last : extent T (T.at T.root).next ≡ 0 = ap (extent T) fits.root_last ∙ extent-zero T in
    record { meant = t.0; means = t.1; size_is = omega (arith, means-sized T links t.1, last, root-extent T links r.0 r.1) }

pub sound-means : SoundMeans
sound-means T sound =
    let links = linked T sound.links in
    let values = valued T sound.values in
    let fits = fitted T sound.children-fit in
    let root = root-of T (is_record_true T T.root sound.root_inside) links values fits in
    let t = root.meant in
    let computed : meaning T ≡ some t = meaning-complete T t sound.links root.means in
    record {
      meant = t;
      means = root.means;
      accepted = means-accepted T links values fits root.means 0 ((free-fits t).0 (not-false (free_fits t) (rw computed at sound.free_numbers)));
      length_is = root.size_is;
    }
