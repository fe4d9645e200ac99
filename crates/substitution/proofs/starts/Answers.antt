-- `starts` meets its contract. The invariant: the starts of the items before the j-th are written, and the places behind hold 0.
use Rattle.calculus.specs.Accepted.{argument_limit}
use Rattle.substitution.proofs.StartLaws.{offsets_first, offsets_next}
use Rattle.std.proofs.lemmas.List.{drop-replicate}
use Rattle.words.proofs.PlacedLaws.{drop-set}
use lib.ListN.{replicate, length-set}
use lib.Seq.{drop-set-lt, get_or-set_other}
use mathlib.Core.List.{◌∷◌}
use mathlib.Core.Path.{◌≡◌, refl, ap, ◌∙◌}
use native.Mathlib.Omega.{arith}
use Prim.Native.Nat.{suc, ◌-◌}
use Rattle.substitution.proofs.starts.Goals as goal

pub loop-j-init : goal.loop-j-init
loop-j-init c = (
  refl,
  omega arith,
  offsets_first c.args.src.now c.args.body.args _ refl,
  λ k l. drop-set-lt k (replicate (suc argument_limit) 0) 0 c.args.body.args l ∙ drop-replicate k (suc argument_limit) 0,
)

pub loop-j-preserved : goal.loop-j-preserved
loop-j-preserved c =
    let l = c.loop-j in (
      simp length-set l.invariant.0,
      omega arith,
      offsets_next c.args.src.now c.args.body.args l.starts l.j c.extent.result l.auto.j (omega arith) l.invariant.2 c.extent.ensures,
      λ k m. drop-set-lt k l.starts l.j c.extent.result (omega arith) ∙ l.invariant.3 k (omega arith),
    )

pub returns : goal.returns
returns c =
    let l = c.loop-j in
    let n = c.args.body.count in
    let e : 16 - suc n ≡ argument_limit - n = omega arith in
    record {
      each = λ i h. get_or-set_other l.starts n i c.args.body.after 0 (omega arith) ∙ l.invariant.2.each i (omega arith);
      rest = drop-set l.starts n c.args.body.after (omega arith) ∙ ap (◌∷◌ c.args.body.after) (l.invariant.3 (suc n) (omega arith) ∙ ap (λ m. replicate m 0) e);
    }
