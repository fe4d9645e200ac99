-- `selected` meets its contract: the counts give the length, and the branches left end where the redex does.
use Prim.Native.Nat.{◌*◌, ◌≤◌, ◌<◌}
use Rattle.calculus.specs.Words.{workspace_most}
use Rattle.redex.proofs.NextLaws.{end_at, length_short}
use Rattle.redex.proofs.PlanLaws.{redex_found, contracts, measurable, left_end, plans}
use mathlib.Core.Path.{◌≡◌, refl, ◌∙◌}
use native.Mathlib.Omega.{arith}
use Rattle.redex.proofs.selected.Goals as goal

pub measure-found-requires : goal.measure-found-requires
measure-found-requires c = measurable c.requires.place c.requires.parts_are

pub substituted_length-requires-clause-substitutable : goal.substituted_length-requires-clause-substitutable
substituted_length-requires-clause-substitutable c =
    ((contracts c.requires.place c.requires.parts_are).substitutable, c.requires.after_is)

-- What is added up is small.
module _ (c : goal.After-substituted_length) where
  end_is : c.skip-end.result ≡ end_at c.args.ws.now c.args.at
  end_is = c.skip-end.ensures ∙ left_end c.requires.place c.requires.parts_are c.measure-found.ensures.measures.ends

  small : (c.args.at < c.args.n) × (c.args.n ≤ workspace_most) × (c.skip-end.result ≤ c.args.n) × (c.substituted_length.result ≤ workspace_most * workspace_most)
  small =
      let p = c.requires in
      let d = contracts p.place p.parts_are in (
        p.place.within,
        length_short (redex_found p.place p.parts_are),
        omega (arith, d.ends, end_is),
        omega (arith, d.short, c.substituted_length.ensures),
      )

pub overflow_add-length : goal.overflow_add-length
overflow_add-length c = omega (arith, small c)

pub overflow_sub-length : goal.overflow_sub-length
overflow_sub-length c = omega (arith, small c)

pub overflow_add-length-2 : goal.overflow_add-length-2
overflow_add-length-2 c = omega (arith, small c)

pub returns-clause-plans : goal.returns-clause-plans
returns-clause-plans c =
    let p = c.requires in
    let m = c.measure-found.ensures.measures in
    (plans p.place p.parts_are m.ends p.after_is (end_is c) (omega (arith, c.substituted_length.ensures)) refl refl (λ q. q), refl)
