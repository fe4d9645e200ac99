-- `shift` meets its contract. The invariant: the words still to be moved lead to the whole copy.
use Prim.Native.Nat.{◌+◌, ◌-◌}
use Rattle.calculus.specs.Words.{words}
use Rattle.substitution.proofs.RewritingLaws.{placed_as, rewriting_start, rewriting_some, rewriting_within, rewriting_room, rewriting_next, rewriting_done, standing-shifted, moving-word}
use Rattle.substitution.proofs.Walking.{walking_depth, walking_enters, walking_entered}
use Rattle.substitution.specs.Results.{shifted}
use Rattle.walk.proofs.RewrittenLaws.{shifting-length, none_of_none}
use Rattle.walk.specs.Rewritten.{shifting, rewritten, standing}
use lib.ListN.{length, get_or, drop}
use mathlib.Core.List.{[], ◌∷◌}
use mathlib.Core.Path.{◌≡◌, refl, sym, ◌∙◌, ap}
use mir.Syntax.{w32}
use mir.Val.{to_z, of_z}
use mir.ValLaws.{to_z-of_z}
use native.Mathlib.Omega.{arith}
use Rattle.substitution.proofs.shift.Goals as goal

pub loop-i-init : goal.loop-i-init
loop-i-init c =
    let p = c.requires.shiftable in
    let none : c.args.out + (c.args.at - c.args.at) ≡ c.args.out = omega arith in
    rw (none, c.start-scope.ensures) (rewriting_start _ _ p.0.short p.0.starts c.requires.enough (omega arith) (omega arith))

pub visit-here-requires : goal.visit-here-requires
visit-here-requires c =
    let v = c.loop-i.invariant in
    let some = rewriting_some v c.loop-i-test.true in
    record {
      few = omega (arith, walking_depth v.walking some);
      movable = λ k e. moving-word (rw (to_z-of_z w32 c.args.distance c.ranges.distance) c.requires.shiftable.0) v.walking some k;
    }

pub bounds-dst-out : goal.bounds-dst-out
bounds-dst-out c =
    let v = c.loop-i.invariant in
    let p = c.requires.shiftable in
    -- The distance as the loop has it.
    let z = to_z w32 (of_z w32 c.args.distance) in
    let result : standing (shifting z) (c.args.end - c.args.at) (0 ∷ []) (drop c.args.at c.args.src.now) ≡ words (shifted c.args.src.now c.args.at c.args.distance) =
    standing-shifted c.args.src.now c.args.at c.args.end z p.0.starts p.1
    ∙ ap (λ d. words (shifted c.args.src.now c.args.at d)) (to_z-of_z w32 c.args.distance c.ranges.distance)
    in
    omega (
      arith,
      rewriting_room v c.loop-i-test.true,
      shifting-length z c.loop-i.scope.depth (get_or c.args.src.now c.loop-i.i 0),
      ap length result,
      c.requires.fits,
      v.kept,
    )

pub enter-scope-requires : goal.enter-scope-requires
enter-scope-requires c =
    let v = c.loop-i.invariant in
    let e = c.visit-here.ensures in
    walking_enters v.walking (rewriting_some v c.loop-i-test.true) (c.type_inv.src c.loop-i.i).fits e.items_are e.binders_are

pub loop-i-preserved : goal.loop-i-preserved
loop-i-preserved c =
    let v = c.loop-i.invariant in
    let e = c.visit-here.ensures in
    let depth = c.loop-i.scope.depth in
    let word = get_or c.args.src.now c.loop-i.i 0 in
    let one : rewritten (shifting (to_z w32 (of_z w32 c.args.distance))) depth word ≡ c.visit-here.result.word.0 ∷ [] =
    e.moved (e.argument_is ∙ none_of_none depth word)
    in
    rewriting_next v c.loop-i-test.true (placed_as (sym one) (record { slice = refl; position = omega (arith, rewriting_within v c.loop-i-test.true) }))
    (walking_entered v.walking (rewriting_some v c.loop-i-test.true) (c.type_inv.src c.loop-i.i).fits e.items_are e.binders_are c.enter-scope.ensures)

pub returns-clause-placed : goal.returns-clause-placed
returns-clause-placed c =
    let v = c.loop-i.invariant in
    let p = c.requires.shiftable in
    let ended : c.loop-i.i ≡ c.args.end = omega (arith, v.before) in
    placed_as
    (standing-shifted c.args.src.now c.args.at c.args.end _ p.0.starts p.1
    ∙ ap (λ d. words (shifted c.args.src.now c.args.at d)) (to_z-of_z w32 c.args.distance c.ranges.distance))
    (rw ended at (rewriting_done v (omega arith)))
