-- `raise` meets its contract: a term that no binders are crossed for is copied as it is.
use Rattle.calculus.proofs.SizeLaws.{size-shift}
use Rattle.calculus.proofs.Substitution.{shift_zero}
use Rattle.calculus.specs.First.{first_term}
use Rattle.calculus.specs.Words.{words}
use Rattle.substitution.proofs.ItemLaws.{Item, item-size, item-words, item-within}
use Rattle.substitution.proofs.RewritingLaws.{placed_as}
use Rattle.substitution.specs.Results.{shifted}
use lib.IntN.{pos}
use lib.ListN.{drop}
use mathlib.Core.Path.{◌≡◌, sym, ◌∙◌, ap}
use native.Mathlib.Omega.{arith}
use Rattle.substitution.proofs.raise.Goals as goal

pub copy-requires : goal.copy-requires
unfolding shifted
copy-requires c =
    let item : Item c.args.src.now c.args.at c.args.end = record { starts = c.requires.shiftable.0.starts; last_is = c.requires.shiftable.1 } in
    record {
      ordered = omega (arith, item-within item);
      within = (item-within item).1;
      fits =
          omega (
            arith,
            c.requires.fits,
            size-shift (pos c.args.binders) 0 (first_term (drop c.args.at c.args.src.now)),
            item-size item,
          );
    }

pub returns-clause-placed : goal.returns-clause-placed
unfolding shifted
returns-clause-placed c =
    let item : Item c.args.src.now c.args.at c.args.end = record { starts = c.requires.shiftable.0.starts; last_is = c.requires.shiftable.1 } in
    let none : c.args.binders ≡ 0 = omega arith in
    placed_as (rw none (item-words item ∙ ap words (sym (shift_zero 0 (first_term (drop c.args.at c.args.src.now)))))) c.copy.ensures
