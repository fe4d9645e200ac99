-- `all_once` meets its contract: the counts after the first are those of the indices from 1 on.
use Rattle.std.proofs.Common.{rules, arith, ap, ◌∙◌}
use Rattle.records.proofs.EveryLaws.{every_taken}
use Rattle.std.proofs.lemmas.Iterator.{YieldsList-from_slice}
use Rattle.std.proofs.lemmas.Iterator.Search.{all_from_yields_List}
use Rattle.std.proofs.lemmas.Grind.{get_or_after_one}
use Prim.Native.Nat.{ℕ}
use lib.Dec.{eqb}
use Rattle.std.specs.List.{list_all}
use lib.ListN.{get_or, drop, take, length-drop}
use Rattle.records.proofs.links.all_once.Goals as goal

pub returns : goal.returns
returns c =
    all_from_yields_List (λ (n : ℕ). eqb n 1) _ _ c.all.result c.all.ensures.ran (YieldsList-from_slice _ c.iter.ensures.rest) (λ x b q k. search rules)
    ∙ ap (λ k. list_all (λ n. eqb n 1) (take k (drop 1 c.args.counts.now))) (omega arith)
    ∙ every_taken (λ n. eqb n 1) (drop 1 c.args.counts.now) 0 (λ i. eqb (get_or c.args.counts.now i 0) 1) c.args.n (omega (arith, length-drop 1 c.args.counts.now)) (λ i l. ap (λ n. eqb n 1) (get_or_after_one c.args.counts.now i 0 ∙ ap (λ k. get_or c.args.counts.now k 0) (omega arith)))
