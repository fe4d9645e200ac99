-- `holds` meets its contract.
use Rattle.std.proofs.Common.{◌≡◌, get_or, rules, sym}
use Rattle.std.specs.Bool.{Decides}
use Rattle.std.specs.List.{EachIndex}
use Rattle.vector_text.proofs.ComparedLaws.{too_few, by_places, agree_test}
use Rattle.vector_text.specs.Compared.{word_at}
use Rattle.vector_text.proofs.lent.holds.Goals as goal

pub returns-then-words-count : goal.returns-then-words-count
returns-then-words-count c = sym (too_few _ _ _ _ c.if-words-count.true)

pub returns : goal.returns
returns c =
    let a = c.args in
    let each : Decides c.all.result (EachIndex a.words.now (λ k. get_or a.words.now k 0 ≡ word_at a.list.now a.count a.tail k)) = search rules in
    sym (by_places _ _ _ _ c.if-words-count.false (sym (agree_test _ _ _ each)))
