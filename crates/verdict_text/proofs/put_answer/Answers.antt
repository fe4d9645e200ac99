-- `put_answer` meets its contract: six pieces one after the other.
use Rattle.words.proofs.PlacedLaws.{placed_append}
use Rattle.verdict_text.proofs.put_answer.Goals as goal

pub returns : goal.returns
returns c =
    placed_append c.put_verdict-name.ensures
    (placed_append c.put_field-first.ensures
    (placed_append c.put_field-second.ensures
    (placed_append c.put_field-third.ensures (placed_append c.put_position-fourth.ensures c.put_end.ensures))))
