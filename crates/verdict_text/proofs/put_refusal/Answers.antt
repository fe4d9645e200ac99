-- `put_refusal` meets its contract: three pieces one after the other.
use Rattle.words.proofs.PlacedLaws.{placed_append}
use Rattle.verdict_text.proofs.put_refusal.Goals as goal

pub returns : goal.returns
returns c =
    placed_append c.put_bytes-name.ensures (placed_append c.put_field-field.ensures c.put_end.ensures)
