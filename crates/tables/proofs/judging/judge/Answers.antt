-- `judge` meets its contract: each return knows that the checks before it pass.
use Rattle.records.proofs.RecordLaws.{headed}
use mathlib.Core.Path.{sym, ◌∙◌}
use Rattle.tables.proofs.judging.judge.Goals as goal

pub count-requires : goal.count-requires
count-requires c = headed _ (sym c.wrong_length.ensures ∙ c.if-wrong_length.false)
