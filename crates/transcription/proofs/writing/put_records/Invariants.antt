use Rattle.transcription.proofs.WritingLaws.{Putting}
use Rattle.transcription.proofs.writing.put_records.Given as goal

abbrev pub invariant-loop-i : goal.invariant-loop-i
invariant-loop-i l = Putting l.ws l.initial.table l.table l.levels l.top l.i
