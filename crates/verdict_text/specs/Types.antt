-- What the code's lines stand for, case by case.
use Rattle.rounds.specs.Types.{shown_of}
use Rattle.verdict_text.specs.declared.Line as code
use Rattle.verdict_text.specs.declared.Line.TheVariants as line
use Rattle.verdict_text.specs.Line.{Line, input, refuses, shows}

abbrev pub printed_line : code.Line → Line
printed_line line.Input = input
printed_line (line.Refuses n) = refuses n
printed_line (line.Shows a) = shows (shown_of a)
