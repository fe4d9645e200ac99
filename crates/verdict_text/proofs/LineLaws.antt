-- The length of a line.
use Prim.Native.Nat.{ℕ, ◌≤◌}
use native.Mathlib.Omega.{arith}
use lib.ListN.{length, length-append}
use Rattle.calculus.specs.Rounds.{Verdict, Same, Different, Budget, Full}
use Rattle.text.specs.Decimal.{field}
use Rattle.text.proofs.DecimalLaws.{length-decimal}
use Rattle.verdict_text.specs.Line.{Line, input, refuses, shows, name_of, position_field, line_bytes, printed_most}

length_name : (v : Verdict) → length (name_of v) ≤ 9
length_name Same = omega arith
length_name Different = omega arith
length_name Budget = omega arith
length_name Full = omega arith

length_position : (v : Verdict) (p : ℕ) → length (position_field v p) ≤ length (field p)
length_position Same p = omega arith
length_position Different p = omega arith
length_position Budget p = omega arith
length_position Full p = omega arith

-- No line is longer than `printed_most`.
pub line_length : (l : Line) → length (line_bytes l) ≤ printed_most
line_length input = omega arith
line_length (refuses n) = simp length-append (omega (arith, length-decimal n))
line_length (shows a) =
    simp length-append
    (omega (
      arith,
      length_name a.verdict,
      length-decimal a.spent,
      length-decimal a.left,
      length-decimal a.right,
      length_position a.verdict a.position,
      length-decimal a.position,
    ))
