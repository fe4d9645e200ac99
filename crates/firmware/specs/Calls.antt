-- What C sees of each call, by everything at entry: the number that is returned, what is lent for the rest of the answer, and every other lent word or byte.
-- The number is `unrefused`, or that of the refusal ("Numbers for refused calls"), which changes nothing that was lent.
use Rattle.std.specs.Prelude.{ℕ, ◌≡◌, List}
use Rattle.calculus.specs.Refusal.{Refusal, number}
use Rattle.calculus.specs.Bringing.{Brought}
use Rattle.calculus.specs.Bringing as bring
use Rattle.calculus.specs.Rounds.{Shown}
use Rattle.claim.specs.State.{Session}
use Rattle.claim.specs.Answer.{Call, Pressed}
use Rattle.claim.specs.Answer as claim
use Rattle.claim.specs.Press.{press}
use Rattle.claim.specs.Showing.{Part}
use Rattle.claim.specs.Showing as side
use Rattle.storage.specs.Write.{Written}
use Rattle.encoding.specs.Export.{Exported}
use Rattle.firmware.specs.Numbers.{unrefused, session_words, session_in, answer_words, side_number}

-- Of an answer that is a count: what is returned, and the lent count, which held `count`.
abbrev pub count_seen : (count : ℕ) → bring.Result → ℕ × ℕ
count_seen count (bring.refused why) = (number why, count)
count_seen count (bring.returned n) = (unrefused, n)

-- Of the calls that bring a term in, of writing and of exporting.
abbrev pub brought_seen : (count : ℕ) → Brought → (ℕ × ℕ) × List ℕ
brought_seen count b = (count_seen count b.answer, b.workspace)

abbrev pub written_seen : (count : ℕ) → Written → (ℕ × ℕ) × List ℕ
written_seen count w = (count_seen count w.answer, w.table)

abbrev pub exported_seen : (count : ℕ) → Exported → (ℕ × ℕ) × List ℕ
exported_seen count e = (count_seen count e.answer, e.bytes)

-- Of a press's answer: what is returned, and the words that were lent for session and answer.
abbrev pub answer_seen : (session answer : List ℕ) → claim.Answer → (renewed : Session) → ℕ × List ℕ × List ℕ
answer_seen session answer (claim.refused why) renewed = (number why, session, answer)
answer_seen session answer (claim.shown a) renewed = (unrefused, session_words renewed, answer_words a)

-- With these the left and the right workspace and the scratch.
abbrev pub PressExit : Type 0
PressExit = (ℕ × List ℕ × List ℕ) × List ℕ × List ℕ × List ℕ

abbrev pub pressed_seen : (session answer : List ℕ) → Pressed → PressExit
pressed_seen session answer p =
    (answer_seen session answer p.answer p.memory.session, p.memory.left, p.memory.right, p.scratch)

-- Of a press on two workspaces.
abbrev pub press_seen : (session answer left right : List ℕ) → Call → PressExit
press_seen session answer left right call =
    pressed_seen session answer (press (record { left = left; right = right; session = session_in session }) call)

-- Of a showing, which has no refusal but an empty part: the side that is returned, and the lent count.
abbrev pub part_seen : Part → ℕ × ℕ
part_seen p = (side_number p.side, p.count)

-- What C sees of each answer: 0 and what the call returned or left, or the number of the refusal and what was lent.
pub record SeenFields : Type 0 where
  pub count_returned : (count n : ℕ) → count_seen count (bring.returned n) ≡ (0, n)
  pub count_refused : (count : ℕ) (why : Refusal) → count_seen count (bring.refused why) ≡ (number why, count)
  pub brought : (count : ℕ) (a : bring.Result) (workspace : List ℕ)
      → brought_seen count (record { answer = a; workspace = workspace }) ≡ (count_seen count a, workspace)
  pub written : (count : ℕ) (a : bring.Result) (table : List ℕ)
      → written_seen count (record { answer = a; table = table }) ≡ (count_seen count a, table)
  pub exported : (count : ℕ) (a : bring.Result) (bytes : List ℕ)
      → exported_seen count (record { answer = a; bytes = bytes }) ≡ (count_seen count a, bytes)
  pub press_shown : (session answer : List ℕ) (a : Shown) (l r : List ℕ) (s : Session) (scratch : List ℕ)
      → pressed_seen session answer (record { answer = claim.shown a; memory = record { left = l; right = r; session = s }; scratch = scratch })
      ≡ ((0, session_words s, answer_words a), l, r, scratch)
  pub press_refused : (session answer : List ℕ) (why : Refusal) (l r : List ℕ) (s : Session) (scratch : List ℕ)
      → pressed_seen session answer (record { answer = claim.refused why; memory = record { left = l; right = r; session = s }; scratch = scratch })
      ≡ ((number why, session, answer), l, r, scratch)
  pub press_from : (session answer l r : List ℕ) (call : Call)
      → press_seen session answer l r call ≡ pressed_seen session answer (press (record { left = l; right = r; session = session_in session }) call)
  pub left_part : (n : ℕ) → part_seen (record { side = side.left; count = n }) ≡ (0, n)
  pub right_part : (n : ℕ) → part_seen (record { side = side.right; count = n }) ≡ (1, n)
