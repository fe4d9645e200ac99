-- What the code's types stand for: the answer case by case, the session, and a press's results with the lent slices.
use Rattle.std.specs.Prelude.{ℕ, ◌≡◌, List, Result, Ok, Err}
use Rattle.words.specs.declared.refusal.Refusal as codeRefusal
use Rattle.words.specs.Types.{refusal_of}
use Rattle.turn.specs.declared.Verdict as codeVerdict
use Rattle.turn.specs.Types.{verdict_of}
use Rattle.rounds.specs.declared.Shown as codeShown
use Rattle.rounds.specs.Types.{shown_of}
use Rattle.press.specs.declared.state.Session as codeSession
use Rattle.press.specs.declared.answer.Pressed as codePressed
use Rattle.claim.specs.State.{Session}
use Rattle.claim.specs.Answer.{Answer, refused, shown, Memory, Call, Pressed}

abbrev pub session_of : codeSession.Session → Session
session_of session =
    record { total = session.total; left = session.left; right = session.right; verdict = verdict_of session.verdict }

-- A refusal, or verdict, spent, both lengths and the position.
abbrev pub answer_of : Result codeShown.Shown codeRefusal.Refusal → Answer
answer_of (Err why) = refused (refusal_of why)
answer_of (Ok what) = shown (shown_of what)

abbrev pub memory_of : (left right : List ℕ) → codeSession.Session → Memory
memory_of left right session = record { left = left; right = right; session = session_of session }

abbrev pub call_of : (scratch : List ℕ) (left_length right_length budget : ℕ) → Call
call_of scratch left_length right_length budget =
    record { scratch = scratch; left_length = left_length; right_length = right_length; budget = budget }

-- Everything at exit of the covered press: its result and the three lent slices.
abbrev pub pressed_of : codePressed.Pressed → (left right scratch : List ℕ) → Pressed
pressed_of pressed left right scratch =
    record { answer = answer_of pressed.answer; memory = memory_of left right pressed.session; scratch = scratch }

-- A refusal of the covered press, with the session as it was.
abbrev pub refused_with : codeRefusal.Refusal → codeSession.Session → codePressed.Pressed
refused_with why session = record { answer = Err why; session = session }

-- Each field is that of its name, of a session, a call, and a press that is refused or shows something.
pub record PressFields : Type 0 where
  pub session : (n l r : ℕ) (v : codeVerdict.Verdict)
      → session_of (record { total = n; left = l; right = r; verdict = v }) ≡ record { total = n; left = l; right = r; verdict = verdict_of v }
  pub call : (scratch : List ℕ) (l r b : ℕ) → call_of scratch l r b ≡ record { scratch = scratch; left_length = l; right_length = r; budget = b }
  pub refused_press : (why : codeRefusal.Refusal) (session : codeSession.Session) (left right scratch : List ℕ)
      → pressed_of (refused_with why session) left right scratch
      ≡ record {
        answer = refused (refusal_of why);
        memory = record { left = left; right = right; session = session_of session };
        scratch = scratch;
      }
  pub shown_press : (v : codeVerdict.Verdict) (s l r p : ℕ) (session : codeSession.Session) (left right scratch : List ℕ)
      → pressed_of
      (record { answer = Ok (record { verdict = v; spent = s; left = l; right = r; position = p }); session = session })
      left right scratch
      ≡ record {
        answer = shown (record { verdict = verdict_of v; spent = s; left = l; right = r; position = p });
        memory = record { left = left; right = right; session = session_of session };
        scratch = scratch;
      }
