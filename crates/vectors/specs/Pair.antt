-- What a line of presses and showings says: `pair C left right CALL ..`.
use Rattle.std.specs.Prelude.{ℕ, zero, suc, ◌+◌, min, Bool, false, cond, ◌&&◌, List, eqb, leb, length, replicate}
use Rattle.calculus.specs.Words.{workspace_most}
use Rattle.calculus.specs.Rounds.{Verdict, Full}
use Rattle.turn.specs.declared.Verdict.TheVariants as verdict
use Rattle.claim.specs.State.{Session, fresh}
use Rattle.claim.specs.Answer.{Answer, Pressed}
use Rattle.claim.specs.Press.{press}
use Rattle.claim.specs.Showing.{show, part_words}
use Rattle.turn.specs.Types.{verdict_of}
use Rattle.press.specs.Types.{session_of, call_of}
use Rattle.vector_text.specs.Text.{nowhere, after, number_at, setting_at}
use Rattle.text.specs.Names.{show_name, left_name, right_name, scratch_name, same_name, different_name, budget_name, full_name, refusal_name}
use Rattle.vectors.specs.Keywords.{total_word, press_word}
use Rattle.vectors.specs.Keywords.{at_word}
use Rattle.vector_text.specs.Compared.{are_words}
use Rattle.vector_text.specs.Lists.{Listed, comma, list_at, Compared, compared_at}
use Rattle.vectors.specs.Answers.{is_session, is_shown, is_refused}
use Rattle.turn.specs.declared.Verdict as codeVerdict
use Rattle.vectors.specs.declared.pair.Given as codeGiven
use Rattle.vectors.specs.declared.pair.Lent as codeLent
use Rattle.vectors.specs.declared.pair.State as code

-- One word more than a workspace may have, and what lies beyond a term, and in a scratch, before a call.
abbrev pub room : ℕ
room = suc workspace_most

abbrev pub junk : ℕ
junk = 7

abbrev pub junk_words : (n : ℕ) → List ℕ
junk_words n = replicate (min n room) junk

-- Where reading goes on after a test.
abbrev pub only_if : (passed : Bool) (next : ℕ) → ℕ
only_if passed next = cond passed next nowhere

-- The verdict that comes next, and where reading goes on.
pub record Named : Type 0 where
  pub verdict : codeVerdict.Verdict
  pub next : ℕ

unfoldable pub verdict_at : List ℕ → (at : ℕ) → Named
verdict_at line at =
    cond (eqb (after line at same_name) nowhere)
    (cond (eqb (after line at different_name) nowhere)
    (cond (eqb (after line at budget_name) nowhere)
    (record { verdict = verdict.Full; next = after line at full_name })
    (record { verdict = verdict.Budget; next = after line at budget_name }))
    (record { verdict = verdict.Different; next = after line at different_name }))
    (record { verdict = verdict.Same; next = after line at same_name })

-- The lengths that a call gets, its scratch's, and where reading goes on.
pub record Given : Type 0 where
  pub left : ℕ
  pub right : ℕ
  pub scratch : ℕ
  pub next : ℕ

abbrev pub given_of : codeGiven.Given → (next : ℕ) → Given
given_of g next = record { left = g.left; right = g.right; scratch = g.scratch; next = next }

-- `left n`, `right n` and `scratch n`, each with its default.
unfoldable pub given_at : List ℕ → (at left right scratch : ℕ) → Given
given_at line at left right scratch =
    let l = setting_at line at left_name left in
    let r = setting_at line l.next right_name right in
    let s = setting_at line r.next scratch_name scratch in
    record { left = l.value; right = r.value; scratch = s.value; next = s.next }

-- Whether both workspaces and the scratch are as they should be, the lengths of the terms, and where reading goes on.
pub record Lent : Type 0 where
  pub equal : Bool
  pub left : ℕ
  pub right : ℕ
  pub next : ℕ

abbrev pub lent_read : codeLent.Lent → (next : ℕ) → Lent
lent_read l next = record { equal = l.equal; left = l.left; right = l.right; next = next }

-- Both workspaces beside the words at a position, with a tail, and the scratch beside equal words.
unfoldable pub lent_at : List ℕ → (at : ℕ) → (left right : List ℕ) (tail : ℕ) (scratch : List ℕ) (word : ℕ) → Lent
lent_at line at left right tail scratch word =
    let l = compared_at line at left tail in
    let r = compared_at line l.next right tail in
    record {
      equal = (l.equal && r.equal) && are_words scratch scratch 0 word;
      left = l.count;
      right = r.count;
      next = r.next;
    }

abbrev pub lent_by : List ℕ → (at : ℕ) → Pressed → (tail word : ℕ) → Lent
lent_by line at p tail word = lent_at line at p.memory.left p.memory.right tail p.scratch word

-- Between two calls: where the line is read on, where it has the words of both terms, their lengths, what lies beyond them in their workspaces, and
-- the session.
pub record Stage : Type 0 where
  pub at : ℕ
  pub terms : ℕ
  pub left : ℕ
  pub right : ℕ
  pub tail : ℕ
  pub session : Session

abbrev pub stage_of : (at : ℕ) → code.State → Stage
stage_of at s = record { at = at; terms = s.terms; left = s.left; right = s.right; tail = s.tail; session = session_of s.session }

abbrev pub read_on : Stage → (at : ℕ) → Stage
read_on s at = record { at = at; terms = s.terms; left = s.left; right = s.right; tail = s.tail; session = s.session }

-- A refusal with the number at a position: the session and all words are as before.
unfoldable pub refused_after : List ℕ → (at : ℕ) → Lent → Answer → Session → Stage → Stage
refused_after line at lent answer session s =
    let n = number_at line at in
    let old = s.session in
    read_on s
    (only_if
    ((lent.equal && is_session session old.total old.left old.right old.verdict) && is_refused answer n.value)
    n.next)

-- A verdict with a number spent, the position where the terms differ, and terms that stand at a position of the line: the session is renewed.
unfoldable pub counted_after : Verdict → (spent position terms : ℕ) → Lent → Answer → Session → Stage → Stage
counted_after v spent position terms lent answer session s =
    record {
      at =
          only_if
          ((lent.equal && is_session session (s.session.total + spent) lent.left lent.right v)
          && is_shown answer v spent lent.left lent.right position)
          lent.next;
      terms = terms;
      left = lent.left;
      right = lent.right;
      tail = 0;
      session = session;
    }

-- What a press left, beside what the line says at a position.
unfoldable pub checked : List ℕ → (at : ℕ) → Pressed → Stage → Stage
checked line at p s =
    let session = p.memory.session in
    let refused = after line at refusal_name in
    let v = verdict_at line at in
    let spent = number_at line v.next in
    let position = setting_at line spent.next at_word 0 in
    cond (eqb refused nowhere)
    (counted_after (verdict_of v.verdict) spent.value position.value position.next (lent_by line position.next p 0 0) p.answer session s)
    (refused_after line refused (lent_by line s.terms p s.tail junk) p.answer session s)

-- A call leaves a stage and both workspaces.
pub record Stepped : Type 0 where
  pub stage : Stage
  pub left : List ℕ
  pub right : List ℕ

abbrev pub stepped_of : Stage → (left right : List ℕ) → Stepped
stepped_of s left right = record { stage = s; left = left; right = right }

-- A press with the budget that comes next, and a scratch of junk.
abbrev pub stepped_after : List ℕ → (at : ℕ) → Stage → Pressed → Stepped
stepped_after line at s p = record { stage = checked line at p s; left = p.memory.left; right = p.memory.right }

unfoldable pub press_step : List ℕ → Given → (left right : List ℕ) → Stage → Stepped
press_step line g left right s =
    let budget = number_at line (after line g.next press_word) in
    stepped_after line budget.next s
    (press
    (record { left = left; right = right; session = s.session })
    (call_of (junk_words g.scratch) g.left g.right budget.value))

-- The part that is shown, beside the list at a position.
abbrev pub shown_by : (part : List ℕ) → Compared → ℕ
shown_by part c = only_if (c.equal && eqb c.count (length part)) c.next

unfoldable pub shown_after : List ℕ → (at : ℕ) → (left right : List ℕ) (l r : ℕ) → ℕ
shown_after line at left right l r = let part = part_words left right (show left right l r) in shown_by part (compared_at line at part 0)

-- A call with what stands in front of it.
unfoldable pub stepped : List ℕ → Stepped → Stepped
stepped line s =
    let g = given_at line s.stage.at s.stage.left s.stage.right (length s.left) in
    let shown = after line g.next show_name in
    cond (eqb shown nowhere) (press_step line g s.left s.right s.stage)
    (record {
      stage = read_on s.stage (shown_after line shown s.left s.right g.left g.right);
      left = s.left;
      right = s.right;
    })

-- Calls to the line's end, at most `turns` of them; a line has fewer calls than bytes.
pub record Ended : Type 0 where
  pub holds : Bool
  pub left : List ℕ
  pub right : List ℕ

abbrev pub ended_of : Bool → (left right : List ℕ) → Ended
ended_of holds left right = record { holds = holds; left = left; right = right }

unfoldable pub steps_from : (turns : ℕ) → List ℕ → Stepped → Ended
steps_from zero line s = ended_of false s.left s.right
steps_from (suc k) line s =
    let t = stepped line s in
    let at = t.stage.at in
    cond (leb (length line) at) (ended_of (eqb at (length line)) t.left t.right) (steps_from k line t)

-- The session that the first call gets: a fresh one, or after `total` one that has spent a number and has lengths of no term.
pub record Opened : Type 0 where
  pub session : Session
  pub next : ℕ

unfoldable pub opened_at : List ℕ → (at : ℕ) → Opened
opened_at line at =
    let from = after line at total_word in
    let n = number_at line from in
    cond (eqb from nowhere) (record { session = fresh; next = at })
    (record { session = record { total = n.value; left = room; right = room; verdict = Full }; next = n.next })

-- Two terms, a session and calls.
abbrev pub start_at : (at : ℕ) → (left right : Listed) → Opened → Stepped
start_at at l r o =
    record {
      stage = record { at = o.next; terms = at; left = l.count; right = r.count; tail = junk; session = o.session };
      left = l.words;
      right = r.words;
    }

abbrev pub run_from : List ℕ → (at : ℕ) → (left right : Listed) → Ended
run_from line at l r = steps_from (length line) line (start_at at l r (opened_at line r.next))

unfoldable pub pair_run : List ℕ → (at : ℕ) → (left right : List ℕ) → Ended
pair_run line at left right = let l = list_at line at left in run_from line at l (list_at line l.next right)

-- Whether a line is right, from its sizes on.
unfoldable pub pair_holds : List ℕ → (at : ℕ) → Bool
pair_holds line at =
    let c = number_at line at in
    let d = setting_at line c.next comma c.value in
    (pair_run line d.next (junk_words c.value) (junk_words d.value)).holds
