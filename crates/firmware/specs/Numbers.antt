-- Sessions, answers and sides as C sees them, in numbers ("A press", "Showing"), and the number of a call that is not refused.
use Rattle.std.specs.Prelude.{ℕ, ◌<◌, ◌≡◌, cond, List, [], ◌∷◌, eqb, get_or}
use Rattle.calculus.specs.Rounds.{Verdict, Same, Different, Budget, Full, verdict_number, Shown}
use Rattle.claim.specs.State.{Session}
use Rattle.claim.specs.Showing.{Side, left, right}

-- No refusal has this number.
abbrev pub unrefused : ℕ
unrefused = 0

-- The four words of a session.
abbrev pub session_words : Session → List ℕ
session_words s = s.total ∷ s.left ∷ s.right ∷ verdict_number s.verdict ∷ []

-- The verdict of a number, Full for a number that no verdict has.
abbrev pub verdict_numbered : ℕ → Verdict
verdict_numbered n =
    cond (eqb n (verdict_number Same)) Same
    (cond (eqb n (verdict_number Different)) Different
    (cond (eqb n (verdict_number Budget)) Budget
    Full))

-- The session that any four words are.
abbrev pub session_in : List ℕ → Session
session_in ws =
    record { total = get_or ws 0 0; left = get_or ws 1 0; right = get_or ws 2 0; verdict = verdict_numbered (get_or ws 3 0) }

-- Each word of a session is that of its name, both ways, and so the words of a session are that session again; only the number of a verdict stands for
-- that verdict, and every further one for Full.
pub record SessionInWords : Type 0 where
  pub words_of : (n l r : ℕ) (v : Verdict) → session_words (record { total = n; left = l; right = r; verdict = v }) ≡ n ∷ l ∷ r ∷ verdict_number v ∷ []
  pub session-of : (n l r w : ℕ) → session_in (n ∷ l ∷ r ∷ w ∷ []) ≡ record { total = n; left = l; right = r; verdict = verdict_numbered w }
  pub of_a_verdict : (v : Verdict) → verdict_numbered (verdict_number v) ≡ v
  pub of_none : (w : ℕ) → verdict_number Full < w → verdict_numbered w ≡ Full
  pub again : (s : Session) → session_in (session_words s) ≡ s

-- The five words of an answer.
abbrev pub answer_words : Shown → List ℕ
answer_words a = verdict_number a.verdict ∷ a.spent ∷ a.left ∷ a.right ∷ a.position ∷ []

-- Each word of an answer is that of its name.
abbrev pub AnswerInWords : Type 0
AnswerInWords =
    (v : Verdict) (s l r p : ℕ)
    → answer_words (record { verdict = v; spent = s; left = l; right = r; position = p }) ≡ verdict_number v ∷ s ∷ l ∷ r ∷ p ∷ []

abbrev pub side_number : Side → ℕ
side_number left = 0
side_number right = 1
