-- What the next round may take up again after a round: where the search on a side goes on, and how many first words of both sides are the same.
use Rattle.std.specs.Prelude.{ℕ, ◌+◌, ◌-◌, ◌≤◌, min, ◌≡◌, cond, ◌&&◌, List, eqb, leb, drop}
use Rattle.calculus.specs.Skip.{span}
use Rattle.redex.specs.Held.{held, Holds}
use Rattle.turn.specs.Turn.{Plan, normal, contract, planned}

-- From where the search goes on, on a side with a next term of `wordCount` words: no redex starts before.
abbrev pub resume_at : (wordCount : ℕ) → Plan → ℕ
resume_at wordCount normal = wordCount
resume_at wordCount (contract position nextSize) = position - 1

-- How many first words agree after a round, of which `agree` did before it, by both sides' plans; the left side has the `wordCount` first words of ws.
-- A contraction changes no word before its position. Where both sides contract at the same position, and the redex is within the words that agree,
-- what follows it there agrees still.
abbrev pub agree_both : (ws : List ℕ) (wordCount agree position nextSize other : ℕ) → ℕ
agree_both ws wordCount agree position nextSize other =
    cond (eqb position other && leb (position + span 1 (drop position ws)) agree) (nextSize - (wordCount - agree)) (min agree (min position other))

abbrev pub agreeAfter : (ws : List ℕ) (wordCount agree : ℕ) → Plan → Plan → ℕ
agreeAfter ws wordCount agree normal normal = agree
agreeAfter ws wordCount agree (contract position nextSize) normal = min agree position
agreeAfter ws wordCount agree normal (contract other nextSize) = min agree other
agreeAfter ws wordCount agree (contract position nextSize) (contract other nextSize') = agree_both ws wordCount agree position nextSize other

-- The left side holds a term of which so many words agree, and this is the plan for it.
pub record Agreeing (ws : List ℕ) (wordCount agree : ℕ) (plan : Plan) : Type 0 where
  pub holds : Holds ws wordCount
  pub within : agree ≤ wordCount
  pub plan_is : plan ≡ planned (held ws wordCount)
