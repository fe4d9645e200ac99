-- What one walk over a body finds: where it ends, how often each of n bound indices occurs in it, and the binders around its last word.
use Rattle.std.specs.Prelude.{ℕ, suc, ◌+◌, ◌*◌, ◌-◌, ◌≤◌, ◌<◌, ◌≡◌, cond, List, [], ◌∷◌, ◌++◌, eqb, length, get_or, drop, replicate}
use Rattle.calculus.specs.Words.{workspace_most}
use Rattle.calculus.specs.Accepted.{argument_limit}
use Rattle.calculus.specs.Skip.{arity, span}
use Rattle.calculus.specs.First.{first_term}
use Rattle.words.specs.Bound.{bound}
use Rattle.walk.specs.Depths.{depths}
use Rattle.walk.specs.Rewritten.{place}
use Rattle.substitution.specs.Results.{Starts}

-- How often the argument at place j of n stands for a word of the first items, given the binders around each of the items.
abbrev pub occurrences : (n j : ℕ) → List ℕ → List ℕ → ℕ
occurrences n j ds [] = 0
occurrences n j [] (w ∷ ws) = 0
occurrences n j (d ∷ ds) (w ∷ ws) = cond (eqb (place n d w) j) 1 0 + occurrences n j (replicate (arity w) (d + bound w) ++ ds) ws

-- A term stands at the position, there are places for n arguments, and the room has a word for every two of the term.
pub record Measurable (src : List ℕ) (body n : ℕ) (room : List ℕ) : Type 0 where
  pub short : length src ≤ workspace_most
  pub few : n ≤ argument_limit
  pub starts : Starts (drop body src) (first_term (drop body src))
  pub enough : span 1 (drop body src) ≤ 2 * length room

-- Behind the last argument's the places hold 0.
pub record Measures (src : List ℕ) (body n end last : ℕ) (occurs : List ℕ) : Type 0 where
  pub ends : end ≡ body + span 1 (drop body src)
  pub occur : (j : ℕ) → j < n → get_or occurs j 0 ≡ occurrences n j (0 ∷ []) (drop body src)
  pub rest : drop n occurs ≡ replicate (suc argument_limit - n) 0
  pub last_is : last ≡ get_or (depths (0 ∷ []) (drop body src)) (end - body - 1) 0
