-- What shift and substitution make of terms that stand in a workspace, and what they ask of these terms.
use Rattle.std.specs.Prelude.{ℕ, ◌+◌, ◌*◌, ◌-◌, ◌≤◌, ◌<◌, ◌≡◌, List, [], ◌∷◌, ℤ, length, get_or, take, drop, replicate}
use Rattle.calculus.specs.Term.{Sort, Exp, Term, count}
use Rattle.calculus.specs.Words.{workspace_most, words, size}
use Rattle.calculus.specs.Accepted.{argument_limit, index_limit}
use Rattle.calculus.specs.Skip.{span}
use Rattle.calculus.specs.First.{first_term, first_terms}
use Rattle.calculus.specs.Shift.{shift}
use Rattle.calculus.specs.Substitution.{subst}
use Rattle.calculus.specs.Theorems.{Packable, IndicesWithin}
use Rattle.walk.specs.Index.{Movable}
use Rattle.walk.specs.Depths.{depths}
use Rattle.walk.specs.Rewritten.{place}

-- The words start with those of e.
pub record Starts {s : Sort} (ws : List ℕ) (e : Exp s) : Type 0 where
  pub first : take (size e) ws ≡ words e
  pub packable : Packable e

-- The positions at which n consecutive items from position `at` on start, and behind them the position `after`; the places behind that hold 0.
pub record Positions (ws : List ℕ) (at after n : ℕ) (starts : List ℕ) : Type 0 where
  pub each : (j : ℕ) → j < n → get_or starts j 0 ≡ at + span j (drop at ws)
  pub rest : drop n starts ≡ after ∷ replicate (argument_limit - n) 0

-- The term at a position with its free indices moved.
unfoldable pub shifted : List ℕ → (at : ℕ) → ℤ → Term
shifted ws at z = shift z 0 (first_term (drop at ws))

-- A term stands at the position, and each of its free indices may be moved.
pub record Shiftable (ws : List ℕ) (at : ℕ) (distance : ℤ) : Type 0 where
  pub short : length ws ≤ workspace_most
  pub starts : Starts (drop at ws) (first_term (drop at ws))
  pub movable : Movable distance 0 (first_term (drop at ws))

-- The body at a position with the n arguments at another put for its first n indices.
unfoldable pub substituted : List ℕ → (body args n : ℕ) → Term
substituted ws body args n = subst (first_terms n (drop args ws)) 0 (first_term (drop body ws))

-- A body stands at the one position and n arguments at the other, with indices as in accepted terms of a workspace (`IndicesBounded`).
pub record Substitutable (ws : List ℕ) (body args n : ℕ) : Type 0 where
  pub short : length ws ≤ workspace_most
  pub few : n ≤ argument_limit
  pub body_starts : Starts (drop body ws) (first_term (drop body ws))
  pub args_start : Starts (drop args ws) (first_terms n (drop args ws))
  pub args_count : count (first_terms n (drop args ws)) ≡ n
  pub args_indices : IndicesWithin index_limit (first_terms n (drop args ws))

-- One of n arguments stands for the word of a body at position i.
abbrev pub Replaced : List ℕ → (body n i : ℕ) → Type 0
Replaced ws body n i = place n (get_or (depths (0 ∷ []) (drop body ws)) (i - body) 0) (get_or ws i 0) < n

-- The words before `stop` are words of the body, the arguments end at `after` if one of them stands for a word there, and the room has a word for
-- every two words of both.
pub record Substitutes (ws : List ℕ) (body stop args after n : ℕ) (room : List ℕ) : Type 0 where
  pub substitutable : Substitutable ws body args n
  pub from : body ≤ stop
  pub to : stop ≤ body + span 1 (drop body ws)
  pub after_is : (i : ℕ) → body ≤ i → i < stop → Replaced ws body n i → after ≡ args + span n (drop args ws)
  pub enough : span 1 (drop body ws) + span n (drop args ws) ≤ 2 * length room
