-- The rounds without limit of budget or length, and what a verdict says of the two terms. What they are asked first is a parameter throughout.
use Rattle.std.specs.Prelude.{ℕ, ◌+◌, ◌≤◌, max, ◌≡◌}
use Rattle.std.proofs.Math.Option.{some, none}
use Rattle.calculus.specs.Term.{Term}
use Rattle.calculus.specs.Leftmost.{leftmost}
use Rattle.calculus.specs.Conversion.{Joined}
use Rattle.calculus.specs.Rounds.{Verdict, Same, Different, Budget, Full, Decided, Outcome, contractions, longest, next, next_length, Question, same, ended, after, rounds_by}

-- The rounds from t and u end in this outcome, and `length` is that of the longest next term on the way, 0 if there is none.
pub data Unlimited (early : Question) : (t u : Term) (length : ℕ) → Outcome → Type 0 where
  at_once : {t u : Term} {v : Verdict} → early t u ≡ some v → Unlimited early t u 0 (ended v t u)
  both_normal : {t u : Term} → early t u ≡ none → leftmost t ≡ none → leftmost u ≡ none → Unlimited early t u 0 (ended Different t u)
  onward : {t u : Term} {m : ℕ} {o : Outcome} → early t u ≡ none → 1 ≤ contractions (next_length t) + contractions (next_length u)
      → Unlimited early (next t) (next u) m o
      → Unlimited early t u (max (longest (next_length t) (next_length u)) m) (after (contractions (next_length t) + contractions (next_length u)) o)

-- Where they end, the rounds with C and a budget end so just if the longest next term fits C and the budget covers what is spent, and in no other way.
abbrev pub UnlimitedExact : Question → Type 0
UnlimitedExact early =
    (t u : Term) (m : ℕ) (o : Outcome) → Unlimited early t u m o → (C B : ℕ)
    → (m ≤ C → o.spent ≤ B → rounds_by early C B t u ≡ o) × (Decided (rounds_by early C B t u).verdict → (m ≤ C) × (o.spent ≤ B))

-- Rounds that give Same or Different are such.
abbrev pub UnlimitedFound : Question → Type 0
UnlimitedFound early =
    (t u : Term) (C B : ℕ) → Decided (rounds_by early C B t u).verdict → (m : ℕ) × (m ≤ C) × Unlimited early t u m (rounds_by early C B t u)

-- What a verdict that stays says of two terms: Same that a chain joins them, Different that none does.
abbrev pub Exact : Verdict → Term → Term → Type 0
Exact Same t u = Joined t u
Exact Different t u = Joined t u → ⊥
Exact Budget t u = ⊥
Exact Full t u = ⊥

-- A question whose answers are exact and that finds equal terms.
pub record Sound (early : Question) : Type 0 where
  pub answers : (t u : Term) (v : Verdict) → early t u ≡ some v → Exact v t u
  pub finds : (t u : Term) → early t u ≡ none → t ≡ u → ⊥

-- The verdicts of rounds by a sound question are exact, and a press's question is sound.
abbrev pub VerdictsExact : Type 0
VerdictsExact =
    (early : Question) → Sound early → (C B : ℕ) (t u : Term) → Decided (rounds_by early C B t u).verdict → Exact (rounds_by early C B t u).verdict t u

abbrev pub SameSound : Type 0
SameSound = Sound same
