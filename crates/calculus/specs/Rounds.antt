-- The rounds of a press ("A press"), on terms, a workspace length C and a budget that may be any natural number. A press is a bounded run; a
-- round makes one leftmost contraction on each side that is not normal. The five points of a round stand once, in `round`: over what each side
-- would do, so that the code's round is held to the same definition.
use Rattle.std.specs.Prelude.{ℕ, zero, suc, ◌+◌, ◌-◌, max, ◌≡◌, cond, ◌⊎◌, ltb, eqb}
use Rattle.std.proofs.Math.Logic.{ite}
use Rattle.std.proofs.Math.Option.{Option, some, none, map, get_or}
use Rattle.calculus.specs.Term.{Term}
use Rattle.calculus.specs.Words.{size}
use Rattle.calculus.specs.Leftmost.{leftmost}
use Rattle.calculus.specs.Equality.{equal?}
use Rattle.calculus.specs.Comparison.{Comparison, compare, position_of}

pub data Verdict : Type 0 where
  Same Different Budget Full : Verdict

-- The number of a verdict, wherever one travels as a number.
abbrev pub verdict_number : Verdict → ℕ
verdict_number Same = 0
verdict_number Different = 1
verdict_number Budget = 2
verdict_number Full = 3

-- A verdict that stays.
abbrev pub Decided : Verdict → Type 0
Decided v = (v ≡ Same) ⊎ (v ≡ Different)

-- What the rounds end in: the verdict, the contractions made, and the two current terms.
pub record Outcome : Type 0 where
  pub verdict : Verdict
  pub spent : ℕ
  pub left : Term
  pub right : Term

-- What is shown of it: verdict, spent, both lengths and a position.
pub record Shown : Type 0 where
  pub verdict : Verdict
  pub spent : ℕ
  pub left : ℕ
  pub right : ℕ
  pub position : ℕ

-- With Different the position is the smallest one where the two current terms differ; with every other verdict it is 0.
abbrev pub shown_position : Verdict → Comparison → ℕ
shown_position Same compared = 0
shown_position Different compared = position_of compared
shown_position Budget compared = 0
shown_position Full compared = 0

abbrev pub shows : Outcome → Shown
shows o =
    record {
      verdict = o.verdict;
      spent = o.spent;
      left = size o.left;
      right = size o.right;
      position = shown_position o.verdict (compare o.left o.right);
    }

-- The same with another spent.
abbrev pub with_spent : ℕ → Shown → Shown
with_spent n a = record { verdict = a.verdict; spent = n; left = a.left; right = a.right; position = a.position }

-- What a side would do in a round is told by the length of its next term, none where it is normal: how many contractions it makes, and the length
-- of the longest next term.
abbrev pub contractions : Option ℕ → ℕ
contractions none = 0
contractions (some n) = 1

abbrev pub longest : Option ℕ → Option ℕ → ℕ
longest l r = max (get_or l 0) (get_or r 0)

-- A round ends in a verdict, or makes so many contractions.
pub data Round : Type 0 where
  ends : Verdict → Round
  goes : ℕ → Round

-- One round in workspaces of C words with `rest` left of the budget: points 1 to 5 in this order. `answered` is the verdict that the two terms give
-- before either is contracted (point 1).
abbrev pub round : (answered : Option Verdict) (C rest : ℕ) (left right : Option ℕ) → Round
round (some v) C rest l r = ends v
round none C rest l r =
    cond (eqb (contractions l + contractions r) 0) (ends Different)
    (cond (ltb rest (contractions l + contractions r)) (ends Budget)
    (cond (ltb C (longest l r)) (ends Full)
    (goes (contractions l + contractions r))))

-- A side's next term, its leftmost contractum, or the term itself where it is normal; and its length, none where it is normal.
abbrev pub next : Term → Term
next t = get_or (leftmost t) t

abbrev pub next_length : Term → Option ℕ
next_length t = map size (leftmost t)

-- What two terms are asked before either is contracted.
abbrev pub Question : Type 0
Question = Term → Term → Option Verdict

-- Whether they are equal: then Same.
unfoldable pub same : Question
same t u = ite (equal? t u) (some Same) none

-- Point 1, what a press asks: equal terms, Same.
abbrev pub at_once : Question
at_once = same

-- A round on two terms, by what is asked first.
abbrev pub round_by : Question → (C rest : ℕ) → Term → Term → Round
round_by early C rest t u = round (early t u) C rest (next_length t) (next_length u)

-- No contraction was made.
abbrev pub ended : Verdict → Term → Term → Outcome
ended v t u = record { verdict = v; spent = 0; left = t; right = u }

-- An outcome with p contractions made before.
abbrev pub after : ℕ → Outcome → Outcome
after p o = record { verdict = o.verdict; spent = p + o.spent; left = o.left; right = o.right }

-- The rounds with `rest` left of the budget, at most n that go on. Each makes a contraction at least, so that with n for the whole budget the case
-- that says Budget here never arises.
unfoldable pub rounds_in : Question → (n C rest : ℕ) → Term → Term → Outcome
rounds_in early zero C rest t u = elim (round_by early C rest t u) [ ends v ↦ ended v t u | goes p ↦ ended Budget t u ]
rounds_in early (suc n) C rest t u =
    elim (round_by early C rest t u) [ ends v ↦ ended v t u | goes p ↦ after p (rounds_in early n C (rest - p) (next t) (next u)) ]

unfoldable pub rounds_by : Question → (C budget : ℕ) → Term → Term → Outcome
rounds_by early C budget t u = rounds_in early budget C budget t u

-- The rounds of a press.
abbrev pub rounds : (C budget : ℕ) → Term → Term → Outcome
rounds = rounds_by at_once
