-- What the code's record of what is shown stands for.
use Rattle.std.specs.Prelude.{ℕ, ◌≡◌}
use Rattle.calculus.specs.Rounds.{Shown}
use Rattle.turn.specs.declared.Verdict as codeVerdict
use Rattle.turn.specs.Types.{verdict_of}
use Rattle.rounds.specs.declared.Shown as code

abbrev pub shown_of : code.Shown → Shown
shown_of shown =
    record {
      verdict = verdict_of shown.verdict;
      spent = shown.spent;
      left = shown.left;
      right = shown.right;
      position = shown.position;
    }

-- Each field is that of its name.
pub record ShownFields : Type 0 where
  pub fields : (v : codeVerdict.Verdict) (s l r p : ℕ)
      → shown_of (record { verdict = v; spent = s; left = l; right = r; position = p })
      ≡ record { verdict = verdict_of v; spent = s; left = l; right = r; position = p }
