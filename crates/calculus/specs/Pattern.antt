-- Tests for tags ("Terms and words"): whether a number is a tag, two numbers a constructor's tag and number of arguments, and two a branch's tag and
-- bound count. They decide `IsTag`, `Tagged` and `Pattern`.
use Rattle.std.specs.Prelude.{ℕ, Bool, ◌&&◌, ◌||◌, leb}
use Rattle.calculus.specs.Term.{is_default}
use Rattle.calculus.specs.Accepted.{tag_limit, argument_limit}

abbrev pub is_tag : ℕ → Bool
is_tag t = leb 1 t && leb t tag_limit

abbrev pub is_tagged : (t n : ℕ) → Bool
is_tagged t n = is_tag t && leb n argument_limit

abbrev pub is_pattern : (t n : ℕ) → Bool
is_pattern t n = is_default t n || is_tagged t n
