-- The binders of a word: how many stand around the items that follow it and not around the word itself.
use Rattle.std.specs.Prelude.{ℕ, cond, eqb}
use Rattle.calculus.specs.Words.{abstraction_kind, branch_kind, kind_of, payload_of, count_of}

unfoldable pub binding : (kind payload : ℕ) → ℕ
binding k p = cond (eqb k abstraction_kind) 1 (cond (eqb k branch_kind) (count_of p) 0)

abbrev pub bound : ℕ → ℕ
bound w = binding (kind_of w) (payload_of w)
