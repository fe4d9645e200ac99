-- Moving indices ("Contraction"): every move of an index is by a signed amount, and an index bound inside the moved part itself never moves.
use Rattle.std.specs.Prelude.{ℕ, suc, ◌+◌, ◌-◌, cond, ltb, ℤ, pos, negsuc}
use Rattle.calculus.specs.Term.{Sort, Exp, var, Term}
use Rattle.calculus.specs.Traverse.{traverse}

-- The index moved by a signed distance: their sum as integers wherever that is not negative (`MoveExact`).
abbrev pub move : ℤ → ℕ → ℕ
move (pos n) i = i + n
move (negsuc n) i = i - suc n

-- An index: below the cutoff it stays, the others move.
abbrev pub moving : ℤ → (cutoff i : ℕ) → Term
moving z cutoff i = var (cond (ltb i cutoff) i (move z i))

-- The free indices of an expression moved by a signed distance; `cutoff` is the number of binders inside the moved part.
abbrev pub shift : {s : Sort} → ℤ → ℕ → Exp s → Exp s
shift z cutoff e = traverse (moving z) cutoff e
