-- One traversal for every move of indices ("Contraction"): what is put for a variable depends on its index and on the binders crossed, and is
-- taken through every sort; a numeral is closed and stays. Shift and substitution each say it for a variable and are instances.
use Rattle.std.specs.Prelude.{ℕ, suc, ◌+◌}
use Rattle.calculus.specs.Term.{Sort, Exp, var, lam, app, con, case, num, nil, cons, end, branch, Term}

-- The expression, d binders being crossed, with `f d i` for each index i under d binders.
abbrev pub traverse : {s : Sort} → (ℕ → ℕ → Term) → ℕ → Exp s → Exp s
traverse f d (var i) = f d i
traverse f d (lam b) = lam (traverse f (suc d) b)
traverse f d (app g a) = app (traverse f d g) (traverse f d a)
traverse f d (con t xs) = con t (traverse f d xs)
traverse f d (case e bs) = case (traverse f d e) (traverse f d bs)
traverse f d (num n) = num n
traverse f d nil = nil
traverse f d (cons a xs) = cons (traverse f d a) (traverse f d xs)
traverse f d end = end
traverse f d (branch t n b bs) = branch t n (traverse f (d + n) b) (traverse f d bs)
