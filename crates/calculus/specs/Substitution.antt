-- Simultaneous substitution ("Contraction"): all arguments replace together; the last argument is index 0, the first is their number minus 1.
-- Free indices of an argument rise by the binders crossed, and indices past the removed binders fall by the number of arguments. Beta is the
-- substitution of one argument.
use Rattle.std.specs.Prelude.{ℕ, ◌-◌, cond, ltb, eqb, pos, neg_ℤ}
use Rattle.std.proofs.Math.Option.{Option, some, none}
use Rattle.calculus.specs.Term.{Sort, Exp, var, nil, cons, Term, Terms, count}
use Rattle.calculus.specs.Traverse.{traverse}
use Rattle.calculus.specs.Shift.{move, shift}

-- The argument that index k stands for, counted from the last, or none past the first.
abbrev pub argument : Terms → ℕ → Option Term
argument nil k = none
argument (cons a xs) k = cond (eqb k (count xs)) (some a) (argument xs k)

-- An index that is at least the depth: the argument raised by the binders crossed, or the index lowered by the removed binders.
abbrev pub replaced : Terms → (depth i : ℕ) → Option Term → Term
replaced xs depth i (some a) = shift (pos depth) 0 a
replaced xs depth i none = var (move (neg_ℤ (pos (count xs))) i)

-- An index: below the depth it stays.
abbrev pub replacing : Terms → (depth i : ℕ) → Term
replacing xs depth i = cond (ltb i depth) (var i) (replaced xs depth i (argument xs (i - depth)))

-- The arguments put for the indices from `depth` on; `depth` is the number of binders crossed.
abbrev pub subst : {s : Sort} → Terms → ℕ → Exp s → Exp s
subst xs depth e = traverse (replacing xs) depth e
