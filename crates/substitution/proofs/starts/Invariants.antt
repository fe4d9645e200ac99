use Prim.Native.Nat.{ℕ, suc, ◌-◌, ◌≤◌}
use Rattle.calculus.specs.Accepted.{argument_limit}
use Rattle.substitution.proofs.StartLaws.{Offsets}
use lib.ListN.{length, drop, replicate}
use mathlib.Core.Path.{◌≡◌}
use Rattle.substitution.proofs.starts.Given as goal

abbrev pub invariant-loop-j : goal.invariant-loop-j
invariant-loop-j l =
    (length l.starts ≡ suc argument_limit) × (l.j ≤ suc l.body.count) × Offsets l.src l.body.args l.starts l.j × ((k : ℕ) → l.j ≤ k → drop k l.starts ≡ replicate (suc argument_limit - k) 0)
