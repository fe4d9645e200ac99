-- Words brought into a workspace: placed at the start, and zeros after them.
use Prim.Native.Nat.{ℕ, ◌+◌, ◌-◌, ◌≤◌}
use mathlib.Core.Path.{◌≡◌, ap₂, ◌∙◌}
use mathlib.Core.List.{List, ◌++◌}
use native.Mathlib.Omega.{arith}
use lib.ListN.{length, take, drop, replicate}
use lib.Seq.{sets-eq, take-append_seam}
use Rattle.calculus.specs.Workspace.{padded}
use Rattle.calculus.specs.Bringing.{returned, Brought, hold}
use Rattle.words.specs.Placed.{Placed}
use Rattle.words.proofs.PlacedLaws.{placed_length}

module _ (vs workspace : List ℕ) (room : length vs ≤ length workspace) where
  pub held : (after last : List ℕ) (end : ℕ) → Placed workspace 0 vs after end → last ≡ take end after ++ replicate (length after - end) 0
      → ◌≡◌ {A = Brought} (record { answer = returned end; workspace = last }) (hold workspace vs)
  held after last end p e = ap₂ (λ n ws. record { answer = returned n; workspace = ws }) ends left
    where
      ends : end ≡ length vs
      ends = omega (arith, p.position)

      placed : after ≡ vs ++ drop (0 + length vs) workspace
      placed = p.slice ∙ sets-eq vs workspace 0 (omega (arith, room))

      kept : take end after ≡ vs
      kept = rw (ends, placed) (take-append_seam vs _)

      zeros : length after - end ≡ length workspace - length vs
      zeros = omega (arith, placed_length p, ends)

      left : last ≡ padded (length workspace) vs
      left = e ∙ ap₂ (λ ws n. ws ++ replicate n 0) kept zeros
