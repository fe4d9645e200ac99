-- Bytes that are read.
use Prim.Native.Nat.{ℕ, ◌+◌, ◌≤◌}
use native.Mathlib.Omega.{arith}
use mathlib.Core.Path.{◌≡◌, ◌∙◌}
use mathlib.Core.List.{List, ◌++◌}
use lib.ListN.{length, take, drop}
use lib.Seq.{sets-eq, take-append_seam}
use Rattle.words.specs.Placed.{Placed}

-- What was placed at the start of a slice stands there.
pub placed_start : {before vs after : List ℕ} {end : ℕ} → Placed before 0 vs after end → length vs ≤ length before → take end after ≡ vs
placed_start {before} {vs} {after} {end} p fits =
    let ends : end ≡ length vs = omega (arith, p.position) in
    let placed : after ≡ vs ++ drop (0 + length vs) before = p.slice ∙ sets-eq vs before 0 (omega (arith, fits)) in
    rw (ends, placed) (take-append_seam vs _)
