-- The bytes that are lent to exporting.
use Prim.Native.Nat.{ℕ, min}
use native.Mathlib.Omega.{arith}
use mathlib.Core.Path.{◌≡◌, ◌∙◌, ap}
use mathlib.Core.List.{List}
use lib.ListN.{length, take, replicate}
use Rattle.words.specs.Placed.{Placed}
use Rattle.words.proofs.PlacedLaws.{sets_whole}
use Rattle.vector_text.specs.Lists.{list_most}
use Rattle.vector_text.proofs.ListLaws.{lent_length}
use Rattle.vectors.specs.Pair.{junk}
use Rattle.vectors.specs.Stored.{junk_table}

-- What was placed over a whole slice is all of it.
pub placed_whole : {before vs after : List ℕ} {end : ℕ} → Placed before 0 vs after end → length vs ≡ length before → after ≡ vs
placed_whole {before} {vs} p e = p.slice ∙ sets_whole vs before e

-- Junk as long as a lent part.
pub junk_lent : (a k n : ℕ) → n ≡ min k list_most → junk_table (length (take n (replicate list_most a))) ≡ junk_table k
junk_lent a k n is =
    let size = lent_length a k list_most n is in
    let twice : min (length (take n (replicate list_most a))) list_most ≡ min k list_most = omega arith in
    ap (λ m. replicate m junk) twice
