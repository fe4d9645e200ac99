-- A room of the same length, and the first words of one that was set up.
use Prim.Native.Nat.{ℕ, ◌≤◌}
use mathlib.Core.Path.{◌≡◌, refl, ap, ◌∙◌}
use mathlib.Core.List.{List}
use lib.ListN.{length, take, replicate}
use Rattle.std.proofs.lemmas.List.{take-replicate as first}
use Rattle.words.specs.Room.{Room}

pub room_of_length : {before after : List ℕ} → length after ≡ length before → Room before after
room_of_length {after = after} e = record { others = after; left = refl; length_stays = e }

pub room_length : {before after : List ℕ} → Room before after → length after ≡ length before
room_length r = ap length r.left ∙ r.length_stays

pub take-replicate : (a n m : ℕ) → n ≤ m → take n (replicate m a) ≡ replicate n a
take-replicate a n m = first n m a
