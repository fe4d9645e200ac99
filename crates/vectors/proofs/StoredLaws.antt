-- The table of a chain.
use Prim.Native.Nat.{ℕ, zero, suc, ◌+◌, ◌-◌, ◌≤◌, ◌<◌}
use native.Mathlib.Omega.{arith}
use native.Mathlib.Numerals.{add-one}
use mathlib.Core.Path.{◌≡◌, refl, ◌∙◌, ap}
use mathlib.Core.List.{List, ◌++◌, append-nil}
use lib.ListN.{length, set, drop_of_length-le, length-set}
use lib.Seq.{sets, sets-eq}
use Rattle.vectors.specs.Stored.{chain_word, chain_from, chain}

module _ (records index : ℕ) where
  chain_length : (place n : ℕ) → length (chain_from records index place n) ≡ n
  unfolding chain_from
  chain_length place zero = refl
  chain_length place (suc n) = ap suc (chain_length (place + 1) n)

  -- All that is still to be put is all of the table.
  pub chain_start : (table : List ℕ) → sets table 0 (chain_from records index 0 (length table - 0)) ≡ chain records index (length table)
  chain_start table =
      let n = chain_length 0 (length table) in
      let whole : length table - 0 ≡ length table = omega arith in
      let over : length table ≤ 0 + length (chain_from records index 0 (length table)) = omega (arith, n) in
      rw whole
      (sets-eq (chain_from records index 0 (length table)) table 0 (omega (arith, n))
      ∙ ap (λ r. chain_from records index 0 (length table) ++ r) (drop_of_length-le table over)
      ∙ append-nil (chain_from records index 0 (length table)))

  pub chain-put : (table : List ℕ) (i w : ℕ) → i < length table → w ≡ chain_word records index i
      → sets table i (chain_from records index i (length table - i)) ≡ sets (set table i w) (i + 1) (chain_from records index (i + 1) (length (set table i w) - (i + 1)))
  unfolding chain_from
  chain-put table i w h e =
      let more : length table - i ≡ suc (length table - (i + 1)) = omega arith in
      rw (more, e, length-set, add-one i)

  pub chain-end : (table : List ℕ) (i : ℕ) → length table ≤ i → sets table i (chain_from records index i (length table - i)) ≡ table
  unfolding chain_from
  chain-end table i h =
      let none : length table - i ≡ 0 = omega arith in
      rw none
