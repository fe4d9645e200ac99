-- Which records lie inside a table.
use Prim.Native.Nat.{ℕ, suc, ◌+◌, ◌≤◌, ◌<◌}
use mathlib.Core.Path.{◌≡◌}
use mathlib.Core.Bool.{false}
use native.Mathlib.Nat.{mul-le-mul_left}
use native.Mathlib.Omega.{arith}
use lib.ListN.{length}
use Rattle.storage.specs.Records.{Stored, view}
use Rattle.storage.specs.Header.{wrong_length}
use Rattle.storage.proofs.RecordLaws.{sized}
use Rattle.records.specs.Preconditions.{Inside}

module _ (S : Stored) where
  -- Every record up to n lies inside the table, and so do the first three words of the header.
  pub inside : wrong_length S ≡ false → (i : ℕ) → i ≤ (view S).n → Inside S i
  inside h i u =
      let most : suc i ≤ (view S).n + 1 = omega arith in
      rw (sized S h).2 (mul-le-mul_left S.form.record_words most)

  pub inside_headed : (i : ℕ) → Inside S i → 2 < length S.words
  inside_headed i h =
      let some : 1 ≤ suc i = omega arith in
      omega (arith, S.form.three, mul-le-mul_left S.form.record_words some, h)

  pub headed : wrong_length S ≡ false → 2 < length S.words
  headed h = inside_headed 0 (inside h 0 (omega arith))
