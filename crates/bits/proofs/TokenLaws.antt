-- What the bits of an encoding start with, by the first of them and the run.
use Prim.Native.Nat.{ℕ, suc, ◌+◌, ◌-◌, ◌≤◌, ◌<◌}
use mathlib.Core.Path.{◌≡◌, ap, ◌∙◌}
use mathlib.Core.Bool.{Bool, true, false}
use mathlib.Core.List.{List, ◌∷◌}
use native.Mathlib.Numerals.{add-one}
use native.Mathlib.Omega.{arith}
use borrow.Author.Tests.{lt-ltb, le-ltb}
use lib.ListN.{length, get_or}
use lib.Seq.{slice, slice-cons, slice_empty, length-slice}
use Rattle.bits.specs.Runs.{run}
use Rattle.bits.specs.Tokens.{early, abstraction, application, variable, token}
use Rattle.bits.proofs.RunLaws.{run_le}

module _ (bs : List Bool) (from to : ℕ) (some : from < to) (inside : to ≤ length bs) where
  starts : {b : Bool} → get_or bs from false ≡ b → slice from to bs ≡ b ∷ slice (suc from) to bs
  starts e = slice-cons from to bs false some inside ∙ ap (λ b. b ∷ slice (suc from) to bs) e

  module _ (one : get_or bs from false ≡ true) {r : ℕ} (counted : r ≡ run (slice from to bs)) where
    behind : r ≡ suc (run (slice (suc from) to bs))
    behind = counted ∙ ap run (starts one)

    pub token_unended : r ≡ to - from → early ≡ token (slice from to bs)
    unfolding token
    token_unended e = rw (starts one, le-ltb (run (slice (suc from) to bs)) (length (slice (suc from) to bs)) (omega (arith, behind, length-slice (suc from) to bs inside)))

    pub token_variable : (r ≡ to - from → ⊥) → variable (r - 1) ≡ token (slice from to bs)
    unfolding token
    token_variable n =
        let e : r - 1 ≡ run (slice (suc from) to bs) = omega (arith, behind) in
        let l : run (slice (suc from) to bs) < length (slice (suc from) to bs) =
        omega (arith, behind, n, run_le (slice (suc from) to bs), length-slice (suc from) to bs inside) in
        rw (starts one, lt-ltb (run (slice (suc from) to bs)) (length (slice (suc from) to bs)) l) (ap variable e)

  module _ (zero : get_or bs from false ≡ false) where
    pub token_short : to - from < 2 → early ≡ token (slice from to bs)
    unfolding token
    token_short h = let e : suc from ≡ to = omega arith in rw (starts zero, e, slice_empty to bs)

    second : {b : Bool} → 2 ≤ to - from → get_or bs (from + 1) false ≡ b → slice from to bs ≡ false ∷ b ∷ slice (suc (suc from)) to bs
    second h e =
        starts zero
        ∙ ap (λ cs. false ∷ cs) (slice-cons (suc from) to bs false (omega arith) inside ∙ ap (λ b. b ∷ slice (suc (suc from)) to bs) (rw add-one at e))

    pub token-application : 2 ≤ to - from → get_or bs (from + 1) false ≡ true → application ≡ token (slice from to bs)
    unfolding token
    token-application h e = rw (second h e)

    pub token-abstraction : 2 ≤ to - from → get_or bs (from + 1) false ≡ false → abstraction ≡ token (slice from to bs)
    unfolding token
    token-abstraction h e = rw (second h e)
