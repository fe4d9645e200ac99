-- A count that was stored for an answer, beside what the call left.
use Prim.Native.Nat.{ℕ}
use mathlib.Core.Path.{◌≡◌, ◌∙◌, ap, ap₂}
use mathlib.Core.List.{List}
use Rattle.calculus.specs.Bringing.{Result}
use Rattle.firmware.specs.Calls.{count_seen}

pub stored_beside : (count : ℕ) {seen : ℕ × ℕ} {a b : Result} {lent left : List ℕ} → seen ≡ count_seen count a → a ≡ b → lent ≡ left
    → ◌≡◌ {A = (ℕ × ℕ) × List ℕ} (seen, lent) (count_seen count b, left)
stored_beside count e answer words = ap₂ (λ s l. (s, l)) (e ∙ ap (count_seen count) answer) words
