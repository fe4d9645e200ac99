-- A line of n bytes is read as at most n words: every space, backslash and number has a byte of its own.
use Prim.Native.Nat.{ℕ, suc, ◌+◌, ◌≤◌}
use mathlib.Core.Path.{◌≡◌}
use mathlib.Core.List.{List, [], ◌∷◌}
use native.Mathlib.Omega.{arith}
use lib.Dec.{leb}
use lib.ListN.{length, length-append, length-replicate}
use Rattle.calculus.specs.Accepted.{index_limit}
use Rattle.calculus.specs.Words.{abstraction_kind, word}
use Rattle.calculus.proofs.All.{All, nothing, holds, all-bind}
use Rattle.notation.specs.Reader.{Sign, digit, gap, opens, closes, lambda, other, sign, State, wanted, number, begun, apply, is_index, settle, on_digit, on_close, popped, on_begun, step, scan}
use Rattle.notation.proofs.Sound.{all_cond}

-- The spaces of the terms around, and a closing parenthesis of each.
abbrev pub tally : List ℕ → ℕ
tally [] = 0
tally (n ∷ ns) = suc (n + tally ns)

abbrev pub load : State → ℕ
load (wanted n ns ws) = n + tally ns + length ws
load (number v p n ns ws) = suc (n + tally ns + length ws)
load (begun n ns ws) = n + tally ns + length ws

abbrev Loaded : ℕ → State → Type 0
Loaded k σ = load σ ≤ k

length-apply : (n : ℕ) (ws : List ℕ) → length (apply n ws) ≡ n + length ws
length-apply n ws = simp (length-append, length-replicate)

settle-load : (k : ℕ) (σ : State) → Loaded k σ → All (λ b. b.count + tally b.stack + length b.words ≤ k) (settle σ)
unfolding settle
settle-load k (wanted n ns ws) h = nothing
settle-load k (number v p n ns ws) h = all_cond _ (is_index v p) (omega arith)
settle-load k (begun n ns ws) h = holds h

popped-load : (k : ℕ) (ns ws : List ℕ) → tally ns + length ws ≤ k → All (Loaded (suc k)) (popped ns ws)
unfolding popped
popped-load k [] ws h = nothing
popped-load k (n ∷ ns) ws h = holds {a = begun n ns ws} (omega arith)

step-load : (k : ℕ) (s : Sign) (σ : State) → Loaded k σ → All (Loaded (suc k)) (step s σ)
unfolding step on_begun on_digit on_close
step-load k (digit d) (wanted n ns ws) h = holds {a = number d 10 n ns ws} (omega arith)
step-load k (digit d) (number v p n ns ws) h = all_cond _ (leb p index_limit) (omega arith)
step-load k (digit d) (begun n ns ws) h = nothing
step-load k closes (wanted n ns ws) h = holds {a = wanted 0 (n ∷ ns) ws} (omega arith)
step-load k closes (number v p n ns ws) h = nothing
step-load k closes (begun n ns ws) h = nothing
step-load k gap σ h = all-bind _ (settle-load k σ h) (λ b g. holds {a = wanted (suc b.count) b.stack b.words} (omega arith))
step-load k lambda σ h = all-bind _ (settle-load k σ h) (λ b g. holds {a = begun 0 b.stack (word abstraction_kind 0 ∷ apply b.count b.words)} (omega (arith, length-apply b.count b.words)))
step-load k opens σ h = all-bind _ (settle-load k σ h) (λ b g. popped-load k b.stack _ (omega (arith, length-apply b.count b.words)))
step-load k other σ h = all-bind _ (settle-load k σ h) (λ b g. nothing)

pub scan-load : (bs : List ℕ) → All (Loaded (length bs)) (scan bs)
unfolding scan
scan-load [] = holds {a = wanted 0 [] []} (omega arith)
scan-load (b ∷ bs) = all-bind _ (scan-load bs) (λ σ h. step-load (length bs) (sign b) σ h)
