-- `is_padded` meets its contract.
use Prim.Native.Nat.{ℕ, ◌+◌, ◌-◌, ◌/◌}
use Rattle.bits.proofs.ZeroLaws.{padding_ends, padding_missing, padding_broken, padding_kept}
use lib.ListN.{length, take, drop, get_or}
use mathlib.Core.List.{List}
use mathlib.Core.Path.{◌≡◌, ap, ◌∙◌}
use Rattle.std.proofs.lemmas.Slice.{between_to_end}
use Rattle.std.specs.List.{list_all}
use lib.Dec.{eqb}
use native.Mathlib.Omega.{arith}
use borrow.Author.Rules.{rules}
use Rattle.bits.proofs.zeros.is_padded.Goals as goal

-- The part from a position to the end, which is the one that should be asked.
behind : (xs : List ℕ) (from wanted : ℕ) → from ≡ wanted → take (length xs - from) (drop from xs) ≡ drop wanted xs
behind xs from wanted e = between_to_end xs from (length xs) (omega arith) ∙ ap (λ i. drop i xs) e

pub returns-then-from-rest-eq0 : goal.returns-then-from-rest-eq0
returns-then-from-rest-eq0 c =
    let xs = c.args.bytes.now in
    let k = c.args.bits / 8 in
    let here : c.from.result ≡ get_or xs k 0 = search rules in
    c.are_zero.ensures ∙ ap (list_all (λ b. eqb b 0)) (behind xs _ (k + 1) (omega arith)) ∙ padding_kept xs c.args.bits (search rules) c.type_inv.bytes here c.if-from-rest-eq0.true

pub returns-else-from-rest-eq0 : goal.returns-else-from-rest-eq0
returns-else-from-rest-eq0 c =
    let here : c.from.result ≡ get_or c.args.bytes.now (c.args.bits / 8) 0 = search rules in
    padding_broken c.args.bytes.now c.args.bits (search rules) c.type_inv.bytes here c.if-from-rest-eq0.false

pub returns-then-whole-bytes : goal.returns-then-whole-bytes
returns-then-whole-bytes c = padding_ends c.args.bytes.now c.args.bits c.if-whole-bytes.true

pub returns-else-whole-bytes : goal.returns-else-whole-bytes
returns-else-whole-bytes c = padding_missing c.args.bytes.now c.args.bits (search rules)
