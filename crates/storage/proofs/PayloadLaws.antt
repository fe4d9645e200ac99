-- A record's value and number of children, and the payload of its word: which fit, and that either is found again in the other.
use Prim.Native.Nat.{ℕ, zero, suc, ◌≤◌, ◌<◌}
use mathlib.Core.Path.{◌≡◌, refl, sym, ◌∙◌}
use mathlib.Core.Bool.{Bool, true, false, false≢true, ◌&&◌, and-true, and-eq-true_iff}
use native.Mathlib.Decide.{dec_le}
use native.Mathlib.Omega.{arith}
use lib.Dec.{leb, eqb}
use borrow.Author.Tests.{leb-true, leb-false, le-leb, lt-leb, eqb-true, ne_eqb}
use Rattle.calculus.specs.Words.{constructor_kind, case_kind, numeral_kind, count_base, tag_of, count_of}
use Rattle.calculus.specs.Accepted.{argument_limit, branch_limit, numeral_limit, index_limit}
use Rattle.calculus.specs.Skip.{following}
use Rattle.calculus.proofs.WordLaws.{tag_of-pack, count_of-pack}
use Rattle.calculus.specs.Pattern.{is_pattern}
use Rattle.calculus.specs.Payload.{payload_fits}
use Rattle.calculus.proofs.PayloadLaws.{no_kind}
use Rattle.storage.specs.Payload.{value_of, payload}
use Rattle.storage.specs.Values.{value_fits, numberFits}
use Rattle.storage.specs.Refusals.{PayloadsAsValues}

-- A number that is no kind has no value.
no_value : (k v : ℕ) → numeral_kind < k → value_fits k v ≡ false
unfolding value_fits
no_value k v h = rw (ne_eqb k constructor_kind (λ e. omega arith), ne_eqb k case_kind (λ e. omega arith)) (no_kind k v h)

pub value_known : (k v : ℕ) → value_fits k v ≡ true → k ≤ numeral_kind
value_known k v h = elim (dec_le k numeral_kind) [ yes l ↦ l | no n ↦ absurd (false≢true (sym (no_value k v (omega (arith, n))) ∙ h)) ]

case_number : (p : ℕ) → (leb 1 (suc p) && leb (suc p) (suc branch_limit)) ≡ leb p branch_limit
case_number p = go (leb p branch_limit) refl
  where
    go : (b : Bool) → leb p branch_limit ≡ b → (leb 1 (suc p) && leb (suc p) (suc branch_limit)) ≡ b
    go true e = rw (le-leb 1 (suc p) (omega arith), le-leb (suc p) (suc branch_limit) (omega (arith, leb-true p branch_limit e)))
    go false e = rw (le-leb 1 (suc p) (omega arith), lt-leb (suc p) (suc branch_limit) (omega (arith, leb-false p branch_limit e)))

value_and_number : (k p : ℕ) → (value_fits k (value_of k p) && numberFits k (following k p)) ≡ payload_fits k p
unfolding value_fits payload_fits value_of following
value_and_number zero p = and-true (leb p index_limit)
value_and_number (suc zero) p = and-true (eqb p 0)
value_and_number (suc (suc zero)) p = and-true (eqb p 0)
value_and_number (suc (suc (suc zero))) p = refl
value_and_number (suc (suc (suc (suc zero)))) p = case_number p
value_and_number (suc (suc (suc (suc (suc zero))))) p = and-true (is_pattern (tag_of p) (count_of p))
value_and_number (suc (suc (suc (suc (suc (suc zero)))))) p = and-true (leb p numeral_limit)
value_and_number (suc (suc (suc (suc (suc (suc (suc k))))))) p =
    let l : numeral_kind < suc (suc (suc (suc (suc (suc (suc k)))))) = omega arith in
    rw (no_value _ _ l) (sym (no_kind _ p l))

value_back : (k v m : ℕ) → value_fits k v ≡ true → numberFits k m ≡ true → (value_of k (payload k v m) ≡ v) × (following k (payload k v m) ≡ m)
unfolding value_fits value_of following
value_back zero v m h f = (refl, sym (eqb-true m 0 f))
value_back (suc zero) v m h f = (refl, sym (eqb-true m 1 f))
value_back (suc (suc zero)) v m h f = (refl, sym (eqb-true m 2 f))
value_back (suc (suc (suc zero))) v m h f =
    let few : m < count_base = omega (arith, leb-true m argument_limit f) in
    (tag_of-pack v m few, count_of-pack v m few)
value_back (suc (suc (suc (suc zero)))) v m h f =
    let some = leb-true 1 m ((and-eq-true_iff (leb 1 m) (leb m (suc branch_limit))).0 f).0 in
    (sym (eqb-true v 0 h), omega arith)
value_back (suc (suc (suc (suc (suc zero))))) v m h f = (refl, sym (eqb-true m 1 f))
value_back (suc (suc (suc (suc (suc (suc zero)))))) v m h f = (refl, sym (eqb-true m 0 f))
value_back (suc (suc (suc (suc (suc (suc (suc k))))))) v m h f = absurd (false≢true (sym (no_value (suc (suc (suc (suc (suc (suc (suc k))))))) v (omega arith)) ∙ h))

pub payloads_as_values : PayloadsAsValues
payloads_as_values = (value_and_number, value_back)
