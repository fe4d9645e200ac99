-- The test for payloads is exact.
use Prim.Native.Nat.{ℕ, zero, suc, ◌≤◌, ◌<◌}
use mathlib.Core.Path.{◌≡◌, refl, sym, ◌∙◌}
use mathlib.Core.Bool.{true, false, false≢true}
use mathlib.Core.Logic.{inl, inr}
use native.Mathlib.Omega.{arith}
use lib.Dec.{eqb}
use borrow.Author.Tests.{leb-true, le-leb, eqb-true, ne_eqb}
use Rattle.calculus.specs.Words.{constructor_kind, case_kind, branch_kind, numeral_kind, tag_of, count_of}
use Rattle.calculus.specs.Accepted.{branch_limit, numeral_limit, index_limit, Tagged, Pattern}
use Rattle.calculus.proofs.WordLaws.{tag_of-pack, count_of-pack, pack_of_parts}
use Rattle.calculus.proofs.DefaultLaws.{default_is}
use Rattle.calculus.specs.Payload.{payload_fits, Payload, variable, abstraction, application, constructor, case, default, branch, numeral, PayloadsExact}
use Rattle.calculus.proofs.PatternLaws.{tagged_passes, tagged_fits, pattern_passes, pattern_fits}

payload-passes : {k p : ℕ} → Payload k p → payload_fits k p ≡ true
unfolding payload_fits
payload-passes (variable {p} h) = le-leb p index_limit h
payload-passes abstraction = refl
payload-passes application = refl
payload-passes (constructor {t} {n} l u m) =
    rw (tag_of-pack t n (omega arith), count_of-pack t n (omega arith)) (tagged_passes t n ((l, u), m))
payload-passes (case {p} h) = le-leb p branch_limit h
payload-passes default = refl
payload-passes (branch {t} {n} l u m) =
    rw (tag_of-pack t n (omega arith), count_of-pack t n (omega arith)) (pattern_passes t n (inr ((l, u), m)))
payload-passes (numeral {p} h) = le-leb p numeral_limit h

-- A payload of tag and count, by its parts.
of_constructor : (p : ℕ) → Tagged (tag_of p) (count_of p) → Payload constructor_kind p
of_constructor p h = rw (pack_of_parts p) at (constructor h.0.0 h.0.1 h.1)

of_branch : (p : ℕ) → Pattern (tag_of p) (count_of p) → Payload branch_kind p
of_branch p (inl h) = let is = default_is (tag_of p) (count_of p) h in let zero_is : p ≡ 0 = omega (arith, is.0, is.1) in rw zero_is default
of_branch p (inr h) = rw (pack_of_parts p) at (branch h.0.0 h.0.1 h.1)

-- No other number is a kind.
pub no_kind : (k p : ℕ) → numeral_kind < k → payload_fits k p ≡ false
unfolding payload_fits
no_kind k p h =
    let other : (n : ℕ) → n ≤ numeral_kind → eqb k n ≡ false = λ n l. ne_eqb k n (λ e. omega arith) in
    simp (other 0 (omega arith), other 1 (omega arith), other 2 (omega arith), other 3 (omega arith), other 4 (omega arith), other 5 (omega arith), other 6 (omega arith))

fits_payload : (k p : ℕ) → payload_fits k p ≡ true → Payload k p
unfolding payload_fits
fits_payload zero p h = variable (leb-true p index_limit h)
fits_payload (suc zero) p h = rw (eqb-true p 0 h) abstraction
fits_payload (suc (suc zero)) p h = rw (eqb-true p 0 h) application
fits_payload (suc (suc (suc zero))) p h = of_constructor p (tagged_fits (tag_of p) (count_of p) h)
fits_payload (suc (suc (suc (suc zero)))) p h = case (leb-true p branch_limit h)
fits_payload (suc (suc (suc (suc (suc zero))))) p h = of_branch p (pattern_fits (tag_of p) (count_of p) h)
fits_payload (suc (suc (suc (suc (suc (suc zero)))))) p h = numeral (leb-true p numeral_limit h)
fits_payload (suc (suc (suc (suc (suc (suc (suc k))))))) p h = absurd (false≢true (sym (no_kind (suc (suc (suc (suc (suc (suc (suc k))))))) p (omega arith)) ∙ h))

pub case_most : (p : ℕ) → payload_fits case_kind p ≡ true → p ≤ branch_limit
unfolding payload_fits
case_most p h = leb-true p branch_limit h

pub payloads_exact : PayloadsExact
payloads_exact k p = (fits_payload k p, payload-passes)
