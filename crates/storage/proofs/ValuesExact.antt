-- Which values, and which numbers that are declared, pass refusal 3, kind by kind.
use Prim.Native.Nat.{ℕ, zero, suc, ◌≤◌}
use mathlib.Core.Path.{◌≡◌, refl}
use mathlib.Core.Bool.{true, false≢true, and-eq-true_iff}
use mathlib.Core.Option.{Option, some, none}
use native.Mathlib.Omega.{arith}
use lib.Dec.{leb}
use borrow.Author.Tests.{leb-true, le-leb, eqb-true}
use Rattle.calculus.specs.Words.{numeral_kind}
use Rattle.calculus.specs.Accepted.{argument_limit, branch_limit, numeral_limit, index_limit}
use Rattle.calculus.specs.Payload.{payload_fits}
use Rattle.calculus.proofs.PatternLaws.{tag_passes, tag_fits, pattern_passes, pattern_fits}
use Rattle.storage.specs.Values.{value_fits, numberFits, declared_fits}
use Rattle.storage.specs.Refusals.{Valued, variable, abstraction, application, constructor, case, branch, numeral, Declarable, nothing, by_variable, by_abstraction, by_application, by_constructor, by_case, by_branch, by_numeral, ValuesExact}
use Rattle.storage.proofs.Fits.{valued, valued-passes, known_kind}

value_passes : {k v : ℕ} → Valued k v → value_fits k v ≡ true
unfolding value_fits payload_fits
value_passes (variable {v} h) = le-leb v index_limit h
value_passes abstraction = refl
value_passes application = refl
value_passes (constructor {v} h) = tag_passes v h
value_passes case = refl
value_passes (branch h) = pattern_passes _ _ h
value_passes (numeral {v} h) = le-leb v numeral_limit h

value_in_range : (k v : ℕ) → k ≤ numeral_kind → value_fits k v ≡ true → Valued k v
unfolding value_fits payload_fits
value_in_range zero v l h = variable (leb-true v index_limit h)
value_in_range (suc zero) v l h = rw (eqb-true v 0 h) abstraction
value_in_range (suc (suc zero)) v l h = rw (eqb-true v 0 h) application
value_in_range (suc (suc (suc zero))) v l h = constructor (tag_fits v h)
value_in_range (suc (suc (suc (suc zero)))) v l h = rw (eqb-true v 0 h) case
value_in_range (suc (suc (suc (suc (suc zero))))) v l h = branch (pattern_fits _ _ h)
value_in_range (suc (suc (suc (suc (suc (suc zero)))))) v l h = numeral (leb-true v numeral_limit h)
value_in_range (suc (suc (suc (suc (suc (suc (suc k))))))) v l h = absurd (omega arith)

declared_passes : {k : ℕ} {d : Option ℕ} → Declarable k d → declared_fits k d ≡ true
declared_passes nothing = refl
declared_passes by_variable = refl
declared_passes by_abstraction = refl
declared_passes by_application = refl
declared_passes (by_constructor {m} h) = le-leb m argument_limit h
declared_passes (by_case {m} h) = (and-eq-true_iff _ _).1 (le-leb 1 (suc m) (omega arith), le-leb (suc m) (suc branch_limit) (omega arith))
declared_passes by_branch = refl
declared_passes by_numeral = refl

declared_in_range : (k m : ℕ) → k ≤ numeral_kind → numberFits k m ≡ true → Declarable k (some m)
declared_in_range zero m l h = rw (eqb-true m 0 h) by_variable
declared_in_range (suc zero) m l h = rw (eqb-true m 1 h) by_abstraction
declared_in_range (suc (suc zero)) m l h = rw (eqb-true m 2 h) by_application
declared_in_range (suc (suc (suc zero))) m l h = by_constructor (leb-true m argument_limit h)
declared_in_range (suc (suc (suc (suc zero)))) zero l h = absurd (false≢true h)
declared_in_range (suc (suc (suc (suc zero)))) (suc m) l h =
    by_case {m = m} (omega (arith, leb-true (suc m) (suc branch_limit) ((and-eq-true_iff (leb 1 (suc m)) _).0 h).1))
declared_in_range (suc (suc (suc (suc (suc zero))))) m l h = rw (eqb-true m 1 h) by_branch
declared_in_range (suc (suc (suc (suc (suc (suc zero)))))) m l h = rw (eqb-true m 0 h) by_numeral
declared_in_range (suc (suc (suc (suc (suc (suc (suc k))))))) m l h = absurd (omega arith)

declarable : (k : ℕ) (d : Option ℕ) → k ≤ numeral_kind → declared_fits k d ≡ true → Declarable k d
declarable k none l h = nothing
declarable k (some m) l h = declared_in_range k m l h

pub values_exact : ValuesExact
values_exact T = (
  λ h i l u.
      let F = valued T h in
      let known = known_kind F i l u in
      (value_in_range _ _ known (F.value-fits i l u), declarable _ _ known (F.declared-fits i l u)),
  λ h. valued-passes T (record { value-fits = λ i l u. value_passes (h i l u).0; declared-fits = λ i l u. declared_passes (h i l u).1 }),
)
