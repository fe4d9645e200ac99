-- A record whose value and number of children fit has a word.
use Prim.Native.Nat.{ℕ, suc, ◌<◌}
use mathlib.Core.Path.{◌≡◌, sym, ◌∙◌}
use mathlib.Core.Bool.{true, and-eq-true_iff}
use native.Mathlib.Omega.{arith}
use lib.Dec.{leb}
use borrow.Author.Tests.{leb-true}
use Rattle.calculus.specs.Accepted.{branch_limit}
use Rattle.calculus.specs.Payload.{payload_fits, Payload, variable, abstraction, application, constructor, case, default, branch, numeral}
use Rattle.calculus.proofs.PayloadLaws.{payloads_exact}
use Rattle.storage.specs.Payload.{payload}
use Rattle.storage.specs.Values.{value_fits, numberFits}
use Rattle.storage.proofs.PayloadLaws.{value_known, payloads_as_values}
use Rattle.words.specs.Limits.{payload_bound}
use Rattle.records.specs.Preconditions.{Wordable}

-- A payload that fits is small.
payload_small : {k p : ℕ} → Payload k p → p < payload_bound
payload_small (variable h) = omega arith
payload_small abstraction = omega arith
payload_small application = omega arith
payload_small (constructor l u m) = omega arith
payload_small (case h) = omega arith
payload_small default = omega arith
payload_small (branch l u m) = omega arith
payload_small (numeral h) = omega arith

-- So there is a word with it.
pub has_word : (k v m : ℕ) → value_fits k v ≡ true → numberFits k m ≡ true → Wordable k v m
has_word k v m h f =
    let (value-is, number_is) = payloads_as_values.1 k v m h f in
    let fits : payload_fits k (payload k v m) ≡ true = sym (payloads_as_values.0 k (payload k v m)) ∙ rw (value-is, number_is, h) f in
    record {
      kind_fits = omega (arith, value_known k v h);
      payload-fits = payload_small ((payloads_exact k (payload k v m)).0 fits);
      subject = λ e. leb-true 1 m ((and-eq-true_iff (leb 1 m) (leb m (suc branch_limit))).0 (rw e at f)).0;
    }
