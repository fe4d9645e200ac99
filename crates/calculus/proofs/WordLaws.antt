-- Laws of words: a word holds its kind and its payload, a payload its tag and its count, and each is made of its two parts. Every term has a
-- word, and every accepted expression can be packed and has only numerals with an entry.
use Prim.Native.Nat.{ℕ, suc, ◌+◌, ◌≤◌, ◌<◌}
use mathlib.Core.Path.{◌≡◌, refl, ap}
use native.Mathlib.Omega.{arith}
use Rattle.calculus.specs.Term.{Sort, Exp, Term, var, lam, app, con, case, num}
use Rattle.calculus.specs.Words.{kind_base, word, kind_of, payload_of, count_base, pack, tag_of, count_of, size}
use Rattle.calculus.specs.Everywhere.{anywhere, Asked, Everywhere}
use Rattle.calculus.specs.Accepted.{numeral_limit, scope, Scoped, acceptance, Accepted}
use Rattle.calculus.specs.Theorems.{counted, Packable}
use Rattle.calculus.proofs.DefaultLaws.{pattern_limits}
use Rattle.calculus.proofs.EverywhereLaws.{everywhere_implies}

pub kind_of-word : (k p : ℕ) → k < kind_base → kind_of (word k p) ≡ k
kind_of-word k p h = omega arith

pub payload_of-word : (k p : ℕ) → k < kind_base → payload_of (word k p) ≡ p
payload_of-word k p h = omega arith

pub word_of_parts : (w : ℕ) → word (kind_of w) (payload_of w) ≡ w
word_of_parts w = omega arith

pub tag_of-pack : (t n : ℕ) → n < count_base → tag_of (pack t n) ≡ t
tag_of-pack t n h = omega arith

pub count_of-pack : (t n : ℕ) → n < count_base → count_of (pack t n) ≡ n
count_of-pack t n h = omega arith

pub pack_of_parts : (p : ℕ) → pack (tag_of p) (count_of p) ≡ p
pack_of_parts p = omega arith

pub size_positive : (t : Term) → 1 ≤ size t
size_positive (var i) = omega arith
size_positive (lam b) = omega arith
size_positive (app f a) = omega arith
size_positive (con t xs) = omega arith
size_positive (case e bs) = omega arith
size_positive (num n) = omega arith

pub accepted_scoped : {s : Sort} (d : ℕ) (e : Exp s) → Accepted d e → Scoped d e
accepted_scoped d e h =
    everywhere_implies {P = acceptance} {Q = scope} {R = λ d d' c. d ≡ d'}
    (record { constructors = λ t n h. tt; cases = λ bs cs same h. tt; branches = λ t n h. tt; numerals = λ n h. tt })
    (record { abstractions = λ d d' c r. ap suc r; bodies = λ d d' c n r. ap (λ d. d + n) r })
    (λ d d' c i r h. omega arith)
    d d refl e h

-- Every numeral has an entry.
abbrev pub in_library : Asked (Unit {0})
in_library =
    record {
      places = anywhere;
      of_variable = λ d i. Unit {0};
      of_constructor = λ t n. Unit {0};
      of_case = λ bs. Unit {0};
      of_branch = λ t n. Unit {0};
      of_numeral = λ n. n ≤ numeral_limit;
    }

abbrev pub InLibrary : {s : Sort} → Exp s → Type 0
InLibrary e = Everywhere in_library tt e

pub accepted_in_library : {s : Sort} (d : ℕ) (e : Exp s) → Accepted d e → InLibrary e
accepted_in_library d e h =
    everywhere_implies {P = acceptance} {Q = in_library} {R = λ d p c. Unit {0}}
    (record { constructors = λ t n h. tt; cases = λ bs cs same h. tt; branches = λ t n h. tt; numerals = λ n h. h })
    (record { abstractions = λ d p c r. tt; bodies = λ d p c n r. tt })
    (λ d p c i r h. tt)
    d tt tt e h

pub accepted_packable : {s : Sort} (d : ℕ) (e : Exp s) → Accepted d e → Packable e
accepted_packable d e h =
    everywhere_implies {P = acceptance} {Q = counted} {R = λ d p c. Unit {0}}
    (record { constructors = λ t n h. omega arith; cases = λ bs cs same h. tt; branches = λ t n h. omega (arith, (pattern_limits t n h).1); numerals = λ n h. tt })
    (record { abstractions = λ d p c r. tt; bodies = λ d p c n r. tt })
    (λ d p c i r h. tt)
    d tt tt e h
