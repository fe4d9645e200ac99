-- Indices of accepted terms: a word crosses at most `argument_limit` binders, so the words of a workspace bound every index.
use Prim.Native.Nat.{ℕ, suc, ◌+◌, ◌*◌, ◌≤◌}
use native.Mathlib.Omega.{arith}
use lib.ListN.{length-append}
use Rattle.calculus.specs.Term.{Sort, Exp, var, lam, app, con, case, num, nil, cons, end, branch}
use Rattle.calculus.specs.Words.{words, size}
use Rattle.calculus.specs.Accepted.{argument_limit, free_limit, Accepted, index_limit}
use Rattle.calculus.specs.Theorems.{IndicesWithin, IndicesBounded}
use Rattle.calculus.proofs.DefaultLaws.{pattern_limits}

indices_within : {s : Sort} (d limit : ℕ) (e : Exp s) → Accepted d e → size e * argument_limit + d + free_limit ≤ limit → IndicesWithin limit e
indices_within d limit (var i) h m = omega arith
indices_within d limit (lam b) h m = indices_within (suc d) limit b h (omega arith)
indices_within d limit (app f a) h m =
    let l = length-append (words f) (words a) in
    (indices_within d limit f h.0 (omega arith), indices_within d limit a h.1 (omega arith))
indices_within d limit (con t xs) h m = (tt, indices_within d limit xs h.1 (omega arith))
indices_within d limit (case e bs) h m =
    let l = length-append (words e) (words bs) in
    (tt, indices_within d limit e h.1 (omega arith), indices_within d limit bs h.2 (omega arith))
indices_within d limit (num n) h m = tt
indices_within d limit nil h m = tt
indices_within d limit (cons a xs) h m =
    let l = length-append (words a) (words xs) in
    (indices_within d limit a h.0 (omega arith), indices_within d limit xs h.1 (omega arith))
indices_within d limit end h m = tt
indices_within d limit (branch t n b bs) h m =
    let l = length-append (words b) (words bs) in
    let k = pattern_limits t n h.0 in
    (tt, indices_within (d + n) limit b h.1 (omega arith), indices_within d limit bs h.2 (omega arith))

pub indices_bounded : IndicesBounded
indices_bounded t h m = indices_within 0 index_limit t h (omega arith)
