-- Terms of variables, abstractions and applications: what is asked of other words is given, since there are none.
use Prim.Native.Nat.{ℕ, suc, ◌+◌}
use mathlib.Core.Path.{◌≡◌, refl, ap}
use mathlib.Core.List.{List, [], ◌∷◌, ◌++◌}
use mathlib.Core.Logic.{◌↔◌}
use native.Mathlib.Omega.{arith}
use Rattle.calculus.specs.Term.{Term, var, lam, app, con, case, num}
use Rattle.calculus.specs.Words.{words}
use Rattle.calculus.specs.Everywhere.{anywhere, Places, Asked, pure_terms, Everywhere}
use Rattle.calculus.specs.Accepted.{acceptance, Accepted}
use Rattle.calculus.specs.Theorems.{counted, Packable, closed, Closed}
use Rattle.calculus.proofs.EverywhereLaws.{Implies, everywhere_implies}
use Rattle.encoding.specs.Bits.{Pure, combinators, CombinatorUnder, Combinator}
use Rattle.encoding.specs.Theorems.{PureWords, PureExact, CombinatorExact}

pure_implies : {D E : Type 0} {p : Places D} {P : D → ℕ → Type 0} (Q : Asked E) → Implies (pure_terms p P) Q
pure_implies Q =
    record {
      constructors = λ t n h. absurd h;
      cases = λ bs cs same h. absurd h;
      branches = λ t n h. absurd h;
      numerals = λ n h. absurd h;
    }

pub pure_packable : (t : Term) → Pure t → Packable t
pure_packable t h =
    everywhere_implies {P = pure_terms anywhere (λ d i. Unit {0})} {Q = counted} {R = λ d e c. Unit {0}} (pure_implies counted)
    (record { abstractions = λ d e c r. tt; bodies = λ d e c n r. tt })
    (λ d e c i r h. tt)
    tt tt tt t h

pub combinator_pure : (t : Term) → Combinator t → Pure t
combinator_pure t h =
    everywhere_implies {P = combinators} {Q = pure_terms anywhere (λ d i. Unit {0})} {R = λ d e c. Unit {0}} (pure_implies _)
    (record { abstractions = λ d e c r. tt; bodies = λ d e c n r. tt })
    (λ d e c i r h. tt)
    0 tt tt t h

pub combinator_accepted : (t : Term) → Combinator t → Accepted 0 t
combinator_accepted t h =
    everywhere_implies {P = combinators} {Q = acceptance} {R = λ d e c. d ≡ e} (pure_implies acceptance)
    (record { abstractions = λ d e c r. ap suc r; bodies = λ d e c n r. ap (λ d. d + n) r })
    (λ d e c i r h. omega arith)
    0 0 refl t h

pure_append : (ws vs : List ℕ) → PureWords (ws ++ vs) ↔ (PureWords ws × PureWords vs)
pure_append [] vs = (λ h. (tt, h), λ h. h.1)
pure_append (w ∷ ws) vs = let r = pure_append ws vs in (λ h. ((h.0, (r.0 h.1).0), (r.0 h.1).1), λ h. (h.0.0, r.1 (h.0.1, h.1)))

pub pure_exact : PureExact
pure_exact (var i) = (λ h. (omega arith, tt), λ h. tt)
pure_exact (lam b) = let r = pure_exact b in (λ h. (omega arith, r.0 h), λ h. r.1 h.1)
pure_exact (app f a) =
    let r = pure_exact f in
    let s = pure_exact a in
    let both = pure_append (words f) (words a) in
    (λ h. (omega arith, both.1 (r.0 h.0, s.0 h.1)), λ h. let g = both.0 h.1 in (r.1 g.0, s.1 g.1))
pure_exact (con t xs) = (λ h. absurd h.0, λ h. let k = h.0 in absurd (omega arith))
pure_exact (case e bs) = (λ h. absurd h.0, λ h. let k = h.0 in absurd (omega arith))
pure_exact (num n) = (λ h. absurd h, λ h. let k = h.0 in absurd (omega arith))

combinator_closed : (t : Term) → Combinator t → Closed t
combinator_closed t h =
    everywhere_implies {P = combinators} {Q = closed} {R = λ d e c. d ≡ e} (pure_implies closed)
    (record { abstractions = λ d e c r. ap suc r; bodies = λ d e c n r. ap (λ d. d + n) r })
    (λ d e c i r h. omega arith)
    0 0 refl t h

closed_combinator : (d : ℕ) (t : Term) → Everywhere closed d t → Pure t → CombinatorUnder d t
closed_combinator d (var i) h g = h
closed_combinator d (lam b) h g = closed_combinator (suc d) b h g
closed_combinator d (app f a) h g = (closed_combinator d f h.0 g.0, closed_combinator d a h.1 g.1)
closed_combinator d (con t xs) h g = absurd g.0
closed_combinator d (case e bs) h g = absurd g.0
closed_combinator d (num n) h g = absurd g

pub combinator_exact : CombinatorExact
combinator_exact t = (λ h. (combinator_closed t h, combinator_pure t h), λ h. closed_combinator 0 t h.0 h.1)
