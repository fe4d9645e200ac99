-- The spine of a list of arguments or branches: how many members it has and, of branches, their tags. Traversals and contraction leave it as
-- it is; the limits on counts and the rise of tags (`Accepted`) are read from it.
use Prim.Native.Nat.{ℕ, suc, ◌≤◌, ◌<◌}
use mathlib.Core.Path.{◌≡◌, refl, sym, ◌∙◌, ap, transport}
use mathlib.Core.List.{List, [], ◌∷◌}
use lib.ListN.{length}
use native.Mathlib.Omega.{arith}
use Rattle.calculus.specs.Term.{Sort, term, terms, branches, Exp, nil, cons, end, branch, Term, Branches, count}
use Rattle.calculus.specs.Accepted.{StartsAbove, Rising}
use Rattle.calculus.specs.Traverse.{traverse}
use Rattle.calculus.specs.Contraction.{Rule, Contracts, in-first, in-later, in-branch, in-later-branch}

-- An entry for each member: the tag of a branch, 0 for an argument. A term has none.
abbrev pub spine : {s : Sort} → Exp s → List ℕ
spine {s = term} e = []
spine {s = terms} nil = []
spine {s = terms} (cons a xs) = 0 ∷ spine xs
spine {s = branches} end = []
spine {s = branches} (branch t n b bs) = t ∷ spine bs

pub spine_traverse : {s : Sort} (f : ℕ → ℕ → Term) (d : ℕ) (e : Exp s) → spine e ≡ spine (traverse f d e)
spine_traverse {s = term} f d e = refl
spine_traverse {s = terms} f d nil = refl
spine_traverse {s = terms} f d (cons a xs) = ap (◌∷◌ 0) (spine_traverse f d xs)
spine_traverse {s = branches} f d end = refl
spine_traverse {s = branches} f d (branch t n b bs) = ap (◌∷◌ t) (spine_traverse f d bs)

pub spine_contraction : {s : Sort} {p : ℕ} {r : Rule} {e g : Exp s} → Contracts s p r e g → spine e ≡ spine g
spine_contraction {s = term} c = refl
spine_contraction {s = terms} (in-first c) = refl
spine_contraction {s = terms} (in-later c) = ap (◌∷◌ 0) (spine_contraction c)
spine_contraction {s = branches} (in-branch c) = refl
spine_contraction {s = branches} (in-later-branch {t = t} c) = ap (◌∷◌ t) (spine_contraction c)

count_spine : {s : Sort} (e : Exp s) → count e ≡ length (spine e)
count_spine {s = term} e = refl
count_spine {s = terms} nil = refl
count_spine {s = terms} (cons a xs) = ap suc (count_spine xs)
count_spine {s = branches} end = refl
count_spine {s = branches} (branch t n b bs) = ap suc (count_spine bs)

pub count_kept : {s : Sort} {n : ℕ} (e g : Exp s) → spine e ≡ spine g → count e ≤ n → count g ≤ n
count_kept e g h le = omega (arith, count_spine e, count_spine g, ap length h)

pub count-traverse : {s : Sort} (f : ℕ → ℕ → Term) (d : ℕ) (e : Exp s) → count (traverse f d e) ≡ count e
count-traverse f d e = count_spine (traverse f d e) ∙ ap length (sym (spine_traverse f d e)) ∙ sym (count_spine e)

pub count_contraction : {s : Sort} {p : ℕ} {r : Rule} {e g : Exp s} → Contracts s p r e g → count e ≡ count g
count_contraction {e = e} {g} c = count_spine e ∙ ap length (spine_contraction c) ∙ sym (count_spine g)

-- `StartsAbove` and `Rising` of the tags alone.
abbrev HeadAbove : ℕ → List ℕ → Type 0
HeadAbove t [] = Unit {0}
HeadAbove t (u ∷ us) = t < u

abbrev Ascending : List ℕ → Type 0
Ascending [] = Unit {0}
Ascending (t ∷ ts) = HeadAbove t ts × Ascending ts

starts_above_spine : (t : ℕ) (bs : Branches) → StartsAbove t bs ≡ HeadAbove t (spine bs)
starts_above_spine t end = refl
starts_above_spine t (branch u n b bs) = refl

rising_spine : (bs : Branches) → Rising bs ≡ Ascending (spine bs)
rising_spine end = refl
rising_spine (branch t n b bs) = λ i. starts_above_spine t bs i × rising_spine bs i

pub rising_kept : (bs cs : Branches) → spine bs ≡ spine cs → Rising bs → Rising cs
rising_kept bs cs h = transport (rising_spine bs ∙ ap Ascending h ∙ sym (rising_spine cs))
