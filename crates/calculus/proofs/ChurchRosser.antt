-- Contraction has the Church-Rosser property: parallel reduction lies between one contraction and any number of them, and has complete
-- developments.
use Prim.Native.Nat.{ℕ, suc, ◌+◌}
use Rattle.calculus.specs.Term.{Sort, term, branches, Exp, lam, app, con, case, cons, branch, Term, Branches}
use Rattle.calculus.specs.Words.{size}
use Rattle.calculus.specs.Contraction.{Rule, by_beta, by_case, by_numeral, Contracts, at_beta, at_case, at_numeral, in_body, in-function, in-argument, in-arguments, in-subject, in-branches, in-first, in-later, in-branch, in-later-branch}
use Rattle.calculus.specs.Relation.{Star, stop, step}
use Rattle.calculus.specs.Conversion.{Contraction, Contracts₁}
use Rattle.calculus.specs.Theorems.{ChurchRosser, JoinedNormalEqual, ReachesExact, JoinedExact, ContractionReaches, ReachingJoins, NormalReachesItself}
use Rattle.calculus.proofs.Rewriting.{star-append, star-map, chain_of_star, star_along, along_star, chain_along, along_chain, normal_stays, meet_joined, meeting_normal_equal, joined_meet}
use Rattle.calculus.proofs.Parallel.{Par, par_var, par_lam, par_app, par_beta, par_con, par_case, par_inspect, par_num, par_numeral, par_nil, par_cons, par_end, par_branch, par_refl, develop, triangle}

-- A contraction is a parallel reduction.
pub parallel : {s : Sort} {p : ℕ} {r : Rule} {e g : Exp s} → Contracts s p r e g → Par s e g
parallel (at_beta {b = b} {a = a}) = par_beta (par_refl (lam b)) (par_refl a)
parallel (at_case {t = t} {xs = xs} {bs = bs} h) = par_inspect (par_refl (con t xs)) (par_refl bs) h
parallel at_numeral = par_numeral
parallel (in_body c) = par_lam (parallel c)
parallel (in-function {a = a} c) = par_app (parallel c) (par_refl a)
parallel (in-argument {f = f} c) = par_app (par_refl f) (parallel c)
parallel (in-arguments c) = par_con (parallel c)
parallel (in-subject {bs = bs} c) = par_case (parallel c) (par_refl bs)
parallel (in-branches {e = e} c) = par_case (par_refl e) (parallel c)
parallel (in-first {xs = xs} c) = par_cons (parallel c) (par_refl xs)
parallel (in-later {a = a} c) = par_cons (par_refl a) (parallel c)
parallel (in-branch {bs = bs} c) = par_branch (parallel c) (par_refl bs)
parallel (in-later-branch {b = b} c) = par_branch (par_refl b) (parallel c)

-- Any number of contractions, at every sort.
abbrev pub Contractions : (s : Sort) → Exp s → Exp s → Type 0
Contractions s = Star (Contraction s)

app_contractions : {f f' a a' : Term} → Contractions term f f' → Contractions term a a' → Contractions term (app f a) (app f' a')
app_contractions {f' = f} {a = a} p q =
    star-append
    (star-map (λ f. app f a) (λ _ _ (p, r, c). (suc p, r, in-function c)) p)
    (star-map (app f) (λ _ _ (p, r, c). (suc (size f + p), r, in-argument c)) q)

case_contractions : {e e' : Term} {bs bs' : Branches} → Contractions term e e' → Contractions branches bs bs'
    → Contractions term (case e bs) (case e' bs')
case_contractions {e' = e} {bs = bs} p q =
    star-append
    (star-map (λ e. case e bs) (λ _ _ (p, r, c). (suc p, r, in-subject c)) p)
    (star-map (case e) (λ _ _ (p, r, c). (suc (size e + p), r, in-branches c)) q)

-- Contractions one after the other do what a parallel reduction does.
pub sequential : {s : Sort} {e g : Exp s} → Par s e g → Contractions s e g
sequential par_var = stop
sequential (par_lam p) = star-map lam (λ _ _ (p, r, c). (suc p, r, in_body c)) (sequential p)
sequential (par_app p q) = app_contractions (sequential p) (sequential q)
sequential (par_beta p q) = star-append (app_contractions (sequential p) (sequential q)) (step (0, by_beta, at_beta) stop)
sequential (par_con {t = t} p) = star-map (con t) (λ _ _ (p, r, c). (suc p, r, in-arguments c)) (sequential p)
sequential (par_case p q) = case_contractions (sequential p) (sequential q)
sequential (par_inspect p q h) = star-append (case_contractions (sequential p) (sequential q)) (step (0, by_case, at_case h) stop)
sequential par_num = stop
sequential par_numeral = step (0, by_numeral, at_numeral) stop
sequential par_nil = stop
sequential (par_cons {a' = a} {xs = xs} p q) =
    star-append
    (star-map (λ a. cons a xs) (λ _ _ (p, r, c). (p, r, in-first c)) (sequential p))
    (star-map (cons a) (λ _ _ (p, r, c). (size a + p, r, in-later c)) (sequential q))
sequential par_end = stop
sequential (par_branch {t = t} {n = n} {b' = b} {bs = bs} p q) =
    star-append
    (star-map (λ b. branch t n b bs) (λ _ _ (p, r, c). (suc p, r, in-branch c)) (sequential p))
    (star-map (branch t n b) (λ _ _ (p, r, c). (suc (size b + p), r, in-later-branch c)) (sequential q))

pub church_rosser : ChurchRosser
church_rosser t u =
    (joined_meet Contracts₁ (Par term) develop (λ _ _ (p, r, c). parallel c) (λ _ _. sequential) (λ _ _. triangle), meet_joined)

pub joined_normal_equal : JoinedNormalEqual
joined_normal_equal t u j = meeting_normal_equal ((church_rosser t u).0 j)

pub reaches_exact : ReachesExact
reaches_exact t u = (star_along, λ (vs, h). along_star t vs h)

pub joined_exact : JoinedExact
joined_exact t u = (chain_along, λ (vs, h). along_chain t vs h)

pub contraction_reaches : ContractionReaches
contraction_reaches t u c = step c stop

pub reaching_joins : ReachingJoins
reaching_joins t u r = chain_of_star r

pub normal_reaches_itself : NormalReachesItself
normal_reaches_itself t u n r = normal_stays n r
