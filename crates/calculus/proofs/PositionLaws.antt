-- Contraction by position: `step_at` and `contract_at` give what a contraction at that position gives, `redex_at` the first position at which a redex
-- starts, and the leftmost step contracts there. The position of a redex decides the rule and the result.
use Prim.Native.Nat.{ℕ, zero, suc, ◌-◌, ◌<◌}
use mathlib.Core.Path.{◌≡◌, refl, sym, ◌∙◌, ap, subst}
use mathlib.Core.Logic.{◌↔◌}
use mathlib.Core.Option.{Option, some, none, map, or_else, bind, map-eq-some_iff, map-eq-none_iff, some-injective, none-ne-some, some-ne-none}
use native.Mathlib.Omega.{arith}
use Rattle.calculus.specs.Term.{Sort, Exp, var, lam, app, con, case, num, nil, cons, end, branch, Term}
use Rattle.calculus.specs.Words.{size}
use Rattle.calculus.specs.Contraction.{Rule, by_case, select, Contracts, at_beta, at_case, at_numeral, in_body, in-function, in-argument, in-arguments, in-subject, in-branches, in-first, in-later, in-branch, in-later-branch}
use Rattle.calculus.specs.Step.{contractum, Step, first_step}
use Rattle.calculus.specs.Leftmost.{leftmost}
use Rattle.calculus.specs.Position.{through, step_at, contract_at, redex_at}
use Rattle.calculus.specs.Theorems.{ContractionDeterministic, ContractAtPosition, RedexFirst, RedexNone, LeftmostAtRedex}
use Rattle.calculus.proofs.All.{All, nothing, holds, all_map, all-ltb, all_itself, all_some}
use Rattle.calculus.proofs.Site.{contraction_within}
use Rattle.calculus.proofs.Earliest.{choose_part, choose_behind, Earliest, never, first, earliest_through, earliest_word, earliest_append}

-- A contraction of e at p, by a rule and with a result.
abbrev ContractsTo : {s : Sort} → ℕ → Exp s → Rule × Exp s → Type 0
ContractsTo {s = s} p e c = Contracts s p c.0 e c.1

moved : {s : Sort} {p q : ℕ} {e : Exp s} {c : Rule × Exp s} → q ≡ p → ContractsTo q e c → ContractsTo p e c
moved {e = e} {c} h k = subst (λ p. ContractsTo p e c) h k

-- What the rule function gives is a contraction at the first word.
pub contractum_contracts : (t : Term) → All (ContractsTo 0 t) (contractum t)
contractum_contracts (var i) = nothing
contractum_contracts (lam b) = nothing
contractum_contracts (app (var i) a) = nothing
contractum_contracts (app (lam b) a) = holds at_beta
contractum_contracts (app (app f g) a) = nothing
contractum_contracts (app (con t xs) a) = nothing
contractum_contracts (app (case e bs) a) = nothing
contractum_contracts (app (num n) a) = nothing
contractum_contracts (con t xs) = nothing
contractum_contracts (case (var i) bs) = nothing
contractum_contracts (case (lam b) bs) = nothing
contractum_contracts (case (app f a) bs) = nothing
contractum_contracts (case (con t xs) bs) = all_map _ (all_itself (select t xs bs)) (λ u h. at_case h)
contractum_contracts (case (case e cs) bs) = nothing
contractum_contracts (case (num n) bs) = nothing
contractum_contracts (num n) = holds at_numeral

step_at_contracts : {s : Sort} (p : ℕ) (e : Exp s) → All (ContractsTo p e) (step_at p e)
unfolding step_at
step_at_contracts p (var i) = nothing
step_at_contracts zero (lam b) = nothing
step_at_contracts (suc p) (lam b) = all_map _ (step_at_contracts p b) (λ c k. in_body k)
step_at_contracts zero (app f a) = contractum_contracts (app f a)
step_at_contracts (suc p) (app f a) =
    all-ltb p (size f)
    (λ h. all_map _ (step_at_contracts p f) (λ c k. in-function k))
    (λ h. all_map _ (step_at_contracts (p - size f) a) (λ c k. moved (omega arith) (in-argument k)))
step_at_contracts zero (con t xs) = nothing
step_at_contracts (suc p) (con t xs) = all_map _ (step_at_contracts p xs) (λ c k. in-arguments k)
step_at_contracts zero (case e bs) = contractum_contracts (case e bs)
step_at_contracts (suc p) (case e bs) =
    all-ltb p (size e)
    (λ h. all_map _ (step_at_contracts p e) (λ c k. in-subject k))
    (λ h. all_map _ (step_at_contracts (p - size e) bs) (λ c k. moved (omega arith) (in-branches k)))
step_at_contracts zero (num n) = contractum_contracts (num n)
step_at_contracts (suc p) (num n) = nothing
step_at_contracts p nil = nothing
step_at_contracts p (cons a xs) =
    all-ltb p (size a)
    (λ h. all_map _ (step_at_contracts p a) (λ c k. in-first k))
    (λ h. all_map _ (step_at_contracts (p - size a) xs) (λ c k. moved (omega arith) (in-later k)))
step_at_contracts p end = nothing
step_at_contracts zero (branch t n b bs) = nothing
step_at_contracts (suc p) (branch t n b bs) =
    all-ltb p (size b)
    (λ h. all_map _ (step_at_contracts p b) (λ c k. in-branch k))
    (λ h. all_map _ (step_at_contracts (p - size b) bs) (λ c k. moved (omega arith) (in-later-branch k)))

pub contracts_step_at : {s : Sort} {p : ℕ} {r : Rule} {e g : Exp s} → Contracts s p r e g → step_at p e ≡ some (r, g)
unfolding step_at
contracts_step_at at_beta = refl
contracts_step_at (at_case h) = ap (map (λ u. (by_case, u))) h
contracts_step_at at_numeral = refl
contracts_step_at (in_body c) = ap (map (through lam)) (contracts_step_at c)
contracts_step_at (in-function c) = choose_part _ _ (contraction_within c) ∙ ap (map _) (contracts_step_at c)
contracts_step_at (in-argument {p = p} {f = f} {a = a} c) =
    choose_behind (size f) p _ (λ q. map (through (app f)) (step_at q a)) ∙ ap (map (through (app f))) (contracts_step_at c)
contracts_step_at (in-arguments c) = ap (map _) (contracts_step_at c)
contracts_step_at (in-subject c) = choose_part _ _ (contraction_within c) ∙ ap (map _) (contracts_step_at c)
contracts_step_at (in-branches {p = p} {e = e} {bs = bs} c) =
    choose_behind (size e) p _ (λ q. map (through (case e)) (step_at q bs)) ∙ ap (map (through (case e))) (contracts_step_at c)
contracts_step_at (in-first c) = choose_part _ _ (contraction_within c) ∙ ap (map _) (contracts_step_at c)
contracts_step_at (in-later {p = p} {a = a} {xs = xs} c) =
    choose_behind (size a) p _ (λ q. map (through (cons a)) (step_at q xs)) ∙ ap (map (through (cons a))) (contracts_step_at c)
contracts_step_at (in-branch c) = choose_part _ _ (contraction_within c) ∙ ap (map _) (contracts_step_at c)
contracts_step_at (in-later-branch {p = p} {t = t} {n = n} {b = b} {bs = bs} c) =
    choose_behind (size b) p _ (λ q. map (through (branch t n b)) (step_at q bs)) ∙ ap (map (through (branch t n b))) (contracts_step_at c)

-- At every sort: `step_at` and `contract_at` are the relation, so that a position decides the rule and the result.
pub step_at_exact : {s : Sort} (p : ℕ) (r : Rule) (e g : Exp s) → (step_at p e ≡ some (r, g)) ↔ Contracts s p r e g
step_at_exact p r e g = (λ h. all_some (rw h at (step_at_contracts p e)), contracts_step_at)

pub contracts_unique : {s : Sort} {p : ℕ} {r r' : Rule} {e g h : Exp s} → Contracts s p r e g → Contracts s p r' e h → (r ≡ r') × (g ≡ h)
contracts_unique {r = r} {r'} {g = g} {h} c d =
    let same = some-injective (r, g) (r', h) (sym (contracts_step_at c) ∙ contracts_step_at d) in
    (ap (λ c. c.0) same, ap (λ c. c.1) same)

pub contraction_deterministic : ContractionDeterministic
contraction_deterministic p r r' t u v = contracts_unique

pub contracts_contract_at : {s : Sort} {p : ℕ} {r : Rule} {e g : Exp s} → Contracts s p r e g → contract_at p e ≡ some g
unfolding contract_at
contracts_contract_at c = ap (map (λ c. c.1)) (contracts_step_at c)

pub contract_at_exact : {s : Sort} (p : ℕ) (e g : Exp s) → (contract_at p e ≡ some g) ↔ ((r : Rule) × Contracts s p r e g)
unfolding contract_at
contract_at_exact {s} p e g = (λ h. to h, λ c. contracts_contract_at c.1)
  where
    to : map (λ c. c.1) (step_at p e) ≡ some g → (r : Rule) × Contracts s p r e g
    to h =
        let (c, k, same) = (map-eq-some_iff (λ c. c.1) (step_at p e)).0 h in
        (c.0, rw same at ((step_at_exact p c.0 e c.1).0 k))

pub contract_at_position : ContractAtPosition
contract_at_position p t u = contract_at_exact p t u

pub contract_at-within : {s : Sort} (e : Exp s) (p : ℕ) (g : Exp s) → contract_at p e ≡ some g → p < size e
contract_at-within e p g h = contraction_within ((contract_at_exact p e g).0 h).1

-- `contract_at` gives none exactly where `step_at` does.
pub contract_at_none : {s : Sort} (p : ℕ) (e : Exp s) → (contract_at p e ≡ none) ↔ (step_at p e ≡ none)
unfolding contract_at
contract_at_none p e = map-eq-none_iff (λ c. c.1) (step_at p e)

-- A step of a part, put into the whole, starts within the part.
through-within : {s t : Sort} (e : Exp s) (f : Exp s → Exp t) (p : ℕ) (c : Rule × Exp t) → map (through f) (step_at p e) ≡ some c → p < size e
through-within e f p c h =
    let (k, q, same) = (map-eq-some_iff (through f) (step_at p e)).0 h in
    contraction_within ((step_at_exact p k.0 e k.1).0 q)

pub earliest_step : {s : Sort} (e : Exp s) → Earliest (λ p. step_at p e) (first_step e)
unfolding step_at first_step or_else
earliest_step (var i) = never (λ q. refl)
earliest_step (lam b) = earliest_word _ (λ p. refl) (earliest_through lam (earliest_step b))
earliest_step (app f a) =
    earliest_word _ (λ p. refl)
    (earliest_append (size f) (through-within f (λ f'. app f' a)) (earliest_through (λ f'. app f' a) (earliest_step f)) (earliest_through (app f) (earliest_step a)))
earliest_step (con t xs) = earliest_word _ (λ p. refl) (earliest_through (con t) (earliest_step xs))
earliest_step (case e bs) =
    earliest_word _ (λ p. refl)
    (earliest_append (size e) (through-within e (λ e'. case e' bs)) (earliest_through (λ e'. case e' bs) (earliest_step e)) (earliest_through (case e) (earliest_step bs)))
earliest_step (num n) = first refl (λ q (l : q < 0). absurd (omega arith))
earliest_step nil = never (λ q. refl)
earliest_step (cons a xs) =
    earliest_append (size a) (through-within a (λ a'. cons a' xs)) (earliest_through (λ a'. cons a' xs) (earliest_step a)) (earliest_through (cons a) (earliest_step xs))
earliest_step end = never (λ q. refl)
earliest_step (branch t n b bs) =
    earliest_word _ (λ p. refl)
    (earliest_append (size b) (through-within b (λ b'. branch t n b' bs)) (earliest_through (λ b'. branch t n b' bs) (earliest_step b)) (earliest_through (branch t n b) (earliest_step bs)))

-- At every sort: no step, and no contraction.
pub first_step_none : {s : Sort} (e : Exp s) → (first_step e ≡ none) ↔ ((p : ℕ) (r : Rule) (g : Exp s) → Contracts s p r e g → ⊥)
first_step_none {s} e = go (earliest_step e)
  where
    go : {o : Option (Step (Exp s))} → Earliest (λ p. step_at p e) o → (o ≡ none) ↔ ((p : ℕ) (r : Rule) (g : Exp s) → Contracts s p r e g → ⊥)
    go (never h) = (λ q p r g c. none-ne-some (r, g) (sym (h p) ∙ contracts_step_at c), λ k. refl)
    go (first {c = c} d h) =
        (λ q. absurd (some-ne-none c q), λ k. absurd (k c.position c.rule c.result ((step_at_exact c.position c.rule e c.result).0 d)))

pub redex_first : RedexFirst
unfolding redex_at contract_at
redex_first t p = go (earliest_step t)
  where
    Earlier : Type 0
    Earlier = ((u : Term) × (contract_at p t ≡ some u)) × ((q : ℕ) → q < p → contract_at q t ≡ none)

    go : {o : Option (Step Term)} → Earliest (λ p. step_at p t) o → (map (λ c. c.position) o ≡ some p) ↔ Earlier
    go (never h) =
        (λ e. absurd (none-ne-some p e), λ k. absurd (none-ne-some k.0.0 (sym ((contract_at_none p t).1 (h p)) ∙ k.0.1)))
    go (first {c = c} d h) = (λ e. rw (some-injective c.position p e) at given, λ k. ap some (same k))
      where
        given : ((u : Term) × (contract_at c.position t ≡ some u)) × ((q : ℕ) → q < c.position → contract_at q t ≡ none)
        given = ((c.result, ap (map (λ c. c.1)) d), λ q l. (contract_at_none q t).1 (h q l))

        same : Earlier → c.position ≡ p
        same k =
            let before : ¬ (c.position < p) = λ l. none-ne-some c.result (sym (k.1 c.position l) ∙ given.0.1) in
            let behind : ¬ (p < c.position) = λ l. none-ne-some k.0.0 (sym (given.1 p l) ∙ k.0.1) in
            omega arith

-- `redex_at` gives none exactly where there is no first step.
redex_at_none : (t : Term) → (redex_at t ≡ none) ↔ (first_step t ≡ none)
unfolding redex_at
redex_at_none t = map-eq-none_iff (λ c. c.position) (first_step t)

pub redex_none : RedexNone
redex_none t = (
  λ e u c. (first_step_none t).0 ((redex_at_none t).0 e) c.0 c.1 u c.2,
  λ n. (redex_at_none t).1 ((first_step_none t).1 (λ p r u c. n u (p, r, c))),
)

-- No redex starts behind the words, so there is none where none starts within them.
pub redex_absent : (t : Term) → ((q : ℕ) → q < size t → contract_at q t ≡ none) → redex_at t ≡ none
redex_absent t h = (redex_none t).1 (λ u c. none-ne-some u (sym (h c.0 (contraction_within c.2)) ∙ contracts_contract_at c.2))

pub leftmost-at_redex : LeftmostAtRedex
unfolding bind leftmost redex_at contract_at
leftmost-at_redex t = go (earliest_step t)
  where
    go : {o : Option (Step Term)} → Earliest (λ p. step_at p t) o
        → map (λ c. c.result) o ≡ bind (map (λ c. c.position) o) (λ p. contract_at p t)
    go (never h) = refl
    go (first d h) = sym (ap (map (λ c. c.1)) d)
