-- Contraction by position, as functions: how the unit finds a redex and contracts it. The relation `Contracts` is the definition;
-- `ContractAtPosition`, `RedexFirst`, `RedexNone` and `LeftmostAtRedex` state that these functions follow it.
use Rattle.std.specs.Prelude.{ℕ, zero, suc, ◌-◌, cond, ltb}
use Rattle.std.proofs.Math.Option.{Option, none, map}
use Rattle.calculus.specs.Term.{Sort, Exp, var, lam, app, con, case, num, nil, cons, end, branch}
use Rattle.calculus.specs.Words.{size}
use Rattle.calculus.specs.Contraction.{Rule}
use Rattle.calculus.specs.Step.{contractum, first_step}

-- What a contraction of a part makes of the whole.
abbrev pub through : {A B : Type 0} → (A → B) → Rule × A → Rule × B
through f c = (c.0, f c.1)

-- The rule by which the redex that starts at word position p contracts, and what the whole expression becomes; none where no redex starts there.
unfoldable pub step_at : {s : Sort} → ℕ → Exp s → Option (Rule × Exp s)
step_at p (var i) = none
step_at zero (lam b) = none
step_at (suc p) (lam b) = map (through lam) (step_at p b)
step_at zero (app f a) = contractum (app f a)
step_at (suc p) (app f a) =
    cond (ltb p (size f)) (map (through (λ f'. app f' a)) (step_at p f)) (map (through (app f)) (step_at (p - size f) a))
step_at zero (con t xs) = none
step_at (suc p) (con t xs) = map (through (con t)) (step_at p xs)
step_at zero (case e bs) = contractum (case e bs)
step_at (suc p) (case e bs) =
    cond (ltb p (size e)) (map (through (λ e'. case e' bs)) (step_at p e)) (map (through (case e)) (step_at (p - size e) bs))
step_at zero (num n) = contractum (num n)
step_at (suc p) (num n) = none
step_at p nil = none
step_at p (cons a xs) =
    cond (ltb p (size a)) (map (through (λ a'. cons a' xs)) (step_at p a)) (map (through (cons a)) (step_at (p - size a) xs))
step_at p end = none
step_at zero (branch t n b bs) = none
step_at (suc p) (branch t n b bs) =
    cond (ltb p (size b)) (map (through (λ b'. branch t n b' bs)) (step_at p b)) (map (through (branch t n b)) (step_at (p - size b) bs))

-- What the redex that starts at word position p becomes, in the whole expression.
unfoldable pub contract_at : {s : Sort} → ℕ → Exp s → Option (Exp s)
contract_at p e = map (λ c. c.1) (step_at p e)

-- The word position at which the leftmost redex starts, none in a normal expression.
unfoldable pub redex_at : {s : Sort} → Exp s → Option ℕ
redex_at e = map (λ c. c.position) (first_step e)
