-- A contraction at p neither makes nor unmakes a redex that starts at q, where q + 1 < p: such a redex is told by its first two words and by its
-- own branches' words, and the contraction replaces a term that starts at p and none of these. So a search may go on at p - 1.
use Prim.Native.Nat.{ℕ, zero, suc, ◌+◌, ◌-◌, ◌≤◌, ◌<◌}
use mathlib.Core.Path.{◌≡◌, refl}
use mathlib.Core.Logic.{◌↔◌}
use mathlib.Core.Bool.{Bool, true, false, cond}
use mathlib.Core.Option.{Option, some, none, map}
use lib.Dec.{ltb}
use borrow.Author.Tests.{lt-ltb, ltb-false}
use native.Mathlib.Omega.{arith}
use Rattle.calculus.specs.Term.{Sort, term, branches, Exp, var, lam, app, con, case, num, cons, branch, Term, Branches}
use Rattle.calculus.specs.Words.{size}
use Rattle.calculus.specs.Contraction.{Rule, Contracts, at_beta, at_case, at_numeral, in_body, in-function, in-argument}
use Rattle.calculus.specs.Contraction.{in-arguments, in-subject, in-branches, in-first, in-later, in-branch, in-later-branch}
use Rattle.calculus.specs.Step.{contractum}
use Rattle.calculus.specs.Position.{through, step_at, contract_at, redex_at}
use Rattle.calculus.specs.Theorems.{RedexesBeforeKept}
use Rattle.calculus.proofs.All.{Both, neither, each, both_map, both_sym, both_none}
use Rattle.calculus.proofs.Site.{contraction_within, contraction_leaves}
use Rattle.calculus.proofs.PositionLaws.{contract_at_position, contract_at_none, redex_none}
use Rattle.calculus.proofs.Parallel.{par_refl, par_select}
use Rattle.calculus.proofs.ChurchRosser.{parallel}

-- Both hold something, or neither does.
abbrev pub Alike : {A B : Type 0} → Option A → Option B → Type 0
Alike o o' = Both (λ a b. Unit {0}) o o'

alike_itself : {A : Type 0} (o : Option A) → Alike o o
alike_itself none = neither
alike_itself (some a) = each tt

alike : {A B : Type 0} {R : A → B → Type 0} {o : Option A} {o' : Option B} → Both R o o' → Alike o o'
alike neither = neither
alike (each r) = each tt

alike_sym : {A B : Type 0} {o : Option A} {o' : Option B} → Alike o o' → Alike o' o
alike_sym h = both_sym {S = λ b a. Unit {0}} h (λ a b r. r)

alike_map : {A B C D : Type 0} (f : A → C) (g : B → D) {o : Option A} {o' : Option B} → Alike o o' → Alike (map f o) (map g o')
alike_map f g h = both_map f g h (λ a b r. tt)

-- Of two parts, the position lies in the first, which may change; or the first stays.
alike_part : {A B : Type 0} (q m n : ℕ) (x y : Option A) (x' y' : Option B) → q < m → q < n → Alike x x' → Alike (cond (ltb q m) x y) (cond (ltb q n) x' y')
alike_part q m n x y x' y' h k a = rw (lt-ltb q m h, lt-ltb q n k) a

alike_behind : {A B : Type 0} (q m : ℕ) (x y : Option A) (x' y' : Option B) → Alike x x' → (m ≤ q → Alike y y') → Alike (cond (ltb q m) x y) (cond (ltb q m) x' y')
alike_behind q m x y x' y' a b = go (ltb q m) refl
  where
    go : (t : Bool) → ltb q m ≡ t → Alike (cond t x y) (cond t x' y')
    go true e = a
    go false e = b (ltb-false q m e)

-- At the word before a contraction's redex and further in front: the application's function and the case's subject keep what tells a redex.
pub function_kept : {p : ℕ} {r : Rule} {f f' : Term} (a : Term) → Contracts term p r f f' → 1 ≤ p → Alike (contractum (app f a)) (contractum (app f' a))
function_kept a at_beta h = absurd (omega arith)
function_kept a (at_case k) h = absurd (omega arith)
function_kept a at_numeral h = absurd (omega arith)
function_kept a (in_body c) h = each tt
function_kept a (in-function c) h = neither
function_kept a (in-argument c) h = neither
function_kept a (in-arguments c) h = neither
function_kept a (in-subject c) h = neither
function_kept a (in-branches c) h = neither

pub argument-kept : (f a a' : Term) → Alike (contractum (app f a)) (contractum (app f a'))
argument-kept (var i) a a' = neither
argument-kept (lam b) a a' = each tt
argument-kept (app f g) a a' = neither
argument-kept (con t xs) a a' = neither
argument-kept (case e bs) a a' = neither
argument-kept (num n) a a' = neither

pub subject_kept : {p : ℕ} {r : Rule} {e e' : Term} (bs : Branches) → Contracts term p r e e' → 1 ≤ p → Alike (contractum (case e bs)) (contractum (case e' bs))
subject_kept bs at_beta h = absurd (omega arith)
subject_kept bs (at_case k) h = absurd (omega arith)
subject_kept bs at_numeral h = absurd (omega arith)
subject_kept bs (in_body c) h = neither
subject_kept bs (in-function c) h = neither
subject_kept bs (in-argument c) h = neither
subject_kept bs (in-arguments {t = t} c) h = alike_map _ _ (alike (par_select t (parallel c) (par_refl bs)))
subject_kept bs (in-subject c) h = neither
subject_kept bs (in-branches c) h = neither

pub branches_kept : {p : ℕ} {r : Rule} (e : Term) {bs bs' : Branches} → Contracts branches p r bs bs' → Alike (contractum (case e bs)) (contractum (case e bs'))
branches_kept (var i) c = neither
branches_kept (lam b) c = neither
branches_kept (app f a) c = neither
branches_kept (con t xs) c = alike_map _ _ (alike (par_select t (par_refl xs) (parallel c)))
branches_kept (case e cs) c = neither
branches_kept (num n) c = neither

module _ {s t : Sort} {p : ℕ} {r : Rule} {e g : Exp s} (c : Contracts s p r e g) (q : ℕ) (before : q + 1 < p) (f f' : Exp s → Exp t) (y y' : Option (Rule × Exp t)) where
  in-part : Alike (step_at q e) (step_at q g)
      → Alike (cond (ltb q (size e)) (map (through f) (step_at q e)) y) (cond (ltb q (size g)) (map (through f') (step_at q g)) y')
  in-part a =
      alike_part q (size e) (size g) _ y _ y' (omega (arith, contraction_within c)) (omega (arith, contraction_leaves c)) (alike_map (through f) (through f') a)

starts_alike : {s : Sort} {p : ℕ} {r : Rule} {e g : Exp s} → Contracts s p r e g → (q : ℕ) → q + 1 < p → Alike (step_at q e) (step_at q g)
unfolding step_at
starts_alike at_beta q h = absurd (omega arith)
starts_alike (at_case k) q h = absurd (omega arith)
starts_alike at_numeral q h = absurd (omega arith)
starts_alike (in_body c) zero h = neither
starts_alike (in_body c) (suc q) h = alike_map (through lam) (through lam) (starts_alike c q (omega arith))
starts_alike (in-function {a = a} c) zero h = function_kept a c (omega arith)
starts_alike (in-function {a = a} c) (suc q) h = in-part c q (omega arith) (λ f. app f a) (λ f. app f a) _ _ (starts_alike c q (omega arith))
starts_alike (in-argument {f = f} {a = a} {a' = a'} c) zero h = argument-kept f a a'
starts_alike (in-argument {f = f} {a = a} {a' = a'} c) (suc q) h =
    alike_behind q (size f) _ _ _ _ (alike_map (through (λ f. app f a)) (through (λ f. app f a')) (alike_itself (step_at q f)))
    (λ l. alike_map (through (app f)) (through (app f)) (starts_alike c (q - size f) (omega arith)))
starts_alike (in-arguments c) zero h = neither
starts_alike (in-arguments {t = t} c) (suc q) h = alike_map (through (con t)) (through (con t)) (starts_alike c q (omega arith))
starts_alike (in-subject {bs = bs} c) zero h = subject_kept bs c (omega arith)
starts_alike (in-subject {bs = bs} c) (suc q) h = in-part c q (omega arith) (λ e. case e bs) (λ e. case e bs) _ _ (starts_alike c q (omega arith))
starts_alike (in-branches {e = e} c) zero h = branches_kept e c
starts_alike (in-branches {e = e} {bs = bs} {bs' = bs'} c) (suc q) h =
    alike_behind q (size e) _ _ _ _ (alike_map (through (λ e. case e bs)) (through (λ e. case e bs')) (alike_itself (step_at q e)))
    (λ l. alike_map (through (case e)) (through (case e)) (starts_alike c (q - size e) (omega arith)))
starts_alike (in-first {xs = xs} c) q h = in-part c q h (λ a. cons a xs) (λ a. cons a xs) _ _ (starts_alike c q h)
starts_alike (in-later {a = a} {xs = xs} {xs' = xs'} c) q h =
    alike_behind q (size a) _ _ _ _ (alike_map (through (λ a. cons a xs)) (through (λ a. cons a xs')) (alike_itself (step_at q a)))
    (λ l. alike_map (through (cons a)) (through (cons a)) (starts_alike c (q - size a) (omega arith)))
starts_alike (in-branch c) zero h = neither
starts_alike (in-branch {t = t} {n = n} {bs = bs} c) (suc q) h =
    in-part c q (omega arith) (λ b. branch t n b bs) (λ b. branch t n b bs) _ _ (starts_alike c q (omega arith))
starts_alike (in-later-branch c) zero h = neither
starts_alike (in-later-branch {t = t} {n = n} {b = b} {bs = bs} {bs' = bs'} c) (suc q) h =
    alike_behind q (size b) _ _ _ _ (alike_map (through (λ b. branch t n b bs)) (through (λ b. branch t n b bs')) (alike_itself (step_at q b)))
    (λ l. alike_map (through (branch t n b)) (through (branch t n b)) (starts_alike c (q - size b) (omega arith)))

alike_starts : {s : Sort} {p : ℕ} {r : Rule} {e g : Exp s} → Contracts s p r e g → (q : ℕ) → q + 1 < p → (contract_at q e ≡ none) ↔ (contract_at q g ≡ none)
alike_starts {e = e} {g} c q h = (
  λ n. (contract_at_none q g).1 (both_none (starts_alike c q h) ((contract_at_none q e).0 n)),
  λ n. (contract_at_none q e).1 (both_none (alike_sym (starts_alike c q h)) ((contract_at_none q g).0 n)),
)

pub redexes_before_kept : RedexesBeforeKept
redexes_before_kept p q r t u c h = alike_starts c q h

-- After the contraction of the first redex no redex starts more than one word before its position.
pub none_before : (p : ℕ) (t u : Term) → contract_at p t ≡ some u → ((q : ℕ) → q < p → contract_at q t ≡ none)
    → (q : ℕ) → q < p - 1 → contract_at q u ≡ none
none_before p t u e first q h =
    let c = (contract_at_position p t u).0 e in
    (redexes_before_kept p q c.0 t u c.1 (omega arith)).0 (first q (omega arith))

-- In a normal term no redex starts anywhere.
pub none_anywhere : (t : Term) → redex_at t ≡ none → (q : ℕ) → contract_at q t ≡ none
none_anywhere t e q = go (contract_at q t) refl
  where
    go : (o : Option Term) → contract_at q t ≡ o → o ≡ none
    go none h = refl
    go (some u) h = let c = (contract_at_position q t u).0 h in absurd ((redex_none t).0 e u (q, c.0, c.1))
