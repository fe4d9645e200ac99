-- A redex starts at a position of a term exactly where its parts are found in the words there.
use Prim.Native.Nat.{ℕ, zero, suc, ◌+◌, ◌-◌, ◌≤◌, ◌<◌}
use mathlib.Core.Path.{◌≡◌, refl, sym, subst, ◌∙◌, ap}
use mathlib.Core.Bool.{Bool, true, false, cond}
use mathlib.Core.List.{List, ◌++◌, append_assoc}
use mathlib.Core.Option.{Option, some, none, map, some-injective, none-ne-some}
use native.Mathlib.Omega.{arith}
use lib.Dec.{ltb}
use lib.ListN.{drop, length-append}
use borrow.Author.Tests.{ltb-true, ltb-false}
use Rattle.calculus.specs.Term.{Sort, Exp, Term, var, lam, app, con, case, num, nil, cons, end, branch}
use Rattle.calculus.specs.Words.{branch_kind, pack, words, size}
use Rattle.calculus.specs.Contraction.{Rule}
use Rattle.calculus.specs.Position.{through, step_at, contract_at}
use Rattle.calculus.specs.Theorems.{Packable}
use Rattle.calculus.proofs.WordLaws.{accepted_packable}
use Rattle.redex.specs.Held.{held, Holds}
use Rattle.redex.specs.Rules.{Parts, nothing, rule_of_parts, parts}
use Rattle.redex.proofs.HeldLaws.{term_at_start}
use Rattle.redex.proofs.RedexLaws.{From, behind-word, behind, Root, stuck, contracts, expands, root, stands, other_first}

-- A contraction and its parts are both there, by the same rule, or neither is.
pub data Agrees {A : Type 0} : Option (Rule × A) → Parts → Type 0 where
  neither : Agrees none nothing
  both : {rule : Rule} {a : A} {r : Parts} → rule_of_parts r ≡ some rule → Agrees (some (rule, a)) r

agrees-through : {A B : Type 0} (f : A → B) {o : Option (Rule × A)} {r : Parts} → Agrees o r → Agrees (map (through f) o) r
agrees-through f neither = neither
agrees-through f (both e) = both e

agrees-ltb : {A : Type 0} (m n : ℕ) {x y : Option (Rule × A)} {r : Parts} → (m < n → Agrees x r) → (n ≤ m → Agrees y r) → Agrees (cond (ltb m n) x y) r
agrees-ltb m n {x} {y} {r} f g = go (ltb m n) refl
  where
    go : (b : Bool) → ltb m n ≡ b → Agrees (cond b x y) r
    go true e = f (ltb-true m n e)
    go false e = g (ltb-false m n e)

agrees_root : {W : List ℕ} {at : ℕ} {t : Term} {o : Option (Rule × Term)} {r : Parts} → Root W at t o r → Agrees o r
agrees_root stuck = neither
agrees_root (contracts b a l i m e) = both refl
agrees_root (expands e) = both refl

agrees_some : {A : Type 0} {o : Option (Rule × A)} {r : Parts} {rule : Rule} → Agrees o r → rule_of_parts r ≡ some rule → (a : A) × (o ≡ some (rule, a))
agrees_some neither q = absurd (none-ne-some _ q)
agrees_some (both {a = a} e) q = (a, ap (λ r. some (r, a)) (some-injective _ _ (sym e ∙ q)))

agrees_none : {A : Type 0} {o : Option (Rule × A)} → Agrees o nothing → o ≡ none
agrees_none neither = refl
agrees_none (both e) = absurd (none-ne-some _ e)

-- The contractions at p of an expression, beside the parts found at the position q of a workspace.
abbrev FoundAt : {s : Sort} → List ℕ → (q p : ℕ) → Exp s → Type 0
FoundAt W q p e = Agrees (step_at p e) (parts q (drop q W))

found_root : (t : Term) {W : List ℕ} (at : ℕ) {q : ℕ} (vs : List ℕ) → Packable t → From W at (words t ++ vs) → at ≡ q → FoundAt W q 0 t
found_root t {W} at vs h s e = subst (λ q. FoundAt W q 0 t) e (agrees_root (root (stands t vs s h)))

found_at : {s : Sort} (e : Exp s) {W : List ℕ} (at p : ℕ) {q : ℕ} (vs : List ℕ) → Packable e → From W at (words e ++ vs) → p < size e → at + p ≡ q → FoundAt W q p e
unfolding step_at
found_at (var i) at p vs h s l e = found_root (var i) at vs h s (omega arith)
found_at (lam b) at zero vs h s l e = found_root (lam b) at vs h s (omega arith)
found_at (lam b) at (suc p) vs h s l e = agrees-through lam (found_at b (at + 1) p vs h (behind-word s) (omega arith) (omega arith))
found_at (app f a) at zero vs h s l e = found_root (app f a) at vs h s (omega arith)
found_at (app f a) at (suc p) vs h s l e =
    let s' = rw (append_assoc (words f) (words a) vs) at (behind-word s) in
    agrees-ltb p (size f)
    (λ m. agrees-through (λ f'. app f' a) (found_at f (at + 1) p (words a ++ vs) h.0 s' m (omega arith)))
    (λ m. agrees-through (app f) (found_at a (at + 1 + size f) (p - size f) vs h.1 (behind (words f) s') (omega (arith, length-append (words f) (words a))) (omega arith)))
found_at (con t xs) at zero vs h s l e = found_root (con t xs) at vs h s (omega arith)
found_at (con t xs) at (suc p) vs h s l e = agrees-through (con t) (found_at xs (at + 1) p vs h.1 (behind-word s) (omega arith) (omega arith))
found_at (case c bs) at zero vs h s l e = found_root (case c bs) at vs h s (omega arith)
found_at (case c bs) at (suc p) vs h s l e =
    let s' = rw (append_assoc (words c) (words bs) vs) at (behind-word s) in
    agrees-ltb p (size c)
    (λ m. agrees-through (λ c'. case c' bs) (found_at c (at + 1) p (words bs ++ vs) h.1 s' m (omega arith)))
    (λ m. agrees-through (case c) (found_at bs (at + 1 + size c) (p - size c) vs h.2 (behind (words c) s') (omega (arith, length-append (words c) (words bs))) (omega arith)))
found_at (num n) at zero vs h s l e = found_root (num n) at vs h s (omega arith)
found_at (num n) at (suc p) vs h s l e = absurd (omega arith)
found_at nil at p vs h s l e = absurd (omega arith)
found_at (cons a xs) at p vs h s l e =
    let s' = rw (append_assoc (words a) (words xs) vs) at s in
    agrees-ltb p (size a)
    (λ m. agrees-through (λ a'. cons a' xs) (found_at a at p (words xs ++ vs) h.0 s' m e))
    (λ m. agrees-through (cons a) (found_at xs (at + size a) (p - size a) vs h.1 (behind (words a) s') (omega (arith, length-append (words a) (words xs))) (omega arith)))
found_at end at p vs h s l e = absurd (omega arith)
found_at (branch t n b bs) at zero {q} vs h s l e =
    let z : q ≡ at = omega arith in
    rw (z, s.from, other_first branch_kind (pack t n) at _ (omega arith) (λ e. omega arith) (λ e. omega arith) (λ e. omega arith)) neither
found_at (branch t n b bs) at (suc p) vs h s l e =
    let s' = rw (append_assoc (words b) (words bs) vs) at (behind-word s) in
    agrees-ltb p (size b)
    (λ m. agrees-through (λ b'. branch t n b' bs) (found_at b (at + 1) p (words bs ++ vs) h.1 s' m (omega arith)))
    (λ m. agrees-through (branch t n b) (found_at bs (at + 1 + size b) (p - size b) vs h.2 (behind (words b) s') (omega (arith, length-append (words b) (words bs))) (omega arith)))

-- At each position of the held term.
module _ {ws : List ℕ} {n : ℕ} (holds : Holds ws n) {p : ℕ} (within : p < n) where
  found_here : FoundAt ws p p (held ws n)
  found_here =
      let h = term_at_start ws n (held ws n) holds.term in
      found_at (held ws n) 0 p (drop n ws) (accepted_packable 0 (held ws n) h.accepted) (record { from = sym h.start })
      (omega arith) (omega arith)

  pub redex_here : {rule : Rule} → rule_of_parts (parts p (drop p ws)) ≡ some rule → (u : Term) × (step_at p (held ws n) ≡ some (rule, u))
  redex_here e = agrees_some found_here e

  pub no_redex_here : parts p (drop p ws) ≡ nothing → contract_at p (held ws n) ≡ none
  unfolding contract_at
  no_redex_here e = ap (map (λ c. c.1)) (agrees_none (rw e at found_here))
