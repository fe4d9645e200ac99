-- Equality of terms is decidable, computed. The type of `equal?` says all that is decided; nothing else here needs to be read.
use Rattle.std.specs.Prelude.{ℕ, ◌≡◌, refl}
use Rattle.std.proofs.Common.{sym, ◌∙◌, ap, ap₂}
use Rattle.std.proofs.Math.Decide.{ℕ_discrete}
use Rattle.calculus.specs.Term.{Sort, term, terms, branches, Exp, var, lam, app, con, case, num, nil, cons, end, branch, Term, Terms, Branches}

-- Expressions of all sorts as trees of one plain type, whose equality is derived.
pub data Tree : Type 0 where
  var' : ℕ → Tree
  lam' : Tree → Tree
  app' : Tree → Tree → Tree
  con' : ℕ → Tree → Tree
  case' : Tree → Tree → Tree
  num' : ℕ → Tree
  nil' : Tree
  cons' : Tree → Tree → Tree
  end' : Tree
  branch' : ℕ → ℕ → Tree → Tree → Tree
  deriving Discrete as Tree-discrete

unfoldable pub tree : {s : Sort} → Exp s → Tree
tree (var i) = var' i
tree (lam b) = lam' (tree b)
tree (app f a) = app' (tree f) (tree a)
tree (con t xs) = con' t (tree xs)
tree (case e bs) = case' (tree e) (tree bs)
tree (num n) = num' n
tree nil = nil'
tree (cons a xs) = cons' (tree a) (tree xs)
tree end = end'
tree (branch t n b bs) = branch' t n (tree b) (tree bs)

-- A tree read back at each of the three sorts.
abbrev pub Back : Type 0
Back = Term × Terms × Branches

unfoldable pub back : Tree → Back
back (var' i) = (var i, nil, end)
back (lam' b) = (lam (back b).0, nil, end)
back (app' f a) = (app (back f).0 (back a).0, nil, end)
back (con' t xs) = (con t (back xs).1, nil, end)
back (case' e bs) = (case (back e).0 (back bs).2, nil, end)
back (num' n) = (num n, nil, end)
back nil' = (var 0, nil, end)
back (cons' a xs) = (var 0, cons (back a).0 (back xs).1, end)
back end' = (var 0, nil, end)
back (branch' t n b bs) = (var 0, nil, branch t n (back b).0 (back bs).2)

unfoldable pub at : (s : Sort) → Back → Exp s
at term r = r.0
at terms r = r.1
at branches r = r.2

pub back-tree : {s : Sort} (e : Exp s) → at s (back (tree e)) ≡ e
unfolding tree back at
back-tree (var i) = refl
back-tree (lam b) = ap lam (back-tree b)
back-tree (app f a) = ap₂ app (back-tree f) (back-tree a)
back-tree (con t xs) = ap (con t) (back-tree xs)
back-tree (case e bs) = ap₂ case (back-tree e) (back-tree bs)
back-tree (num n) = refl
back-tree nil = refl
back-tree (cons a xs) = ap₂ cons (back-tree a) (back-tree xs)
back-tree end = refl
back-tree (branch t n b bs) = ap₂ (branch t n) (back-tree b) (back-tree bs)

unfoldable pub from_trees : {s : Sort} (e g : Exp s) → Dec (tree e ≡ tree g) → Dec (e ≡ g)
from_trees {s} e g (yes h) = yes (sym (back-tree e) ∙ ap (λ t. at s (back t)) h ∙ back-tree g)
from_trees e g (no h) = no (λ q. h (ap tree q))

unfoldable pub equal? : {s : Sort} (e g : Exp s) → Dec (e ≡ g)
equal? e g = from_trees e g (Tree-discrete ℕ_discrete (tree e) (tree g))
