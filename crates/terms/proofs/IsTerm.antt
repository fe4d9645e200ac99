-- What the scan tells of `is_term`, and what `is_term` tells of the term in a workspace.
use Prim.Native.Nat.{ℕ, ◌≤◌, ◌<◌}
use mathlib.Core.Path.{◌≡◌, refl, sym}
use mathlib.Core.Bool.{Bool, true, false, false≢true, and-eq-true_iff}
use mathlib.Core.List.{List}
use mathlib.Core.Option.{Option, some, none, Option-elim}
use native.Mathlib.Omega.{arith}
use lib.Dec.{leb}
use lib.ListN.{length, take}
use lib.Seq.{take-length, take_all, length-take-le}
use borrow.Author.Tests.{le-leb, lt-leb, leb-true, leb-false}
use Rattle.calculus.specs.Term.{Term}
use Rattle.calculus.specs.Words.{workspace_most}
use Rattle.calculus.specs.Workspace.{term_at}
use Rattle.terms.specs.IsTerm.{is_term}
use Rattle.terms.proofs.Scan.{scan, whole, scan_exact}

pub is_term_long : (ws : List ℕ) (n : ℕ) → workspace_most < n → false ≡ is_term ws n
unfolding is_term
is_term_long ws n h = rw (lt-leb n workspace_most h)

term_at_past : (ws : List ℕ) (n : ℕ) → length ws < n → term_at ws n ≡ none
unfolding term_at
term_at_past ws n h = rw (lt-leb n (length ws) h)

pub is_term_past : (ws : List ℕ) (n : ℕ) → n ≤ workspace_most → length ws < n → false ≡ is_term ws n
unfolding is_term Option-elim
is_term_past ws n h g = rw (le-leb n workspace_most h, term_at_past ws n g)

pub is_term-scan : (ws : List ℕ) → length ws ≤ workspace_most → scan whole ws ≡ is_term ws (length ws)
unfolding is_term term_at
is_term-scan ws h = rw (le-leb (length ws) workspace_most h, le-leb (length ws) (length ws) (omega arith), take-length ws) (scan_exact ws)

-- The first n words alone.
pub is_term_first : (ws : List ℕ) (n : ℕ) → n ≤ workspace_most → n ≤ length ws → is_term (take n ws) (length (take n ws)) ≡ is_term ws n
unfolding is_term term_at
is_term_first ws n h g =
    rw (length-take-le n ws g, le-leb n workspace_most h, le-leb n n (omega arith), le-leb n (length ws) g, take_all n (take n ws) (omega (arith, length-take-le n ws g)))

-- In a workspace `is_term` tells exactly whether there is a term.
pub is_term_some : (ws : List ℕ) (n : ℕ) → is_term ws n ≡ true → (t : Term) × (term_at ws n ≡ some t)
unfolding is_term Option-elim
is_term_some ws n q = go (term_at ws n) refl ((and-eq-true_iff (leb n workspace_most) _).0 q).1
  where
    go : (o : Option Term) → term_at ws n ≡ o → Option-elim o false (λ t. true) ≡ true → (t : Term) × (term_at ws n ≡ some t)
    go none e r = absurd (false≢true r)
    go (some t) e r = (t, e)

-- In any list, where no more words are asked for than a workspace has.
pub is_term_short : (ws : List ℕ) (n : ℕ) → n ≤ workspace_most → is_term ws n ≡ false → term_at ws n ≡ none
unfolding is_term Option-elim
is_term_short ws n h q = go (term_at ws n) refl (rw (le-leb n workspace_most h) at q)
  where
    go : (o : Option Term) → term_at ws n ≡ o → Option-elim o false (λ t. true) ≡ false → term_at ws n ≡ none
    go none e r = e
    go (some t) e r = absurd (false≢true (sym r))

pub is_term_none : (ws : List ℕ) (n : ℕ) → length ws ≤ workspace_most → is_term ws n ≡ false → term_at ws n ≡ none
is_term_none ws n h q = go (leb n workspace_most) refl
  where
    go : (b : Bool) → leb n workspace_most ≡ b → term_at ws n ≡ none
    go true e = is_term_short ws n (leb-true n workspace_most e) q
    go false e = term_at_past ws n (omega (arith, leb-false n workspace_most e))
