-- Reading a line: which refusal is met, and what is left.
use Prim.Native.Nat.{ℕ, ◌≤◌, ◌<◌}
use mathlib.Core.Path.{◌≡◌, refl, ap}
use mathlib.Core.Bool.{Bool, true, false, ◌&&◌}
use mathlib.Core.List.{List}
use mathlib.Core.Logic.{ite, ◌⊎◌, inl, inr}
use mathlib.Core.Option.{Option, some, none}
use native.Mathlib.Omega.{arith}
use lib.Dec.{leb, ltb}
use lib.ListN.{length}
use borrow.Author.Tests.{lt-ltb, le-ltb, le-leb, lt-leb}
use Rattle.calculus.specs.Term.{Term, var, lam, app, con, case, num}
use Rattle.calculus.specs.Words.{size}
use Rattle.calculus.specs.Accepted.{Scoped, Accepted}
use Rattle.calculus.specs.Decide.{scoped?}
use Rattle.calculus.specs.Refusal.{WrongLine}
use Rattle.calculus.specs.Bringing.{free_fits, refused, refuse}
use Rattle.notation.specs.Grammar.{Line, line_least, line_most}
use Rattle.notation.specs.Reader.{line_term}
use Rattle.calculus.proofs.BringingLaws.{free-fits}
use Rattle.notation.specs.Reading.{line_fits, read_line}
use Rattle.notation.specs.Theorems.{Expressible, LengthsFit, ReadingExact}
use Rattle.notation.proofs.TermLaws.{line_complete, line_sound}
use Rattle.notation.proofs.Expressible.{spells_expressible}

-- A term of a line has nothing that could break a limit but its free numbers.
scoped_accepted : (t : Term) (d : ℕ) → Expressible t → Scoped d t → Accepted d t
scoped_accepted (var i) d h s = s
scoped_accepted (lam b) d h s = scoped_accepted b _ h s
scoped_accepted (app f a) d h s = (scoped_accepted f d h.0 s.0, scoped_accepted a d h.1 s.1)
scoped_accepted (con t xs) d h s = absurd h.0
scoped_accepted (case e bs) d h s = absurd h.0
scoped_accepted (num n) d h s = absurd h

pub line_accepted : {line : List ℕ} {t : Term} → Line line t → Scoped 0 t → Accepted 0 t
line_accepted {t = t} l s = scoped_accepted t 0 (spells_expressible l) s

free-above : (t : Term) → (Scoped 0 t → ⊥) → free_fits t ≡ false
free-above t n = go (scoped? 0 t)
  where
    go : (d : Dec (Scoped 0 t)) → ite d true false ≡ false
    go (yes a) = absurd (n a)
    go (no m) = refl

and_false : (b : Bool) → (b && false) ≡ false
and_false true = refl
and_false false = refl

fits : (line : List ℕ) → line_least ≤ length line → length line ≤ line_most → line_fits line ≡ true
fits line h g = rw (le-leb line_least (length line) h, le-leb (length line) line_most g)

fits_not : (line : List ℕ) → (length line < line_least) ⊎ (line_most < length line) → line_fits line ≡ false
fits_not line (inl h) = rw (lt-leb line_least (length line) h)
fits_not line (inr h) = rw (lt-leb (length line) line_most h) (and_false (leb line_least (length line)))

never : ◌≡◌ {A = ℕ} 0 1 → ⊥
never e = omega arith

module _ (line workspace : List ℕ) where
  none_given : ((t : Term) → Line line t → ⊥) → line_term line ≡ none
  none_given h = go (line_term line) refl
    where
      go : (o : Option Term) → line_term line ≡ o → line_term line ≡ none
      go none e = e
      go (some t) e = absurd (h t (line_sound line e))

  read-outside : LengthsFit line workspace → line_term line ≡ none → read_line line workspace ≡ refuse workspace WrongLine
  unfolding read_line
  read-outside a e = rw (a.workspace_fits, fits line a.least a.most, e)

  given : LengthsFit line workspace → ((read_line line workspace).answer ≡ refused WrongLine → ⊥) → (t : Term) × Line line t
  given a h = go (line_term line) refl
    where
      go : (o : Option Term) → line_term line ≡ o → (t : Term) × Line line t
      go none e = absurd (h (ap (λ r. r.answer) (read-outside a e)))
      go (some t) e = (t, line_sound line e)

  not_wrong : LengthsFit line workspace → (t : Term) → Line line t → (read_line line workspace).answer ≡ refused WrongLine → ⊥
  unfolding read_line
  not_wrong a t l q = go (free_fits t) (ltb (length workspace) (size t)) refl refl
    where
      go : (f g : Bool) → free_fits t ≡ f → ltb (length workspace) (size t) ≡ g → ⊥
      go false g e r = let z = rw (a.workspace_fits, fits line a.least a.most, line_complete l, e) at q in never (cc)
      go true true e r = let z = rw (a.workspace_fits, fits line a.least a.most, line_complete l, e, r) at q in never (cc)
      go true false e r = let z = rw (a.workspace_fits, fits line a.least a.most, line_complete l, e, r) at q in never (cc)

pub reading_exact : ReadingExact
unfolding read_line
reading_exact line workspace =
    record {
      wrong-workspace = λ e. rw e;
      wrong-length = λ w f. rw (w, fits_not line f);
      escapes = λ a. (given line workspace a, λ l q. not_wrong line workspace a l.0 l.1 q);
      outside = λ a h. read-outside line workspace a (none_given line workspace h);
      wrong-free = λ a t l s. rw (a.workspace_fits, fits line a.least a.most, line_complete l, free-above t s);
      too_long = λ a t l s h. rw (a.workspace_fits, fits line a.least a.most, line_complete l, (free-fits t).1 s, lt-ltb (length workspace) (size t) h);
      leaves = λ a t l s h. (line_accepted l s, rw (a.workspace_fits, fits line a.least a.most, line_complete l, (free-fits t).1 s, le-ltb (length workspace) (size t) h));
    }
