-- What writing refuses, and its result where it does not.
use Prim.Native.Nat.{ℕ, ◌+◌, ◌-◌, ◌*◌, ◌≤◌}
use mathlib.Core.Path.{◌≡◌, refl}
use mathlib.Core.Bool.{false}
use mathlib.Core.List.{List, ◌++◌}
use native.Mathlib.Omega.{arith}
use lib.ListN.{length, replicate}
use borrow.Author.Tests.{eq-eqb, ne_eqb}
use Rattle.calculus.specs.Term.{Term}
use Rattle.calculus.specs.Words.{words, size}
use Rattle.calculus.specs.Accepted.{Accepted}
use Rattle.calculus.proofs.WorkspaceLaws.{term_at-words, length-padded, term_at_exact, held}
use Rattle.storage.specs.Records.{form1}
use Rattle.calculus.specs.Bringing.{returned}
use Rattle.storage.specs.Write.{table_of, write}
use Rattle.storage.specs.Theorems.{WritingExact}
use mathlib.Core.Option.{Option, some, none}
use Rattle.calculus.specs.Theorems.{Held}
use Rattle.calculus.specs.Workspace.{wrong_workspace, term_at}

no_held : (ws : List ℕ) (n : ℕ) → ((t : Term) → Held ws n t → ⊥) → term_at ws n ≡ none
no_held ws n h = by (term_at ws n) refl
  where
    by : (o : Option Term) → term_at ws n ≡ o → term_at ws n ≡ none
    by none e = e
    by (some t) e = absurd (h t (held ws n t e))

pub writing-exact : WritingExact
unfolding write
writing-exact ws n table =
    record {
      wrong-workspace = λ w. rw w;
      no_term = λ w h. rw (w, no_held ws n h);
      wrong-length = λ w t h e. rw (w, (term_at_exact ws n t).1 h, ne_eqb (length table) (form1.record_words * (n + 1)) e);
      leaves = λ w t h e. rw (w, (term_at_exact ws n t).1 h, eq-eqb (length table) (form1.record_words * (n + 1)) e);
    }

pub write-returned : (t : Term) (rest table : List ℕ) → Accepted 0 t → wrong_workspace (length (words t ++ rest)) ≡ false
    → length table ≡ form1.record_words * (size t + 1)
    → write (words t ++ rest) (size t) table ≡ record { answer = returned (size t); table = table_of t }
unfolding write
write-returned t rest table a h e = rw (h, term_at-words t rest a, eq-eqb (length table) (form1.record_words * (size t + 1)) e)

-- Writing a workspace that holds a term and zeros after it.
pub write-filled : (t : Term) (C l : ℕ) (workspace out : List ℕ) → Accepted 0 t → size t ≡ l → workspace ≡ words t ++ replicate (C - l) 0
    → wrong_workspace C ≡ false → l ≤ C → length out ≡ form1.record_words * (l + 1)
    → write workspace l out ≡ record { answer = returned l; table = table_of t }
write-filled t C l workspace out a e held h u room =
    let fits : length (words t) ≤ C = omega arith in
    rw (held, ← e)
    (write-returned t (replicate (C - size t) 0) out a (rw length-padded h) (omega arith))
