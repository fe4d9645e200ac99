-- The term that a workspace holds: what `term_at` gives, its words at the start of the workspace, and what a contraction makes of it.
use Prim.Native.Nat.{ℕ, ◌≤◌}
use mathlib.Core.Path.{◌≡◌, refl, ◌∙◌, ap}
use mathlib.Core.Bool.{Bool, true, false, cond}
use mathlib.Core.List.{List, ◌++◌}
use mathlib.Core.Option.{some, none, none-ne-some}
use lib.Dec.{leb}
use lib.ListN.{length, take, drop, take-append-drop}
use lib.Seq.{length-take-le}
use borrow.Author.Tests.{leb-true}
use Rattle.calculus.specs.Term.{Term}
use Rattle.calculus.specs.Words.{words, size, workspace_most}
use Rattle.calculus.specs.Accepted.{Accepted}
use Rattle.calculus.specs.Read.{read}
use Rattle.calculus.specs.Workspace.{term_at}
use Rattle.calculus.specs.Position.{contract_at}
use Rattle.calculus.proofs.ReadLaws.{read_sound, read_accepted}
use Rattle.redex.specs.Held.{held, Holds}
use Rattle.redex.specs.Next.{next}

pub held_term : (ws : List ℕ) (n : ℕ) (t : Term) → term_at ws n ≡ some t → held ws n ≡ t
unfolding held
held_term ws n t h = rw h

pub holds_term : (ws : List ℕ) (n : ℕ) (t : Term) → term_at ws n ≡ some t → length ws ≤ workspace_most → Holds ws n
holds_term ws n t h l = record { term = rw (held_term ws n t h) h; limit = l }

pub next_term : (ws : List ℕ) (n at : ℕ) (u : Term) → contract_at at (held ws n) ≡ some u → next ws n at ≡ u
unfolding next
next_term ws n at u h = rw h

-- The words of the term that the first n words are, and what is known of it.
pub record Start (ws : List ℕ) (n : ℕ) (t : Term) : Type 0 where
  pub within : n ≤ length ws
  pub taken : words t ≡ take n ws
  pub start : words t ++ drop n ws ≡ ws
  pub long : size t ≡ n
  pub accepted : Accepted 0 t

pub term_at_start : (ws : List ℕ) (n : ℕ) (t : Term) → term_at ws n ≡ some t → Start ws n t
unfolding term_at
term_at_start ws n t h = go (leb n (length ws)) refl h
  where
    go : (b : Bool) → leb n (length ws) ≡ b → cond b (read (take n ws)) none ≡ some t → Start ws n t
    go false e q = absurd (none-ne-some t q)
    go true e q =
        let l = leb-true n (length ws) e in
        let w = read_sound (take n ws) q in
        record {
          within = l;
          taken = w;
          start = ap (λ vs. vs ++ drop n ws) w ∙ take-append-drop n ws;
          long = ap length w ∙ length-take-le n ws l;
          accepted = read_accepted (take n ws) q;
        }
