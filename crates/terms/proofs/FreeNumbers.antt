-- Free numbers of a term that breaks no other limit: they are in range exactly if its words are an accepted term.
use Prim.Native.Nat.{◌≤◌}
use mathlib.Core.Path.{◌≡◌, refl, sym, ◌∙◌}
use mathlib.Core.Bool.{Bool, true, false}
use mathlib.Core.List.{List, ◌++◌}
use mathlib.Core.Logic.{ite}
use mathlib.Core.Option.{some, none-ne-some}
use Prim.Native.Nat.{ℕ}
use lib.Seq.{take-append_seam}
use Rattle.calculus.specs.Term.{Term}
use Rattle.calculus.specs.Words.{words, size, workspace_most}
use Rattle.calculus.specs.Accepted.{Scoped, Accepted}
use Rattle.calculus.specs.Decide.{scoped?}
use Rattle.calculus.specs.Theorems.{Packable}
use Rattle.calculus.specs.Workspace.{term_at}
use Rattle.calculus.specs.Bringing.{free_fits}
use Rattle.calculus.proofs.WordLaws.{accepted_scoped, accepted_packable}
use Rattle.calculus.proofs.ReadLaws.{words_injective}
use Rattle.calculus.proofs.WorkspaceLaws.{term_at-words, held}
use Rattle.terms.specs.IsTerm.{is_term}
use Rattle.terms.proofs.IsTerm.{is_term_some, is_term_short}

module _ (t : Term) (packable : Packable t) (accepted : Scoped 0 t → Accepted 0 t) (rest : List ℕ) (short : size t ≤ workspace_most) where
  found : (u : Term) → term_at (words t ++ rest) (size t) ≡ some u → Scoped 0 t
  found u q =
      let is = held (words t ++ rest) (size t) u q in
      let same : u ≡ t = words_injective u t (accepted_packable 0 u is.accepted) packable (is.words_are ∙ take-append_seam (words t) rest) in
      accepted_scoped 0 t (rw same at is.accepted)

  pub scoped_is_term : free_fits t ≡ is_term (words t ++ rest) (size t)
  scoped_is_term = go (scoped? 0 t) (is_term (words t ++ rest) (size t)) refl
    where
      go : (d : Dec (Scoped 0 t)) (b : Bool) → is_term (words t ++ rest) (size t) ≡ b → ite d true false ≡ b
      go (yes a) true f = refl
      go (no n) false f = refl
      go (yes a) false f =
          let some-term = term_at-words t rest (accepted a) in
          let no_term = is_term_short (words t ++ rest) (size t) short f in
          absurd (none-ne-some t (sym no_term ∙ some-term))
      go (no n) true f = let u = is_term_some (words t ++ rest) (size t) f in absurd (n (found u.0 u.1))
