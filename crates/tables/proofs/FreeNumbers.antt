-- Refusal 6 by the words of what a table means.
use Prim.Native.Nat.{ℕ, ◌≤◌}
use mathlib.Core.Path.{◌≡◌}
use mathlib.Core.List.{List, ◌++◌}
use Rattle.calculus.specs.Term.{term, Term}
use Rattle.calculus.specs.Words.{words, size, workspace_most}
use Rattle.calculus.specs.Bringing.{free_fits}
use Rattle.storage.specs.Records.{Table}
use Rattle.storage.specs.Meaning.{Means}
use Rattle.storage.proofs.LinkRules.{Linked}
use Rattle.storage.proofs.Fits.{Valued, Fitted}
use Rattle.storage.proofs.Meaning.Accepts.{means-accepted, means-packable}
use Rattle.terms.specs.IsTerm.{is_term}
use Rattle.terms.proofs.FreeNumbers.{scoped_is_term}

module _ (T : Table) (L : Linked T) (values : Valued T) (fits : Fitted T) where
  -- The free numbers of what is meant are in range exactly if its words are an accepted term.
  pub free_is_term : {i : ℕ} {t : Term} → Means T term i t → (rest : List ℕ) → size t ≤ workspace_most
      → free_fits t ≡ is_term (words t ++ rest) (size t)
  free_is_term {t = t} m rest short = scoped_is_term t (means-packable T L values fits m) (λ a. means-accepted T L values fits m 0 a) rest short
