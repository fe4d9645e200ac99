-- An item of a workspace as a part of it: the words from a position up to the end that the code finds are those of one term.
use Prim.Native.Nat.{ℕ, ◌+◌, ◌≤◌, ◌<◌}
use mathlib.Core.Path.{◌≡◌, refl, ◌∙◌, ap}
use mathlib.Core.List.{List}
use native.Mathlib.Omega.{arith}
use lib.ListN.{length, drop, length-take, length-drop}
use lib.Seq.{slice}
use Rattle.std.proofs.lemmas.List.{drop-take}
use Rattle.calculus.specs.Term.{Term}
use Rattle.calculus.specs.Words.{words, size}
use Rattle.calculus.specs.Skip.{span}
use Rattle.calculus.specs.First.{first_term}
use Rattle.calculus.proofs.WordLaws.{size_positive}
use Rattle.calculus.proofs.FirstLaws.{span-items}
use Rattle.substitution.specs.Results.{Starts}
use Rattle.substitution.proofs.ResultLaws.{starts_split}

-- A term stands at a position and ends at another.
pub record Item (ws : List ℕ) (at last : ℕ) : Type 0 where
  pub starts : Starts (drop at ws) (first_term (drop at ws))
  pub last_is : last ≡ at + span 1 (drop at ws)

module _ {ws : List ℕ} {at last : ℕ} (h : Item ws at last) where
  abbrev t : Term
  t = first_term (drop at ws)

  pub item-size : last ≡ at + size t
  item-size =
      omega (
        arith,
        h.last_is,
        ap (span 1) (starts_split t (drop at ws) h.starts),
        span-items t (drop (size t) (drop at ws)) refl h.starts.packable,
      )

  pub item-words : slice at last ws ≡ words t
  item-words = rw item-size (drop-take at (size t) ws ∙ h.starts.first)

  pub item-within : (at < last) × (last ≤ length ws)
  item-within =
      omega (arith, item-size, size_positive t, ap length h.starts.first, length-take (size t) (drop at ws), length-drop at ws)
