-- `numbered` meets its contract: the word's payload is the numeral, which has an entry.
use Prim.Native.Nat.{ℕ, ◌≤◌, ◌<◌}
use Rattle.calculus.proofs.NumeralLaws.{numeral-words}
use Rattle.calculus.specs.Words.{payload_of, workspace_most}
use Rattle.redex.proofs.HeldLaws.{term_at_start}
use Rattle.redex.proofs.NextLaws.{numeral_in_library}
use Rattle.redex.proofs.PartsTurns.{parts-numeral}
use Rattle.redex.proofs.PlanLaws.{numeral_found, plans_numeral}
use Rattle.redex.specs.Plan.{Numbered}
use Rattle.redex.specs.Rules.{numbered, parts}
use lib.ListN.{length, get_or, drop}
use mathlib.Core.List.{List}
use mathlib.Core.Path.{◌≡◌, refl, sym, ◌∙◌, ap}
use native.Mathlib.Omega.{arith}
use Rattle.redex.proofs.numbered.Goals as goal

module _ {ws : List ℕ} {n at : ℕ} (h : Numbered ws n at) where
  within : (at < length ws) × (n ≤ workspace_most)
  within =
      let w = (term_at_start _ _ _ h.holds.term).within in
      (omega (arith, h.within), omega (arith, h.holds.limit))

  found : {k : ℕ} → k ≡ payload_of (get_or ws at 0) → parts at (drop at ws) ≡ numbered k
  found is = parts-numeral _ _ within.0 h.numeral ∙ ap numbered (sym is)

pub entry_length-requires : goal.entry_length-requires
entry_length-requires c =
    let h = c.requires in
    let f = found h c.payload-numeral.ensures in
    numeral_in_library (numeral_found h.holds h.within f) f

pub overflow_add-result-2 : goal.overflow_add-result-2
overflow_add-result-2 c =
    let h = c.requires in
    let f = found h c.payload-numeral.ensures in
    omega (
      arith,
      within h,
      c.entry_length.ensures,
      (numeral-words c.payload-numeral.result).1,
      numeral_in_library (numeral_found h.holds h.within f) f,
    )

pub returns : goal.returns
returns c =
    let h = c.requires in
    (plans_numeral h.holds h.within (found h c.payload-numeral.ensures) (omega (arith, c.entry_length.ensures)), refl)
