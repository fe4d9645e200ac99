-- `plan_at` meets its contract: the kinds of the first two words tell what may start there.
use Prim.Native.Nat.{ℕ, ◌<◌}
use Rattle.redex.proofs.HeldLaws.{term_at_start}
use Rattle.redex.proofs.PartsTurns.{parts-applied, parts_stuck, parts-other}
use Rattle.redex.specs.Plan.{At}
use borrow.Author.Tests.{eqb-false}
use lib.ListN.{length}
use mathlib.Core.List.{List}
use mathlib.Core.Path.{◌≡◌, refl, sym, ◌∙◌, ap}
use Rattle.words.specs.Types.{kind_number, kind_for}
use Rattle.words.specs.declared.kind.Kind.{Kind}
use Rattle.words.specs.declared.kind.Kind.TheVariants as kind
use native.Mathlib.Omega.{arith}
use Rattle.search.proofs.seen.plan_at.Goals as goal

-- The position is one of the workspace.
inside : {ws room : List ℕ} {n at : ℕ} → At ws n at room → at < length ws
inside h = omega (arith, h.within, (term_at_start _ _ _ h.holds.term).within)

pub bounds-ws-at : goal.bounds-ws-at
bounds-ws-at c = inside c.requires.0

pub returns-else-follows : goal.returns-else-follows
returns-else-follows c =
    let k = sym c.in-Application.ensures in
    (parts-applied _ _ (inside c.requires.0) k (eqb-false _ _ (sym c.follows.ensures ∙ c.if-follows.false)), refl, λ q. absurd (omega (arith, q.0)))

pub returns-else-follows-2 : goal.returns-else-follows-2
returns-else-follows-2 c =
    let k = sym c.in-Case.ensures in
    let other = eqb-false _ _ (sym c.follows-in-Case.ensures ∙ c.if-follows-2.false) in
    (parts_stuck _ _ (inside c.requires.0) k other, refl, λ q. absurd (other q.1))

-- Each kind is told by its number.
back : (k : Kind) → kind_for (kind_number k) ≡ k
back kind.Variable = refl
back kind.Abstraction = refl
back kind.Application = refl
back kind.Constructor = refl
back kind.Case = refl
back kind.Branch = refl
back kind.Numeral = refl
back kind.Unassigned = refl

told : {k l : Kind} {n : ℕ} → kind_number k ≡ n → n ≡ kind_number l → k ≡ l
told e f = sym (back _) ∙ ap kind_for (e ∙ f) ∙ back _

pub returns-in_default : goal.returns-in_default
returns-in_default c =
    let k = c.kind.ensures in
    let h = c.in_default in (
      parts-other _ _ (inside c.requires.0) (λ e. h.not-Application (told k e)) (λ e. h.not-Case (told k e)) (λ e. h.not-Numeral (told k e)),
      refl,
      λ q. absurd (h.not-Case (told k q.0)),
    )
