-- `inspect` meets its contract: the end of the constructor is where the branches start, and the search among them tells what is seen.
use Prim.Native.Nat.{ℕ, ◌+◌, ◌^◌, ◌≤◌, ◌<◌}
use Rattle.calculus.proofs.SkipLaws.{span_zero}
use Rattle.calculus.specs.Skip.{span}
use Rattle.calculus.specs.Words.{kind_of, payload_of, tag_of, count_of}
use Rattle.redex.proofs.PartsTurns.{branch_body-behind, parts_case, case_parts_found}
use Rattle.redex.specs.Rules.{branch_body, with_body, parts}
use Rattle.redex.specs.declared.Found.{Found}
use Rattle.std.specs.Prelude.{Option, Some, None}
use Rattle.search.proofs.SearchLaws.{inspected_after}
use Rattle.search.specs.Seen.{Inspected}
use Rattle.words.specs.Limits.{payload_bound}
use lib.ListN.{get_or, drop}
use mathlib.Core.List.{List}
use mathlib.Core.Path.{◌≡◌, refl, sym, ◌∙◌, ap}
use native.Mathlib.Omega.{arith}
use Rattle.search.proofs.seen.inspect.Goals as goal
use Rattle.search.proofs.seen.inspect.Goals.{in-Listed, in-Default}

-- After the search among the branches, whatever it found.
by-words : {ws room : List ℕ} {n at w v branches tag count after : ℕ} {x : Option Found} → Inspected ws n at w v room → branches ≡ payload_of w
    → tag ≡ tag_of (payload_of v) → count ≡ count_of (payload_of v) → after ≡ at + 1 + span 1 (drop (at + 1) ws)
    → x ≡ branch_body None branches tag count after (drop after ws) → parts at (drop at ws) ≡ with_body (at + 2) count x
by-words h p t k e f =
    parts_case _ _ h.further (ap kind_of (sym h.case_is) ∙ h.case) (ap kind_of (sym h.constructor_is) ∙ h.constructor)
    ∙ rw (← h.case_is, ← h.constructor_is) (case_parts_found _ _ _ _ p t k e f refl)

few : {ws room : List ℕ} {n at w v branches behind : ℕ} → Inspected ws n at w v room → branches ≡ payload_of w → get_or ws at 0 < 2 ^ 32
    → behind ≤ branches → behind ≤ payload_bound
few h p fits l = omega (arith, l, p, h.case_is, fits)

pub selected-requires : goal.selected-requires
selected-requires c =
    let h = c.requires.0 in
    let fits = (c.type_inv.ws c.args.at).fits in
    elim c.match-found.branch [
      | in-Listed w ↦
          let e = ap Some (sym w.in-Listed.is) ∙ c.in-Some.ensures in
          rw w.taken-is
          (record {
            place = h.place;
            parts_are = by-words h c.payload.ensures c.tag.ensures c.count-count.ensures c.end_of-after.ensures e;
            after_is = inspected_after h c.count-count.ensures c.end_of-after.ensures;
            few = few h c.payload.ensures fits (branch_body-behind _ _ _ _ _ _ e);
          })
      | in-Default w ↦
          let e = ap Some (sym w.in-Default.is) ∙ c.in-Some.ensures in
          rw w.taken-is
          (record {
            place = h.place;
            parts_are = by-words h c.payload.ensures c.tag.ensures c.count-count.ensures c.end_of-after.ensures e;
            after_is = omega (arith, span_zero (drop (c.args.at + 2) c.args.ws.now));
            few = few h c.payload.ensures fits (branch_body-behind _ _ _ _ _ _ e);
          })
    ]

pub returns-then-at-known : goal.returns-then-at-known
returns-then-at-known c = (
  by-words c.requires.0 c.payload.ensures c.tag.ensures c.count-count.ensures c.end_of-after.ensures c.in_default.ensures,
  refl,
  λ k. c.if-at-known.true,
)

pub returns-else-at-known : goal.returns-else-at-known
returns-else-at-known c =
    let h = c.requires.0 in (
      by-words h c.payload.ensures c.tag.ensures c.count-count.ensures c.end_of-after.ensures c.in_default.ensures,
      refl,
      (ap kind_of (sym h.case_is) ∙ h.case, ap kind_of (sym h.constructor_is) ∙ h.constructor),
      c.if-at-known.false,
    )
