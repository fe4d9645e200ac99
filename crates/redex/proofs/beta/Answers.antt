-- `beta` meets its contract: the counts give the length, and the last word of the body tells whether the argument stays.
use Prim.Native.Nat.{ℕ, ◌+◌, ◌-◌, ◌*◌, ◌≤◌, ◌<◌}
use Rattle.calculus.proofs.SkipLaws.{span_bounded}
use Rattle.calculus.specs.Contraction.{by_beta}
use Rattle.calculus.specs.Skip.{span}
use Rattle.calculus.specs.Words.{size, workspace_most}
use Rattle.redex.proofs.NextLaws.{end_at, start, length_short, Contraction}
use Rattle.redex.proofs.PlanLaws.{redex_found, contracts, measurable, left_end, plans, plans_left, applied-parts}
use Rattle.redex.specs.Plan.{Applied, Plans, EndTold, walked, stays}
use Rattle.redex.specs.Rules.{parted, parts}
use Rattle.redex.specs.declared.Rule.TheVariants as rule
use Rattle.substitution.proofs.CountLaws.{times_few, substituted_one, product_few}
use Rattle.substitution.proofs.WalkLaws.{starts_some}
use Rattle.substitution.specs.Measure.{occurrences, Measures}
use Rattle.substitution.specs.Results.{substituted}
use Rattle.walk.specs.Depths.{depths}
use lib.ListN.{get_or, drop, length-drop}
use mathlib.Core.List.{List, [], ◌∷◌}
use mathlib.Core.Path.{◌≡◌, refl, sym, ◌∙◌, ap}
use native.Mathlib.Omega.{arith}
use Rattle.std.proofs.lemmas.Bool.{iff_false}
use Rattle.redex.proofs.beta.Goals as goal

pub measure-found-requires : goal.measure-found-requires
measure-found-requires c = measurable c.requires.place (applied-parts c.requires)

-- The body ends in the workspace, behind its start.
pub argument_end-after-requires : goal.argument_end-after-requires
argument_end-after-requires c =
    let ends = c.measure-found.ensures.measures.ends in
    let d = drop (c.args.at + 2) c.args.ws.now in (
      c.requires.place.holds.limit,
      omega (arith, ends),
      omega (arith, ends, span_bounded 1 d, length-drop (c.args.at + 2) c.args.ws.now, c.requires.further),
    )

-- An argument that occurs once adds its length and takes it from what is behind: the sum is the same wherever it ends.
told-length : {ws : List ℕ} {args times last after : ℕ} → EndTold ws args times last after
    → let behind = args + span 1 (drop args ws) in (args ≤ after) × (after ≤ behind) × (times * (after - args) + (behind - after) ≡ times * (behind - args))
told-length (walked e) = (omega arith, omega arith, rw e (omega arith))
told-length (stays once _ _ e) = (omega arith, omega arith, rw once (omega arith))

told-sum : (at m times p q size n after behind : ℕ) → size + times ≡ m + q → times ≤ m → p + (behind - after) ≡ q → after ≤ behind → behind ≤ n
    → at + (m - times + p) + (n - after) ≡ at + size + (n - behind)
told-sum at m times p q size n after behind e f g h k = omega arith

-- What the walk and the argument's end tell.
module _ {ws room occurs : List ℕ} {n at args last after : ℕ} (h : Applied ws n at room) (m : Measures ws (at + 2) 1 args last occurs)
    (told : EndTold ws args (get_or occurs 0 0) last after) where
  abbrev body : ℕ
  body = at + 2

  abbrev times : ℕ
  times = get_or occurs 0 0

  found : parts at (drop at ws) ≡ parted by_beta body args 1 1
  found = applied-parts h ∙ ap (λ a. parted by_beta body a 1 1) (sym m.ends)

  contraction : Contraction ws n at body args 1 1
  contraction = contracts h.place found

  occur : times ≡ occurrences 1 0 (0 ∷ []) (drop body ws)
  occur = m.occur 0 (omega arith)

  abbrev behind : ℕ
  behind = args + span 1 (drop args ws)

  end_is : behind ≡ end_at ws at
  end_is = left_end h.place found m.ends

  few : times ≤ span 1 (drop body ws)
  few = times_few contraction.substitutable refl occur

  product : times * (after - args) ≤ workspace_most * workspace_most
  product = omega (arith, told-length told, product_few contraction.substitutable refl occur)

  within : (after ≤ n) × (n ≤ workspace_most) × (args ≡ body + span 1 (drop body ws)) × (args ≤ after)
  within = (omega (arith, contraction.ends, end_is, told-length told), length_short (redex_found h.place found), m.ends, (told-length told).0)

  starts : body < args
  starts = omega (arith, starts_some contraction.substitutable.body_starts, m.ends)

  long : at + (args - body - times + times * (after - args)) + (n - after) ≡ at + size (substituted ws body args 1) + (n - behind)
  long =
      let e : args - body ≡ span 1 (drop body ws) = omega (arith, m.ends) in
      told-sum at (args - body) times (times * (after - args)) (times * (behind - args)) (size (substituted ws body args 1)) n after behind
      (rw e (substituted_one contraction.substitutable refl occur))
      (rw e few)
      (told-length told).2
      (told-length told).1
      (omega (arith, contraction.ends, end_is))

  -- The argument does not stay.
  module _ (elsewhere : last ≡ 0 → get_or ws (args - 1) 0 ≡ 0 → ⊥) where
    after_is : after ≡ behind
    after_is = go told
      where
        go : EndTold ws args times last after → after ≡ behind
        go (walked e) = e
        go (stays _ f g _) = absurd (elsewhere f g)

    replaced : Plans ws n (record { rule = rule.Beta (record { start = body; stop = args; args = args; after = after; count = 1 }); at = at; end = after; length = at + (args - body - times + times * (after - args)) + (n - after) })
    replaced = plans h.place found m.ends after_is (after_is ∙ end_is) (omega (arith, long, after_is)) refl refl (λ p. p)

  -- It stays.
  left : last ≡ 0 → get_or ws (args - 1) 0 ≡ 0
      → Plans ws n (record { rule = rule.Beta (record { start = body; stop = args - 1; args = args; after = after; count = 1 }); at = at; end = args; length = at + (args - body - times + times * (after - args)) + (n - after) })
  left bare index =
      let back : args - 1 + 1 ≡ args = omega (arith, starts) in
      let shift : args - 1 - body ≡ args - body - 1 = omega arith in
      plans_left h.place found (back ∙ m.ends) occur told end_is long (omega (arith, starts))
      (ap (λ k. get_or (depths (0 ∷ []) (drop body ws)) k 0) shift ∙ sym m.last_is ∙ bare)
      index

pub overflow_sub-length-2 : goal.overflow_sub-length-2
overflow_sub-length-2 c =
    let m = c.measure-found.ensures.measures in
    omega (arith, within c.requires m c.argument_end-after.ensures, few c.requires m c.argument_end-after.ensures)

pub overflow_mul-length : goal.overflow_mul-length
overflow_mul-length c = omega (arith, product c.requires c.measure-found.ensures.measures c.argument_end-after.ensures)

pub overflow_add-length : goal.overflow_add-length
overflow_add-length c =
    let m = c.measure-found.ensures.measures in
    omega (arith, product c.requires m c.argument_end-after.ensures, within c.requires m c.argument_end-after.ensures)

pub overflow_add-length-2 : goal.overflow_add-length-2
overflow_add-length-2 c =
    let m = c.measure-found.ensures.measures in
    omega (arith, product c.requires m c.argument_end-after.ensures, within c.requires m c.argument_end-after.ensures)

pub overflow_sub-length-4 : goal.overflow_sub-length-4
overflow_sub-length-4 c = (within c.requires c.measure-found.ensures.measures c.argument_end-after.ensures).0

pub overflow_add-length-3 : goal.overflow_add-length-3
overflow_add-length-3 c =
    let m = c.measure-found.ensures.measures in
    omega (arith, product c.requires m c.argument_end-after.ensures, within c.requires m c.argument_end-after.ensures)

pub stays-requires : goal.stays-requires
stays-requires c =
    let h = c.requires in
    let m = c.measure-found.ensures.measures in
    let told = c.argument_end-after.ensures in
    (omega (arith, starts h m told), omega (arith, within h m told, (start (redex_found h.place (found h m told))).within))

pub returns-then-stays-clause-plans : goal.returns-then-stays-clause-plans
returns-then-stays-clause-plans c =
    let b = c.stays.ensures.0 c.if-stays.true in
    (left c.requires c.measure-found.ensures.measures c.argument_end-after.ensures b.0 b.1, refl)

pub returns-else-stays-clause-plans : goal.returns-else-stays-clause-plans
returns-else-stays-clause-plans c =
    (replaced c.requires c.measure-found.ensures.measures c.argument_end-after.ensures (λ f g. iff_false c.stays.ensures c.if-stays.false (f, g)), refl)
