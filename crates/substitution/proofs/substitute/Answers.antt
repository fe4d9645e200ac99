-- `substitute` meets its contract. The invariant: the words of the body still to be rewritten lead to the whole result.
use Prim.Native.Nat.{ℕ, ◌+◌, ◌*◌, ◌-◌, ◌≤◌, ◌<◌}
use Rattle.calculus.specs.First.{first_terms}
use Rattle.calculus.specs.Words.{workspace_most, count_base, words}
use Rattle.substitution.proofs.ArgumentLaws.{rewritten_body, movable_body}
use Rattle.substitution.proofs.Chosen.{chosen_shiftable, chosen_words, chosen_end, chosen_part}
use Rattle.substitution.proofs.RewritingLaws.{placed_as, Rewriting, rewriting_start, rewriting_some, rewriting_room, rewriting_within, rewriting_lent, rewriting_next}
use Rattle.substitution.proofs.StartLaws.{Offsets, positions_offsets}
use Rattle.substitution.proofs.Walking.{walking_depth, walking_number, walking_enters, walking_entered, walking_free}
use Rattle.substitution.specs.Kinds.{Visits}
use Rattle.substitution.specs.Results.{Positions, Substitutes, shifted}
use Rattle.std.specs.Prelude.{Option, Some, None}
use Rattle.walk.proofs.RewrittenLaws.{argument_place, no_argument}
use Rattle.walk.specs.Rewritten.{shifting, substituting, rewritten, standing, place, argument_at}
use lib.IntN.{ℤ, pos, neg_ℤ}
use lib.ListN.{length, get_or, drop}
use lib.Seq.{length-take-le, length_front, drop_at}
use mathlib.Core.List.{List, [], ◌∷◌}
use mathlib.Core.Path.{◌≡◌, refl, sym, ◌∙◌, ap}
use mir.Syntax.{w32}
use mir.ValLaws.{to_z-of_z}
use native.Mathlib.Omega.{arith}
use Rattle.substitution.proofs.substitute.Goals as goal
use Rattle.substitution.proofs.substitute.Goals.{in-Some, in_default}

pub loop-i-init : goal.loop-i-init
loop-i-init c =
    let p = c.requires.substitutes in
    rw c.start-at.ensures (rewriting_start _ _ p.substitutable.short p.substitutable.body_starts (omega (arith, p.enough)) p.from p.to)

-- A turn.
module _ {src dst₀ room₀ dst room : List ℕ} {body stop args after n out next i pending depth top : ℕ} (p : Substitutes src body stop args after n room₀)
    (v : Rewriting (substituting (first_terms n (drop args src))) src body stop dst₀ out room₀ dst room next i pending depth top) (more : i < stop) where
  few_binders : depth ≤ count_base * workspace_most
  few_binders = omega (arith, walking_depth v.walking (rewriting_some v more))

  room-left : out + length (standing (substituting (first_terms n (drop args src))) (stop - body) (0 ∷ []) (drop body src)) ≤ length dst₀
      → next + length (rewritten (substituting (first_terms n (drop args src))) depth (get_or src i 0)) ≤ length dst
  room-left fits = omega (arith, rewriting_room v more, fits, v.kept)

  -- An argument stands for the word, so where the arguments end was told.
  module _ {starts : List ℕ} {j : ℕ} (told : Positions src args after n starts) (stands : argument_at n depth (get_or src i 0) ≡ Some j) where
    pub chosen : (j ≡ place n depth (get_or src i 0)) × (j < n)
    chosen = argument_place n depth (get_or src i 0) stands

    placed : Offsets src args starts (n + 1)
    placed =
        positions_offsets told
        (p.after_is i (rewriting_within v more).2 more (rw (walking_number v.walking (rewriting_some v more), ← chosen.0) chosen.1))

    argument-words : words (shifted src (get_or starts j 0) (pos depth)) ≡ rewritten (substituting (first_terms n (drop args src))) depth (get_or src i 0)
    argument-words = sym (chosen_words p.substitutable placed depth (get_or src i 0) few_binders chosen.0 chosen.1)

  -- No argument stands for the word.
  one_word : {z : ℤ} {at : Option ℕ} {word items binders : ℕ} → Visits (get_or src i 0) depth n z at word items binders → at ≡ None → z ≡ neg_ℤ (pos n)
      → rewritten (substituting (first_terms n (drop args src))) depth (get_or src i 0) ≡ word ∷ []
  one_word h none distance =
      rewritten_body n depth (get_or src i 0) (omega (arith, no_argument n depth (get_or src i 0) (sym h.argument_is ∙ none))) (first_terms n (drop args src)) p.substitutable.args_count
      ∙ ap (λ d. rewritten (shifting d) depth (get_or src i 0)) (sym distance)
      ∙ h.moved none

-- The distance as the loop has it.
pub visit-here-requires : goal.visit-here-requires
visit-here-requires c =
    let few = few_binders c.requires.substitutes c.loop-i.invariant c.loop-i-test.true in
    let distance = to_z-of_z w32 c.down-lowered.result (record { sfits = c.down-lowered.type_inv }) ∙ c.down-lowered.ensures in
    record {
      few = omega (arith, few);
      movable = λ v e. rw distance (movable_body c.args.body.count c.loop-i.at.depth _ (omega (arith, e)) (c.type_inv.src c.loop-i.i).fits v);
    }

pub raise-next-requires-clause-shiftable : goal.raise-next-requires-clause-shiftable
raise-next-requires-clause-shiftable c =
    let p = c.requires.substitutes in
    let v = c.loop-i.invariant in
    let more = c.loop-i-test.true in
    let told = sym c.visit-here.ensures.argument_is ∙ c.in-Some.is in
    let few = few_binders p v more in
    let at = placed p v more c.starts-starts.ensures told in
    let j = chosen p v more c.starts-starts.ensures told in (
      chosen_shiftable p.substitutable at c.loop-i.at.depth _ few j.0 j.1,
      chosen_end p.substitutable at c.loop-i.at.depth _ few j.0 j.1,
    )

pub raise-next-requires-clause-fits : goal.raise-next-requires-clause-fits
raise-next-requires-clause-fits c =
    let p = c.requires.substitutes in
    let v = c.loop-i.invariant in
    let more = c.loop-i-test.true in
    let told = sym c.visit-here.ensures.argument_is ∙ c.in-Some.is in
    omega (arith, ap length (argument-words p v more c.starts-starts.ensures told), room-left p v more c.requires.fits)

pub raise-next-requires-clause-enough : goal.raise-next-requires-clause-enough
raise-next-requires-clause-enough c =
    let p = c.requires.substitutes in
    let v = c.loop-i.invariant in
    let more = c.loop-i-test.true in
    let told = sym c.visit-here.ensures.argument_is ∙ c.in-Some.is in
    let few = few_binders p v more in
    let at = placed p v more c.starts-starts.ensures told in
    let j = chosen p v more c.starts-starts.ensures told in (
      omega (
        arith,
        length-take-le c.loop-i.at.top c.loop-i.room v.walking.stands.within,
        chosen_part p.substitutable at c.loop-i.at.depth _ few j.0 j.1,
        walking_free v.walking (rewriting_some v more),
        p.enough,
      ),
      omega (arith, few),
    )

-- No argument stands for the word.
pub bounds-dst-next : goal.bounds-dst-next
bounds-dst-next c =
    let p = c.requires.substitutes in
    let v = c.loop-i.invariant in
    let distance = to_z-of_z w32 c.down-lowered.result (record { sfits = c.down-lowered.type_inv }) ∙ c.down-lowered.ensures in
    omega (
      arith,
      room-left p v c.loop-i-test.true c.requires.fits,
      ap length (one_word p v c.loop-i-test.true c.visit-here.ensures c.in_default.is distance),
    )

pub enter-at-requires : goal.enter-at-requires
enter-at-requires c =
    let v = c.loop-i.invariant in
    let e = c.visit-here.ensures in
    let enters = walking_enters v.walking (rewriting_some v c.loop-i-test.true) (c.type_inv.src c.loop-i.i).fits e.items_are e.binders_are in
    record {
      counts = enters.counts;
      one = enters.one;
      few_binders = enters.few_binders;
      pends = enters.pends;
      few = enters.few;
      shallow = enters.shallow;
      within = omega (arith, enters.within);
      free = enters.free;
    }

pub loop-i-preserved : goal.loop-i-preserved
loop-i-preserved c =
    let p = c.requires.substitutes in
    let v = c.loop-i.invariant in
    let more = c.loop-i-test.true in
    let e = c.visit-here.ensures in
    let number = (c.type_inv.src c.loop-i.i).fits in
    elim c.match-here.branch [
      -- The room that `raise` leaves: the scopes of this walk are as they were.
      | in-Some w ↦
          let raised = w.raise-next.new.room in
          let top = c.loop-i.at.top in
          let lent =
          rewriting_lent v (length_front c.loop-i.room raised top w.raise-next.auto.room)
          (drop_at raised (drop top c.loop-i.room) top (w.raise-next.auto.room ∙ length-take-le top c.loop-i.room v.walking.stands.within))
          in
          rw (w.dst-is, w.next-is)
          (rewriting_next lent more (placed_as (argument-words p v more c.starts-starts.ensures (sym e.argument_is ∙ w.in-Some.is)) w.raise-next.ensures.placed)
          (walking_entered lent.walking (rewriting_some v more) number e.items_are e.binders_are (rw w.room-is at c.enter-at.ensures)))
      -- No argument stands for the word.
      | in_default w ↦
          let distance = to_z-of_z w32 c.down-lowered.result (record { sfits = c.down-lowered.type_inv }) ∙ c.down-lowered.ensures in
          rw (w.dst-is, w.next-is)
          (rewriting_next v more (placed_as (sym (one_word p v more e w.in_default.is distance)) (record { slice = refl; position = refl }))
          (walking_entered v.walking (rewriting_some v more) number e.items_are e.binders_are (rw w.room-is at c.enter-at.ensures)))
    ]
