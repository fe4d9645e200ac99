-- The argument that the code chooses for a word of the body, by its start: it may be raised, its words are those that stand for the word, and
-- the next start tells its length.
use Prim.Native.Nat.{ℕ, ◌+◌, ◌*◌, ◌-◌, ◌≤◌, ◌<◌}
use mathlib.Core.Path.{◌≡◌, refl, sym, ◌∙◌, ap, ap₂}
use mathlib.Core.List.{List, ◌++◌}
use native.Mathlib.Omega.{arith}
use lib.IntN.{pos}
use lib.ListN.{length, get_or, drop}
use lib.Seq.{drop-drop}
use Rattle.calculus.specs.Term.{Terms, count}
use Rattle.calculus.specs.Words.{workspace_most, count_base, payload_of, words, size}
use Rattle.calculus.specs.Skip.{span}
use Rattle.calculus.specs.First.{first_terms}
use Rattle.calculus.specs.Shift.{shift}
use Rattle.calculus.proofs.SkipLaws.{span-add}
use Rattle.calculus.proofs.FirstLaws.{span-items}
use Rattle.calculus.specs.Accepted.{index_limit}
use Rattle.walk.specs.Rewritten.{substituting, rewritten, place}
use Rattle.substitution.specs.Results.{shifted, Shiftable, Substitutable}
use Rattle.walk.proofs.MoveLaws.{movable_up}
use Rattle.substitution.proofs.ResultLaws.{starts_split, shifted_at, shiftable_at}
use Rattle.calculus.proofs.SizeLaws.{size-shift}
use Rattle.substitution.proofs.StartLaws.{Offsets}
use Rattle.substitution.proofs.ArgumentLaws.{Argument, argument_some, place_index, rewritten-argument}

module _ {ws : List ℕ} {body args n : ℕ} (h : Substitutable ws body args n) {starts : List ℕ} (p : Offsets ws args starts (n + 1)) (d w : ℕ) (bounded : d ≤ count_base * workspace_most) {j : ℕ} (place_is : j ≡ place n d w) (chosen : j < n) where
  abbrev xs : Terms
  xs = first_terms n (drop args ws)

  abbrev vs : List ℕ
  vs = drop (size xs) (drop args ws)

  index_is : (payload_of w - d < n) × (place n d w ≡ n - 1 - (payload_of w - d))
  index_is = place_index n d w (rw (← place_is) chosen)

  found : Argument xs (payload_of w - d) vs
  found = argument_some xs (payload_of w - d) vs (omega (arith, index_is.0, h.args_count)) h.args_start.packable h.args_indices

  before : j ≡ count xs - 1 - (payload_of w - d)
  before = omega (arith, place_is, index_is.1, h.args_count)

  start_is : get_or starts j 0 ≡ args + span j (drop args ws)
  start_is = p.each j (omega arith)

  -- The argument stands at the start of its place.
  stands : drop (get_or starts j 0) ws ≡ words found.tree ++ found.rest
  stands =
      ap (λ m. drop m ws) start_is
      ∙ sym (drop-drop (span j (drop args ws)) args ws)
      ∙ ap₂ (λ m ys. drop (span m ys) ys) before (starts_split xs (drop args ws) h.args_start)
      ∙ found.stands

  pub chosen_shiftable : Shiftable ws (get_or starts j 0) (pos d)
  chosen_shiftable =
      shiftable_at ws _ found.tree found.rest stands found.packable (pos d) h.short
      (movable_up index_limit d 0 found.tree found.indices (omega arith))

  is_argument : rewritten (substituting xs) d w ≡ words (shift (pos d) 0 found.tree)
  is_argument = rewritten-argument xs d w (rw (h.args_count, ← place_is) chosen) found.is

  pub chosen_words : rewritten (substituting xs) d w ≡ words (shifted ws (get_or starts j 0) (pos d))
  chosen_words = is_argument ∙ ap words (sym (shifted_at ws _ found.tree found.rest stands found.packable (pos d)))

  -- It ends where the next starts.
  pub chosen_end : get_or starts (j + 1) 0 ≡ get_or starts j 0 + span 1 (drop (get_or starts j 0) ws)
  chosen_end =
      omega (
        arith,
        start_is,
        p.each (j + 1) (omega arith),
        span-add (drop args ws) j 1,
        ap (span 1) (drop-drop (span j (drop args ws)) args ws),
        ap (λ m. span 1 (drop m ws)) start_is,
      )

  pub chosen_length : length (rewritten (substituting xs) d w) ≡ get_or starts (j + 1) 0 - get_or starts j 0
  chosen_length =
      omega (
        arith,
        ap length is_argument,
        size-shift (pos d) 0 found.tree,
        span-items found.tree found.rest refl found.packable,
        ap (span 1) stands,
        chosen_end,
      )

  -- It is a part of the arguments' words.
  pub chosen_part : span 1 (drop (get_or starts j 0) ws) ≤ span n (drop args ws)
  chosen_part =
      let e : j + 1 + (n - (j + 1)) ≡ n = omega arith in
      omega (
        arith,
        chosen_end,
        start_is,
        p.each (j + 1) (omega arith),
        span-add (drop args ws) (j + 1) (n - (j + 1)),
        ap (λ m. span m (drop args ws)) e,
      )
