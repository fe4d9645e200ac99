-- The lines of a text, one after the other.
use Prim.Native.Nat.{ℕ, zero, suc, ◌+◌, ◌-◌, ◌≤◌, ◌<◌}
use native.Mathlib.Omega.{arith}
use mathlib.Core.Path.{◌≡◌, refl, sym}
use Rattle.std.proofs.Common.{add-zero, ◌∙◌, ap}
use borrow.Author.Rules.{part_to_end}
use mathlib.Core.Bool.{Bool, true, false, cond, not, ◌&&◌}
use mathlib.Core.List.{List, [], ◌∷◌}
use Rattle.std.specs.Prelude.{◌==◌, Option, Some, None}
use Rattle.std.specs.List.{position, position_or_len}
use Rattle.std.proofs.lemmas.List.Sums.{prefix_len-le-length}
use Rattle.std.proofs.lemmas.Bool.Decides.{nat_tests}
use lib.Dec.{eqb, ltb}
use lib.ListN.{length, get_or, take, drop}
use borrow.Author.Tests.{le-leb, lt-leb}
use Rattle.vectors.specs.Vector.{newline, end_from, line_end, passes, comment, nothing, counted, share_of, tally_from}
use Rattle.vectors.specs.declared.vector.Tally.{Tally}

-- A line ends at the first newline, or where the text does.
end_position : (ws : List ℕ) (at : ℕ) → end_from at ws ≡ at + position_or_len (λ b. b == newline) ws
unfolding end_from
end_position [] at = sym (add-zero at)
end_position (b ∷ bs) at =
    let rest : end_from (at + 1) bs ≡ at + 1 + position_or_len (λ b. b == newline) bs = end_position bs (at + 1) in
    elim (b == newline) as (λ t. cond t at (end_from (at + 1) bs) ≡ at + cond (not t) (1 + position_or_len (λ b. b == newline) bs) 0)
    [ true ↦ sym (add-zero at) | false ↦ omega (arith, rest) ]

first_at : (p : ℕ → Bool) (ws : List ℕ) (i : ℕ) → position p ws ≡ Some i → (position_or_len p ws ≡ i) × (i < length ws)
first_at p ws i e =
    let here : position_or_len p ws ≡ i = grind (arith, nat_tests) in
    let inside : position_or_len p ws < length ws = grind (arith, nat_tests) in
    (here, omega arith)

first_none : (p : ℕ → Bool) (ws : List ℕ) → position p ws ≡ None → position_or_len p ws ≡ length ws
first_none p ws e =
    let most : position_or_len p ws ≤ length ws = prefix_len-le-length (λ b. not (p b)) ws in
    grind (arith, nat_tests)

module _ (text : List ℕ) (at : ℕ) (r : Option ℕ) (is : r ≡ position (λ b. b == newline) (take (length text - at) (drop at text))) where
  whole : r ≡ position (λ b. b == newline) (drop at text)
  whole = is ∙ ap (position (λ b. b == newline)) (part_to_end text at)

  pub ends_before : (i : ℕ) → r ≡ Some i → (at + i ≡ line_end text at) × (i < length (drop at text))
  ends_before i e =
      let first = first_at (λ b. b == newline) (drop at text) i (sym whole ∙ e) in
      (sym (end_position (drop at text) at ∙ ap (λ n. at + n) first.0), first.1)

  pub ends_with : r ≡ None → at + length (drop at text) ≡ line_end text at
  ends_with e = sym (end_position (drop at text) at ∙ ap (λ n. at + n) (first_none (λ b. b == newline) (drop at text) (sym whole ∙ e)))

-- A line has at most one vector, and it passes at most once.
abbrev Small : Tally → Type 0
Small t = (t.passed ≤ t.vectors) × (t.vectors ≤ 1)

small_either : (b : Bool) (s t : Tally) → Small s → Small t → Small (cond b s t)
small_either true s t p q = p
small_either false s t p q = q

small_counted : (b : Bool) → Small (counted b)
small_counted true = (omega arith, omega arith)
small_counted false = (omega arith, omega arith)

pub share_small : (line : List ℕ) (ended : Bool) (s : Tally) → s ≡ share_of line ended → (s.passed ≤ s.vectors) × (s.vectors ≤ 1)
unfolding share_of
share_small line ended s e =
    rw e
    (small_either (eqb (length line) 0) nothing _ (omega arith, omega arith)
    (small_either (eqb (get_or line 0 0) comment) nothing _ (omega arith, omega arith) (small_counted (ended && passes line))))

module _ (text : List ℕ) (at v p : ℕ) where
  pub tally_over : (turns : ℕ) → length text ≤ at → tally_from turns text at v p ≡ record { vectors = v; passed = p }
  unfolding tally_from
  tally_over zero h = refl
  tally_over (suc k) h = rw (le-leb (length text) at h)

  pub tally_end : (turns : ℕ) → turns ≤ 0 → tally_from turns text at v p ≡ record { vectors = v; passed = p }
  unfolding tally_from
  tally_end zero h = refl
  tally_end (suc k) h = absurd (omega arith)

  pub tally_next : (end : ℕ) (s : Tally) → end ≡ line_end text at → s ≡ share_of (take (end - at) (drop at text)) (ltb end (length text)) → at < length text
      → (turns : ℕ) → 0 < turns → tally_from turns text at v p ≡ tally_from (turns - 1) text (end + 1) (v + s.vectors) (p + s.passed)
  unfolding tally_from
  tally_next end s e is h zero more = absurd (omega arith)
  tally_next end s e is h (suc k) more =
      let down : suc k - 1 ≡ k = omega arith in
      rw (down, lt-leb (length text) at h, ← e, ← is)
