-- The search: what it keeps from turn to turn, and what it has found at its end.
use Prim.Native.Nat.{ℕ, suc, ◌+◌, ◌≤◌, ◌<◌}
use mathlib.Core.Path.{◌≡◌, refl, sym, ◌∙◌, ap}
use mathlib.Core.List.{List}
use mathlib.Core.Option.{some, none}
use native.Mathlib.Nat.{add-zero}
use native.Mathlib.Omega.{arith}
use lib.ListN.{length, drop}
use borrow.Author.Count.{below_more}
use Rattle.calculus.specs.Words.{payload_of, count_of}
use Rattle.calculus.specs.Skip.{following, span}
use Rattle.calculus.specs.Position.{redex_at}
use Rattle.calculus.proofs.PositionLaws.{redex_first, redex_absent}
use Rattle.calculus.proofs.WordLaws.{accepted_packable}
use Rattle.calculus.proofs.SkipLaws.{span-inside}
use Rattle.calculus.proofs.FirstLaws.{span-items}
use Rattle.redex.specs.declared.Redex.{Redex}
use Rattle.redex.specs.Held.{held, Holds}
use Rattle.redex.specs.Rules.{nothing, parts}
use Rattle.redex.specs.Next.{next}
use Rattle.redex.specs.Plan.{Plans}
use Rattle.redex.proofs.HeldLaws.{term_at_start}
use Rattle.redex.proofs.PartsTurns.{first_word}
use Rattle.redex.proofs.PlaceLaws.{no_redex_here}
use Rattle.search.specs.Ends.{Ends, Filled}
use Rattle.search.specs.Seen.{Inspected}
use Rattle.search.specs.Search.{Searched}
use Rattle.search.proofs.EndsLaws.{ends_later}

-- Where the arguments of a case's constructor end: where the constructor does.
pub inspected_after : {ws room : List ℕ} {n at w v count after : ℕ} → Inspected ws n at w v room → count ≡ count_of (payload_of v) → after ≡ at + 1 + span 1 (drop (at + 1) ws)
    → after ≡ at + 2 + span count (drop (at + 2) ws)
unfolding following
inspected_after {ws} {at = at} {count = count} h e f =
    let s : span 1 (drop (at + 1) ws) ≡ suc (span count (drop (at + 2) ws)) =
    ap (span 1) (first_word (at + 1) ws (at + 2) h.further (omega arith)) ∙ rw (← h.constructor_is, h.constructor, add-zero, ← e) in
    omega arith

-- The item at a position of the held term ends inside the term.
pub ends_inside : {ws : List ℕ} {n : ℕ} → Holds ws n → {p : ℕ} → p < n → p + span 1 (drop p ws) ≤ n
ends_inside {ws} {n} holds {p} within =
    let h = term_at_start ws n (held ws n) holds.term in
    let whole : span 1 ws ≡ n = ap (span 1) (sym h.start) ∙ span-items (held ws n) (drop n ws) refl (accepted_packable 0 (held ws n) h.accepted) ∙ h.long in
    omega (arith, whole, span-inside 1 p ws (omega arith))

-- The search: no redex starts before i, and from there on the scratch tells the ends before `known`.
pub record Searching (ws : List ℕ) (n : ℕ) (scratch₀ scratch : List ℕ) (i known : ℕ) : Type 0 where
  pub searched : Searched ws n i
  pub table : Ends ws i known scratch
  pub kept : length scratch ≡ length scratch₀

module _ {ws : List ℕ} {n : ℕ} {scratch₀ scratch : List ℕ} {i known : ℕ} (v : Searching ws n scratch₀ scratch i known) where
  search_goes_on : i < n → parts i (drop i ws) ≡ nothing → Searched ws n (i + 1)
  search_goes_on l e =
      record {
        holds = v.searched.holds;
        before = below_more _ _ v.searched.before (no_redex_here v.searched.holds l e);
      }

  -- A turn that sees nothing, and one that sees a stuck case and fills in the ends inside it.
  pub searching_on : {scratch' : List ℕ} → i < n → parts i (drop i ws) ≡ nothing → scratch' ≡ scratch → Searching ws n scratch₀ scratch' (i + 1) known
  searching_on l e same =
      record { searched = search_goes_on l e; table = rw same (ends_later v.table (omega arith)); kept = ap length same ∙ v.kept }

  pub searching_stuck : {scratch' filled : List ℕ} {end : ℕ} → i < n → parts i (drop i ws) ≡ nothing → scratch' ≡ scratch
      → Filled ws i scratch' end filled → length filled ≡ length scratch' → Searching ws n scratch₀ filled (i + 1) end
  searching_stuck l e same f k =
      record { searched = search_goes_on l e; table = ends_later f.table (omega arith); kept = k ∙ ap length same ∙ v.kept }

  pub search_ends : n ≤ i → redex_at (held ws n) ≡ none
  search_ends l = redex_absent (held ws n) (λ p m. v.searched.before p (omega (arith, (term_at_start ws n (held ws n) v.searched.holds.term).long)))

-- The search stops at the first redex that it finds.
pub planned_here : {ws : List ℕ} {n i : ℕ} {r : Redex} → Searched ws n i → Plans ws n r × (r.at ≡ i) → (redex_at (held ws n) ≡ some r.at) × Plans ws n r
planned_here {ws} {n} {i} {r} s p =
    let e = p.1 in
    ((redex_first (held ws n) r.at).1 ((next ws n r.at, p.0.redex.redex), rw e s.before), p.0)
