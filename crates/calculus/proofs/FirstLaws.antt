-- The first items of the words of an expression are that expression, whatever words follow: `span` finds where they end, and up to there the
-- words are read as its items.
use Prim.Native.Nat.{ℕ}
use mathlib.Core.Path.{◌≡◌, refl, ◌∙◌, ap}
use mathlib.Core.List.{List, [], ◌++◌}
use mathlib.Core.Option.{bind}
use native.Mathlib.Nat.{add-zero}
use native.Mathlib.Omega.{arith}
use lib.ListN.{take}
use lib.Seq.{take-append_seam}
use Rattle.calculus.specs.Term.{Sort, Exp, Term, Terms, count}
use Rattle.calculus.specs.Words.{words, size}
use Rattle.calculus.specs.Read.{take_term}
use Rattle.calculus.specs.Skip.{span}
use Rattle.calculus.specs.First.{first_term, first_terms}
use Rattle.calculus.specs.Theorems.{Packable}
use Rattle.calculus.proofs.SkipLaws.{items_and, span-words, span_zero}
use Rattle.calculus.proofs.ReadLaws.{take_terms_onto, items-all}

-- As many items as an expression has end where its words end.
pub span-items : {s : Sort} (e : Exp s) (ws : List ℕ) {k : ℕ} → items_and e 0 ≡ k → Packable e → span k (words e ++ ws) ≡ size e
span-items e ws q h = omega (arith, ap (λ n. span n (words e ++ ws)) q, span-words e 0 ws h, span_zero ws)

pub take-items : {s : Sort} (e : Exp s) (ws : List ℕ) {k : ℕ} → items_and e 0 ≡ k → Packable e → take (span k (words e ++ ws)) (words e ++ ws) ≡ words e
take-items e ws q h = ap (λ n. take n (words e ++ ws)) (span-items e ws q h) ∙ take-append_seam (words e) ws

pub first_term-words : (t : Term) (ws : List ℕ) → Packable t → first_term (words t ++ ws) ≡ t
unfolding first_term bind take_term
first_term-words t ws h = rw (take-items t ws refl h, items-all t h)

pub first_terms-words : (xs : Terms) (ws : List ℕ) → Packable xs → first_terms (count xs) (words xs ++ ws) ≡ xs
unfolding first_terms bind
first_terms-words xs ws h = rw (take-items xs ws (add-zero (count xs)) h, items-all xs h, take_terms_onto xs [])
