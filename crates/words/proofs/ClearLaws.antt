-- A workspace that is cleared behind a term.
use Prim.Native.Nat.{ℕ, ◌-◌}
use mathlib.Core.Path.{◌≡◌, ◌∙◌, ap₂}
use mathlib.Core.List.{List, ◌++◌}
use lib.ListN.{length, take, replicate}
use lib.Seq.{take-append_seam}
use Rattle.calculus.specs.Term.{Term}
use Rattle.calculus.specs.Words.{words, size}
use Rattle.calculus.specs.Workspace.{padded}

-- A term's words cleared behind, in a workspace of C words.
pub cleared_padded : (C : ℕ) (ws others : List ℕ) (t : Term) (m : ℕ) → ws ≡ words t ++ others → m ≡ size t → length ws ≡ C
    → take m ws ++ replicate (length ws - m) 0 ≡ padded C (words t)
cleared_padded C ws others t m e s l =
    let f : take m ws ≡ words t = ap₂ take s e ∙ take-append_seam (words t) others in
    ap₂ (λ xs k. xs ++ replicate k 0) f (ap₂ ◌-◌ l s)
