-- Reducts, chains and normal forms of terms ("Contraction").
use Rattle.std.specs.Prelude.{ℕ}
use Rattle.calculus.specs.Term.{Sort, term, Exp, Term}
use Rattle.calculus.specs.Contraction.{Rule, Contracts}
use Rattle.calculus.specs.Relation.{Star, Chain, NormalForm}

-- One contraction, at some redex: of an expression of any sort, and of a term.
abbrev pub Contraction : (s : Sort) → Exp s → Exp s → Type 0
Contraction s e g = (p : ℕ) × (r : Rule) × Contracts s p r e g

abbrev pub Contracts₁ : Term → Term → Type 0
Contracts₁ = Contraction term

-- Contractions reach u from t (u is a reduct of t).
abbrev pub Reaches : Term → Term → Type 0
Reaches = Star Contracts₁

-- A chain (conversion sequence) joins t and u; the terms inside it have no limit of length, depth or free number.
abbrev pub Joined : Term → Term → Type 0
Joined = Chain Contracts₁

-- A term is normal if it has no redex.
abbrev pub Normal : Term → Type 0
Normal = NormalForm Contracts₁
