-- Bringing a term into a workspace ("The stored table", "Numbers for refused calls"): the first refusal that is met, which changes nothing, or the
-- words of the term, with zeros after them, and its length. Each call that brings a term in is `bring` of its own checks and its own term.
use Rattle.std.specs.Prelude.{ℕ, ◌≡◌, Bool, true, false, not, cond, List, [], ◌∷◌, ◌⊎◌, ltb, length}
use Rattle.std.proofs.Math.Logic.{ite}
use Rattle.std.proofs.Math.Option.{Option, some, none}
use Rattle.calculus.specs.Term.{Term}
use Rattle.calculus.specs.Words.{words, size}
use Rattle.calculus.specs.Decide.{scoped?}
use Rattle.calculus.specs.Refusal.{Refusal, NoTerm}
use Rattle.calculus.specs.Workspace.{padded}

-- The answer: a refusal, or what is returned, the length of the term. Writing answers alike, with the number of records, and exporting with that of bits.
pub data Result : Type 0 where
  refused : Refusal → Result
  returned : ℕ → Result

-- Everything at exit.
pub record Brought : Type 0 where
  pub answer : Result
  pub workspace : List ℕ

-- Checks are refusals in the order in which a call takes them, each with whether it is met. The first that is met is answered.
abbrev pub first_met : List (Refusal × Bool) → Option Refusal
first_met [] = none
first_met (c ∷ cs) = cond c.1 (some c.0) (first_met cs)

-- The same as statements: this refusal is met, and none before it is; or none is met.
abbrev pub FirstMet : Refusal → List (Refusal × Bool) → Type 0
FirstMet why [] = ⊥
FirstMet why (c ∷ cs) = ((c.1 ≡ true) × (c.0 ≡ why)) ⊎ ((c.1 ≡ false) × FirstMet why cs)

abbrev pub NoneMet : List (Refusal × Bool) → Type 0
NoneMet [] = Unit {0}
NoneMet (c ∷ cs) = (c.1 ≡ false) × NoneMet cs

-- Whether there is no term.
abbrev pub is_none : Option Term → Bool
is_none none = true
is_none (some t) = false

-- Refusal 8: the term is longer than a workspace of C words.
abbrev pub longer_than : (C : ℕ) → Option Term → Bool
longer_than C none = false
longer_than C (some t) = ltb C (size t)

-- Refusal 6: a free number above 255. What is no term meets an earlier refusal.
abbrev pub free_fits : Term → Bool
free_fits t = ite (scoped? 0 t) true false

abbrev pub free_above : Option Term → Bool
free_above none = false
free_above (some t) = not (free_fits t)

-- A refusal changes nothing.
abbrev pub refuse : (workspace : List ℕ) → Refusal → Brought
refuse workspace why = record { answer = refused why; workspace = workspace }

-- Words at the start, zeros after them, and how many words they are.
abbrev pub hold : (workspace : List ℕ) → List ℕ → Brought
hold workspace ws = record { answer = returned (length ws); workspace = padded (length workspace) ws }

-- The words of the term. Where no check is met there is a term, so the first clause never arises: each call states it (`LoadingExact`,
-- `ReadingExact`, `ImportingExact`).
abbrev pub place : (workspace : List ℕ) → Option Term → Brought
place workspace none = refuse workspace NoTerm
place workspace (some t) = hold workspace (words t)

abbrev pub bring_unless : Option Refusal → Option Term → (workspace : List ℕ) → Brought
bring_unless (some why) given workspace = refuse workspace why
bring_unless none given workspace = place workspace given

abbrev pub bring : (checks : List (Refusal × Bool)) → Option Term → (workspace : List ℕ) → Brought
bring checks given workspace = bring_unless (first_met checks) given workspace
