-- The plain kinds, those of records that are no case and no branch: for each law one line a kind. Elsewhere a plain record is a `Node`.
use Prim.Native.Nat.{ℕ, zero, suc, ◌+◌, ◌≤◌}
use mathlib.Core.Path.{◌≡◌, refl, ap}
use mathlib.Core.Bool.{true}
use mathlib.Core.List.{◌∷◌, append-nil}
use mathlib.Core.Option.{some, map}
use native.Mathlib.Omega.{arith}
use lib.ListN.{length}
use borrow.Author.Tests.{leb-true, le-leb, eqb-true}
use Rattle.calculus.specs.Term.{Sort, term, terms, branches, Exp, var, lam, app, con, case, num, nil, cons, end, branch, Term, Terms, Branches, count}
use Rattle.calculus.specs.Words.{variable_kind, abstraction_kind, application_kind, constructor_kind, case_kind, branch_kind, numeral_kind, word, words, size}
use Rattle.calculus.specs.Skip.{following, arity}
use Rattle.calculus.specs.Everywhere.{Asked, Everywhere}
use Rattle.calculus.specs.Accepted.{argument_limit, numeral_limit, index_limit, Scoped, Accepted}
use Rattle.calculus.specs.Theorems.{Packable, IndicesWithin}
use Rattle.calculus.proofs.WordLaws.{tag_of-pack}
use Rattle.calculus.proofs.SkipLaws.{arity_variable, arity_constructor, arity-numeral}
use Rattle.calculus.proofs.All.{All, holds, nothing, all-eqb}
use Rattle.storage.specs.Meaning.{Node, variable, abstraction, application, constructor, numeral, leaf_of, only_one, application_of, valueless, term_of}
use Rattle.calculus.specs.Payload.{payload_fits}
use Rattle.storage.specs.Values.{value_fits, numberFits}
use Rattle.calculus.proofs.PatternLaws.{tag_passes, tag_fits}
use Rattle.storage.specs.Records.{entry}
use Rattle.storage.specs.Write.{link_to, records}
use Rattle.storage.specs.Payload.{payload, value_of}

-- `term_of` finds the term of a node, and nothing else.
of-leaf : {k v : ℕ} {t : Term} (xs : Terms) → Node k v nil t → All (Node k v xs) (leaf_of t xs)
of-leaf nil n = holds n
of-leaf (cons a xs) n = nothing

of_abstraction : (v : ℕ) (xs : Terms) → All (Node abstraction_kind v xs) (valueless v (map lam (only_one xs)))
of_abstraction zero nil = nothing
of_abstraction zero (cons a nil) = holds abstraction
of_abstraction zero (cons a (cons b xs)) = nothing
of_abstraction (suc v) xs = nothing

of_application : (v : ℕ) (xs : Terms) → All (Node application_kind v xs) (valueless v (application_of xs))
of_application zero nil = nothing
of_application zero (cons f nil) = nothing
of_application zero (cons f (cons a nil)) = holds application
of_application zero (cons f (cons a (cons b xs))) = nothing
of_application (suc v) xs = nothing

pub made-node : (k v : ℕ) (xs : Terms) → All (Node k v xs) (term_of k v xs)
unfolding term_of
made-node k v xs =
    all-eqb k variable_kind (λ e. rw e (of-leaf xs variable))
    (all-eqb k abstraction_kind (λ e. rw e (of_abstraction v xs))
    (all-eqb k application_kind (λ e. rw e (of_application v xs))
    (all-eqb k constructor_kind (λ e. rw e (holds constructor))
    (all-eqb k numeral_kind (λ e. rw e (of-leaf xs numeral))
    nothing))))

pub node_made : {k v : ℕ} {xs : Terms} {t : Term} → Node k v xs t → term_of k v xs ≡ some t
unfolding term_of
node_made variable = refl
node_made abstraction = refl
node_made application = refl
node_made constructor = refl
node_made numeral = refl

-- A known kind that is neither a case nor a branch.
pub record Plain (k : ℕ) : Type 0 where
  pub no-case : k ≡ case_kind → ⊥
  pub no_branch : k ≡ branch_kind → ⊥
  pub known : k ≤ numeral_kind

pub node-plain : {k v : ℕ} {xs : Terms} {t : Term} → Node k v xs t → Plain k
node-plain variable = record { no-case = λ e. omega arith; no_branch = λ e. omega arith; known = omega arith }
node-plain abstraction = record { no-case = λ e. omega arith; no_branch = λ e. omega arith; known = omega arith }
node-plain application = record { no-case = λ e. omega arith; no_branch = λ e. omega arith; known = omega arith }
node-plain constructor = record { no-case = λ e. omega arith; no_branch = λ e. omega arith; known = omega arith }
node-plain numeral = record { no-case = λ e. omega arith; no_branch = λ e. omega arith; known = omega arith }

-- A value and a number of children that fit make a node.
pub one-child : (xs : Terms) → count xs ≡ 1 → (a : Term) × (xs ≡ cons a nil)
one-child nil e = absurd (omega arith)
one-child (cons a nil) e = (a, refl)
one-child (cons a (cons b xs)) e = absurd (omega arith)

two-children : (xs : Terms) → count xs ≡ 2 → (f a : Term) × (xs ≡ cons f (cons a nil))
two-children nil e = absurd (omega arith)
two-children (cons f nil) e = absurd (omega arith)
two-children (cons f (cons a nil)) e = (f, a, refl)
two-children (cons f (cons a (cons b xs))) e = absurd (omega arith)

leaf : {k v : ℕ} {t : Term} (xs : Terms) → count xs ≡ 0 → Node k v nil t → Node k v xs t
leaf nil e n = n
leaf (cons a xs) e n = absurd (omega arith)

one : {v : ℕ} {xs : Terms} {b : Term} → v ≡ 0 → xs ≡ cons b nil → Node abstraction_kind v xs (lam b)
one e f = rw (e, f) abstraction

two : {v : ℕ} {xs : Terms} {f a : Term} → v ≡ 0 → xs ≡ cons f (cons a nil) → Node application_kind v xs (app f a)
two e f = rw (e, f) application

pub some-node : (k v : ℕ) (xs : Terms) → Plain k → value_fits k v ≡ true → numberFits k (count xs) ≡ true → (t : Term) × Node k v xs t
unfolding value_fits payload_fits
some-node zero v xs l f g = (var v, leaf xs (eqb-true (count xs) 0 g) variable)
some-node (suc zero) v xs l f g = let a = one-child xs (eqb-true (count xs) 1 g) in (lam a.0, one (eqb-true v 0 f) a.1)
some-node (suc (suc zero)) v xs l f g =
    let a = two-children xs (eqb-true (count xs) 2 g) in
    (app a.0 a.1, two (eqb-true v 0 f) a.2)
some-node (suc (suc (suc zero))) v xs l f g = (con v xs, constructor)
some-node (suc (suc (suc (suc zero)))) v xs l f g = absurd (l.no-case refl)
some-node (suc (suc (suc (suc (suc zero))))) v xs l f g = absurd (l.no_branch refl)
some-node (suc (suc (suc (suc (suc (suc zero)))))) v xs l f g = (num v, leaf xs (eqb-true (count xs) 0 g) numeral)
some-node (suc (suc (suc (suc (suc (suc (suc k))))))) v xs l f g = absurd (omega (arith, l.known))

-- Its words and its records.
pub node-words : {k v : ℕ} {xs : Terms} {t : Term} → Node k v xs t → words t ≡ word k (payload k v (count xs)) ∷ words xs
node-words variable = refl
node-words (abstraction {b}) = rw (append-nil (words b))
node-words (application {f} {a}) = rw (append-nil (words a))
node-words constructor = refl
node-words numeral = refl

pub node-size : {k v : ℕ} {xs : Terms} {t : Term} → Node k v xs t → size t ≡ suc (size xs)
node-size n = ap length (node-words n)

pub node-arity : {k v : ℕ} {xs : Terms} {t : Term} → Node k v xs t → Packable t → arity (word k (payload k v (count xs))) ≡ count xs
unfolding following
node-arity (variable {v}) h = arity_variable v
node-arity abstraction h = refl
node-arity application h = refl
node-arity (constructor {v} {xs}) h = arity_constructor v (count xs) h.0
node-arity (numeral {v}) h = arity-numeral v

pub node-value : {k v : ℕ} {xs : Terms} {t : Term} → Node k v xs t → Packable t → value_of k (payload k v (count xs)) ≡ v
unfolding value_of
node-value variable h = refl
node-value abstraction h = refl
node-value application h = refl
node-value (constructor {v} {xs}) h = tag_of-pack v (count xs) h.0
node-value numeral h = refl

pub node-records : {k v : ℕ} {xs : Terms} {t : Term} → Node k v xs t → (i x : ℕ)
    → records i x t ≡ entry k v (link_to (suc i) xs) x ∷ records (suc i) 0 xs
node-records variable i x = refl
node-records (abstraction {b}) i x = rw (append-nil (records (suc i) 0 b))
node-records (application {f} {a}) i x = rw (append-nil (records (suc i + size f) 0 a))
node-records constructor i x = refl
node-records numeral i x = refl

-- What is asked of every word is asked of the children's, at some place.
pub node-below : {Place : Type 0} (P : Asked Place) {k v : ℕ} {xs : Terms} {t : Term} → Node k v xs t → (d : Place) → Everywhere P d t
    → (d' : Place) × Everywhere P d' xs
node-below P variable d h = (d, tt)
node-below P abstraction d h = (P.places.under_abstraction d, (h, tt))
node-below P application d h = (d, (h.0, (h.1, tt)))
node-below P constructor d h = (d, h.1)
node-below P numeral d h = (d, tt)

-- Acceptance, and what refusals 3 and 5 test of the node itself.
pub node-fits : {k v : ℕ} {xs : Terms} {t : Term} → Node k v xs t → (d : ℕ) → Accepted d t → IndicesWithin index_limit t
    → (value_fits k v ≡ true) × (numberFits k (count xs) ≡ true)
unfolding value_fits payload_fits
node-fits (variable {v}) d a w = (le-leb v index_limit w, refl)
node-fits abstraction d a w = (refl, refl)
node-fits application d a w = (refl, refl)
node-fits (constructor {v} {xs}) d a w = (tag_passes v a.0.0, le-leb (count xs) argument_limit a.0.1)
node-fits (numeral {v}) d a w = (le-leb v numeral_limit a, refl)

pub node-accepted : {k v : ℕ} {xs : Terms} {t : Term} → Node k v xs t → (d : ℕ) → value_fits k v ≡ true → numberFits k (count xs) ≡ true
    → ((d' : ℕ) → Scoped d' xs → Accepted d' xs) → Scoped d t → Accepted d t
unfolding value_fits payload_fits
node-accepted variable d f g below h = h
node-accepted abstraction d f g below h = (below (suc d) (h, tt)).0
node-accepted application d f g below h = let both = below d (h.0, (h.1, tt)) in (both.0, both.1.0)
node-accepted (constructor {v}) d f g below h = ((tag_fits v f, leb-true _ argument_limit g), below d h.1)
node-accepted (numeral {v}) d f g below h = leb-true v numeral_limit f

-- Under so many binders that no index of a record is free.
pub node-scoped : {k v : ℕ} {xs : Terms} {t : Term} → Node k v xs t → (d : ℕ) → value_fits k v ≡ true → ((d' : ℕ) → index_limit ≤ d' → Scoped d' xs) → index_limit ≤ d
    → Scoped d t
unfolding value_fits payload_fits
node-scoped (variable {v}) d f below h = omega (arith, leb-true v index_limit f)
node-scoped abstraction d f below h = (below (suc d) (omega arith)).0
node-scoped application d f below h = let both = below d h in (both.0, both.1.0)
node-scoped constructor d f below h = (tt, below d h)
node-scoped numeral d f below h = tt

-- Every expression is made of nodes, cases and lists.
pub data Built : (s : Sort) → Exp s → Type 0 where
  plain : {k v : ℕ} {xs : Terms} {t : Term} → Node k v xs t → Built terms xs → Built term t
  of_case : {e : Term} {bs : Branches} → Built term e → Built branches bs → Built term (case e bs)
  empty : Built terms nil
  listed : {a : Term} {xs : Terms} → Built term a → Built terms xs → Built terms (cons a xs)
  ended : Built branches end
  branched : {t n : ℕ} {b : Term} {bs : Branches} → Built term b → Built branches bs → Built branches (branch t n b bs)

pub built : {s : Sort} (e : Exp s) → Built s e
built (var v) = plain variable empty
built (lam b) = plain abstraction (listed (built b) empty)
built (app f a) = plain application (listed (built f) (listed (built a) empty))
built (con t xs) = plain constructor (built xs)
built (case e bs) = of_case (built e) (built bs)
built (num n) = plain numeral empty
built nil = empty
built (cons a xs) = listed (built a) (built xs)
built end = ended
built (branch t n b bs) = branched (built b) (built bs)
