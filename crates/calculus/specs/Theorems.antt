-- What is owed about the calculus: each statement is a type with a name, and its proof in proofs/ has that type.
use Rattle.std.specs.Prelude.{ℕ, zero, suc, ◌+◌, ◌-◌, ◌*◌, ◌≤◌, ◌<◌, ◌≡◌, true, false, ◌↔◌, ◌⊎◌, ℤ, pos, ◌+ℤ◌, length, take, get_or}
use mathlib.Core.List.{List, [], ◌∷◌, ◌++◌, Memᴰ}
use Rattle.std.proofs.Math.Option.{some, none, bind}
use Rattle.calculus.specs.Term.{Sort, term, terms, branches, Exp, var, lam, app, con, case, num, nil, cons, end, branch, Term, Terms, Branches, count}
use Rattle.calculus.specs.Words.{application_kind, case_kind, numeral_kind, kind_of, count_base, words, size, workspace_least, workspace_most}
use Rattle.calculus.specs.Everywhere.{binders, anywhere, Asked, variables, Everywhere}
use Rattle.calculus.specs.Accepted.{tag_limit, argument_limit, branch_limit, free_limit, numeral_limit, Rising, Scoped, acceptance, Accepted, index_limit}
use Rattle.calculus.specs.Read.{read}
use Rattle.calculus.specs.Workspace.{sized, wrong_workspace, term_at}
use Rattle.calculus.specs.Refusal.{Refusal}
use Rattle.calculus.specs.Bringing.{refused, Brought, longer_than, free_above}
use Rattle.calculus.specs.Shift.{move, shift}
use Rattle.calculus.specs.Substitution.{subst}
use Rattle.calculus.specs.Numeral.{numeral}
use Rattle.calculus.specs.Contraction.{Rule, by_beta, by_case, by_numeral, select, Contracts}
use Rattle.calculus.specs.Conversion.{Contracts₁, Reaches, Joined, Normal}
use Rattle.calculus.specs.Leftmost.{ContractsLeftmost, leftmost}
use Rattle.calculus.specs.Position.{contract_at, redex_at}
use Rattle.calculus.specs.Comparison.{equal, differ, compare_words, compare, FirstDifference}
use Rattle.calculus.specs.Rounds.{Verdict, Same, Different, Budget, Full, Outcome, shows, Round, ends, goes, at_once, round_by, ended, after, rounds}

-- `read` gives t exactly for the words of t where t is accepted.
abbrev pub ReadExact : Type 0
ReadExact = (ws : List ℕ) (t : Term) → (read ws ≡ some t) ↔ ((words t ≡ ws) × Accepted 0 t)

-- Which tags and counts an accepted term may have ("Terms and words"): a constructor a tag from 1 to 255 and up to 15 arguments; a branch such a tag and up to
-- 15 bound, or tag 0 and none.
abbrev pub TagsExact : Type 0
TagsExact =
    (t n : ℕ) → (acceptance.of_constructor t n ↔ ((1 ≤ t) × (t ≤ tag_limit) × (n ≤ argument_limit)))
    × (acceptance.of_branch t n ↔ (((t ≡ 0) × (n ≡ 0)) ⊎ ((1 ≤ t) × (t ≤ tag_limit) × (n ≤ argument_limit))))

-- The tags of branches, in order.
abbrev pub tags : Branches → List ℕ
tags end = []
tags (branch t n b bs) = t ∷ tags bs

-- Which variables, numerals and cases it may have: bound variables and those of a free number up to 255, numerals up to 31, and cases of up to 15 branches, in
-- which an earlier branch has a lower tag.
abbrev pub LimitsExact : Type 0
LimitsExact =
    ((d i : ℕ) → acceptance.of_variable d i ↔ ((i < d) ⊎ ((d ≤ i) × (i - d ≤ free_limit))))
    × ((n : ℕ) → acceptance.of_numeral n ↔ (n ≤ numeral_limit))
    × ((bs : Branches) → acceptance.of_case bs
    ↔ ((count bs ≤ branch_limit) × ((i j : ℕ) → i < j → j < length (tags bs) → get_or (tags bs) i 0 < get_or (tags bs) j 0)))

-- Which lengths pass refusal 7: every workspace and scratch that is lent has 16 to 2,048 words, and any two have as many;
-- where one workspace alone is lent, it has 16 to 2,048.
abbrev pub LengthsExact : Type 0
LengthsExact =
    ((ns : List ℕ) → (sized ns ≡ true)
    ↔ ((n : ℕ) → Memᴰ n ns → (workspace_least ≤ n) × (n ≤ workspace_most) × ((m : ℕ) → Memᴰ m ns → n ≡ m)))
    × ((C : ℕ) → (wrong_workspace C ≡ false) ↔ ((workspace_least ≤ C) × (C ≤ workspace_most)))

-- What passes refusal 10: a workspace has so many words, and they are those of an accepted term.
pub record Held (ws : List ℕ) (n : ℕ) (t : Term) : Type 0 where
  pub within : n ≤ length ws
  pub words_are : words t ≡ take n ws
  pub accepted : Accepted 0 t

abbrev pub TermAtExact : Type 0
TermAtExact = (ws : List ℕ) (n : ℕ) (t : Term) → (term_at ws n ≡ some t) ↔ Held ws n t

-- A refusal, and the workspace as it was: written out again, so that what is owed does not lean on `bring`.
abbrev pub unchanged : (workspace : List ℕ) → Refusal → Brought
unchanged workspace why = record { answer = refused why; workspace = workspace }

-- What passes refusals 6 and 8 of a term that is brought in: no free number is above 255, and a workspace of C words holds it.
abbrev pub BroughtExact : Type 0
BroughtExact =
    (t : Term) → ((free_above (some t) ≡ false) ↔ Scoped 0 t) × ((C : ℕ) → (longer_than C (some t) ≡ false) ↔ (size t ≤ C))

-- Argument and bound counts are below 16, so that a payload holds them beside the tag.
abbrev pub counted : Asked (Unit {0})
counted =
    record {
      places = anywhere;
      of_variable = λ d i. Unit {0};
      of_constructor = λ t n. n < count_base;
      of_case = λ bs. Unit {0};
      of_branch = λ t n. n < count_base;
      of_numeral = λ n. Unit {0};
    }

abbrev pub Packable : {s : Sort} → Exp s → Type 0
Packable e = Everywhere counted tt e

-- The words of a term are never the start of another's. Without the bound on counts this is false: tag 1 with 16 arguments and tag 2 with none
-- share a word.
abbrev pub WordsPrefixFree : Type 0
WordsPrefixFree =
    (t u : Term) (ws vs : List ℕ) → Packable t → Packable u → words t ++ ws ≡ words u ++ vs → (t ≡ u) × (ws ≡ vs)

-- Comparing two lists of words gives `equal` exactly if they are equal, and a position exactly if so many first words are the same and one more are not:
-- the smallest position where they differ.
abbrev pub ComparisonExact : Type 0
ComparisonExact =
    (ws vs : List ℕ) → ((compare_words ws vs ≡ equal) ↔ (ws ≡ vs))
    × ((p : ℕ) → (compare_words ws vs ≡ differ p) ↔ ((take p ws ≡ take p vs) × (take (suc p) ws ≡ take (suc p) vs → ⊥)))

-- Two lists of words have their first difference at a position exactly if comparing them gives it and it is below both lengths.
abbrev pub FirstDifferenceExact : Type 0
FirstDifferenceExact =
    (p : ℕ) (ws vs : List ℕ) → FirstDifference p ws vs ↔ ((compare_words ws vs ≡ differ p) × (p < length ws) × (p < length vs))

-- Two unequal whole terms are never one the start of the other.
abbrev pub NoTermStartsAnother : Type 0
NoTermStartsAnother =
    (t u : Term) → Accepted 0 t → Accepted 0 u → (t ≡ u → ⊥) → (ws : List ℕ) → words t ++ ws ≡ words u → ⊥

-- So comparing them tells whether they are equal, and otherwise where within both the first difference is.
abbrev pub EqualTermsCompared : Type 0
EqualTermsCompared = (t u : Term) → Accepted 0 t → Accepted 0 u → (compare t u ≡ equal) ↔ (t ≡ u)

abbrev pub UnequalTermsDiffer : Type 0
UnequalTermsDiffer =
    (t u : Term) → Accepted 0 t → Accepted 0 u → (t ≡ u → ⊥) → (p : ℕ) × (compare t u ≡ differ p) × FirstDifference p (words t) (words u)

-- Every variable is bound.
abbrev pub closed : Asked ℕ
closed = variables binders (λ d i. i < d)

abbrev pub Closed : {s : Sort} → Exp s → Type 0
Closed e = Everywhere closed 0 e

-- A numeral is closed, and its words are 1, 1, then n times 2, 8, then 0: 2 × n + 3 words.
abbrev pub NumeralClosed : Type 0
NumeralClosed = (n : ℕ) → Closed (numeral n)

abbrev pub pairs : ℕ → List ℕ
pairs zero = []
pairs (suc n) = 2 ∷ 8 ∷ pairs n

abbrev pub NumeralWords : Type 0
NumeralWords = (n : ℕ) → (words (numeral n) ≡ (1 ∷ 1 ∷ []) ++ (pairs n ++ (0 ∷ []))) × (size (numeral n) ≡ 2 * n + 3)

-- A moved index is the sum of index and distance as integers, wherever that is not negative.
abbrev pub MoveExact : Type 0
MoveExact = (z : ℤ) (i n : ℕ) → pos i +ℤ z ≡ pos n → move z i ≡ n

-- What is done to expressions, d binders being crossed, goes through every form but a variable: a body stands under the binders of its abstraction or its
-- branch too, and tags, bound counts and numerals stay.
pub record Through (done : (s : Sort) → (d : ℕ) → Exp s → Exp s) : Type 0 where
  pub of_abstraction : (d : ℕ) (b : Term) → done term d (lam b) ≡ lam (done term (d + 1) b)
  pub of_application : (d : ℕ) (f a : Term) → done term d (app f a) ≡ app (done term d f) (done term d a)
  pub of_constructor : (d t : ℕ) (xs : Terms) → done term d (con t xs) ≡ con t (done terms d xs)
  pub of_case : (d : ℕ) (e : Term) (bs : Branches) → done term d (case e bs) ≡ case (done term d e) (done branches d bs)
  pub of_numeral : (d n : ℕ) → done term d (num n) ≡ num n
  pub of_no_argument : (d : ℕ) → done terms d nil ≡ nil
  pub of_argument : (d : ℕ) (a : Term) (xs : Terms) → done terms d (cons a xs) ≡ cons (done term d a) (done terms d xs)
  pub of_no_branch : (d : ℕ) → done branches d end ≡ end
  pub of_branch : (d t n : ℕ) (b : Term) (bs : Branches)
      → done branches d (branch t n b bs) ≡ branch t n (done term (d + n) b) (done branches d bs)

-- Moving indices in the words of "Contraction": an index that is bound inside the moved part stays, and every other moves by the signed distance.
pub record ShiftExact : Type 0 where
  pub bound : (z : ℤ) (d i : ℕ) → i < d → shift z d (var i) ≡ var i
  pub free : (z : ℤ) (d i n : ℕ) → d ≤ i → pos i +ℤ z ≡ pos n → shift z d (var i) ≡ var n
  pub through : (z : ℤ) → Through (λ s d e. shift z d e)

-- The arguments in their order.
abbrev pub arguments : Terms → List Term
arguments nil = []
arguments (cons a xs) = a ∷ arguments xs

-- Substitution in the words of "Contraction": an index bound by the d binders crossed stays; past these the last argument is index 0 and the first
-- their number minus 1, so that each is the index of as many as stand after it; it rises by the binders crossed. An index past the arguments falls by their number.
pub record SubstitutionExact : Type 0 where
  pub bound : (xs : Terms) (d i : ℕ) → i < d → subst xs d (var i) ≡ var i
  pub replaced : (xs : Terms) (d i : ℕ) (before : List Term) (a : Term) (after : List Term) → arguments xs ≡ before ++ (a ∷ after)
      → d ≤ i → i - d ≡ length after → subst xs d (var i) ≡ shift (pos d) 0 a
  pub past : (xs : Terms) (d i : ℕ) → d + length (arguments xs) ≤ i → subst xs d (var i) ≡ var (i - length (arguments xs))
  pub through : (xs : Terms) → Through (λ s d e. subst xs d e)

-- A branch of this tag, bound count and body is among the branches.
abbrev pub Has : (tag bound : ℕ) → Term → Branches → Type 0
Has t n b end = ⊥
Has t n b (branch u m c bs) = ((t ≡ u) × (n ≡ m) × (b ≡ c)) ⊎ Has t n b bs

-- The case rule in the words of "Contraction", among branches whose tags rise: a constructor takes the branch of its tag, other than the default, that binds
-- as many variables as it has arguments; where no other branch than the default has its tag, it takes the default, whose body stays as it is; and nothing
-- else. `Boundaries` has examples where tags do not rise.
abbrev pub SelectExact : Type 0
SelectExact =
    (t : ℕ) (xs : Terms) (bs : Branches) (u : Term) → Rising bs → (select t xs bs ≡ some u)
    ↔ (((b : Term) × Has t (count xs) b bs × ((t ≡ 0) × (count xs ≡ 0) → ⊥) × (u ≡ subst xs 0 b))
    ⊎ (((n : ℕ) (b : Term) → Has t n b bs → (t ≡ 0) × (n ≡ 0)) × Has 0 0 u bs))

-- `leftmost` gives what the leftmost outermost contraction gives.
abbrev pub LeftmostStep : Type 0
LeftmostStep = (t u : Term) → (leftmost t ≡ some u) ↔ ContractsLeftmost t u

abbrev pub LeftmostNone : Type 0
LeftmostNone = (t : Term) → (leftmost t ≡ none) ↔ Normal t

-- The kind of a redex's first word, by its rule; it stands at the position of the contraction.
abbrev pub redex_kind : Rule → ℕ
redex_kind by_beta = application_kind
redex_kind by_case = case_kind
redex_kind by_numeral = numeral_kind

abbrev pub ContractionPosition : Type 0
ContractionPosition = (p : ℕ) (r : Rule) (t u : Term) → Contracts term p r t u → kind_of (get_or (words t) p 0) ≡ redex_kind r

-- `contract_at` gives what a contraction at that position gives.
abbrev pub ContractAtPosition : Type 0
ContractAtPosition = (p : ℕ) (t u : Term) → (contract_at p t ≡ some u) ↔ ((r : Rule) × Contracts term p r t u)

-- `redex_at` gives the first position at which a redex starts, and none exactly in a normal term.
abbrev pub RedexFirst : Type 0
RedexFirst =
    (t : Term) (p : ℕ) → (redex_at t ≡ some p)
    ↔ (((u : Term) × (contract_at p t ≡ some u)) × ((q : ℕ) → q < p → contract_at q t ≡ none))

abbrev pub RedexNone : Type 0
RedexNone = (t : Term) → (redex_at t ≡ none) ↔ Normal t

-- The leftmost step contracts at the first redex.
abbrev pub LeftmostAtRedex : Type 0
LeftmostAtRedex = (t : Term) → leftmost t ≡ bind (redex_at t) (λ p. contract_at p t)

-- The position of a redex decides the rule and the result.
abbrev pub ContractionDeterministic : Type 0
ContractionDeterministic =
    (p : ℕ) (r r' : Rule) (t u v : Term) → Contracts term p r t u → Contracts term p r' t v → (r ≡ r') × (u ≡ v)

-- A contraction neither makes nor unmakes a redex that starts more than one word before it.
abbrev pub RedexesBeforeKept : Type 0
RedexesBeforeKept =
    (p q : ℕ) (r : Rule) (t u : Term) → Contracts term p r t u → q + 1 < p → (contract_at q t ≡ none) ↔ (contract_at q u ≡ none)

abbrev pub ContractionKeepsAccepted : Type 0
ContractionKeepsAccepted =
    (d p : ℕ) (r : Rule) (t u : Term) → Contracts term p r t u → Accepted d t → Accepted d u

-- The terms after the first, each one step of the relation from the term before it, and b last.
abbrev pub Along : {A : Type 0} → (A → A → Type 0) → A → List A → A → Type 0
Along R a [] b = a ≡ b
Along R a (c ∷ cs) b = R a c × Along R c cs b

-- Reaching is a finite list of contractions one after the other; a chain is a finite list of terms with any two neighbours one contraction apart,
-- in either direction.
abbrev pub ReachesExact : Type 0
ReachesExact = (t u : Term) → Reaches t u ↔ ((vs : List Term) × Along Contracts₁ t vs u)

abbrev pub JoinedExact : Type 0
JoinedExact = (t u : Term) → Joined t u ↔ ((vs : List Term) × Along (λ v w. Contracts₁ v w ⊎ Contracts₁ w v) t vs u)

abbrev pub ContractionReaches : Type 0
ContractionReaches = (t u : Term) → Contracts₁ t u → Reaches t u

abbrev pub ReachingJoins : Type 0
ReachingJoins = (t u : Term) → Reaches t u → Joined t u

abbrev pub NormalReachesItself : Type 0
NormalReachesItself = (t u : Term) → Normal t → Reaches t u → t ≡ u

-- Two terms are joined by a chain exactly if they have a common reduct.
abbrev pub ChurchRosser : Type 0
ChurchRosser = (t u : Term) → Joined t u ↔ ((v : Term) × Reaches t v × Reaches u v)

abbrev pub JoinedNormalEqual : Type 0
JoinedNormalEqual = (t u : Term) → Joined t u → Normal t → Normal u → t ≡ u

abbrev pub EqualityDecidable : Type 0
EqualityDecidable = (t u : Term) → Dec (t ≡ u)

abbrev pub NormalityDecidable : Type 0
NormalityDecidable = (t : Term) → Dec (Normal t)

-- No index of the expression is above the limit.
abbrev pub within : ℕ → Asked (Unit {0})
within limit = variables anywhere (λ d i. i ≤ limit)

abbrev pub IndicesWithin : {s : Sort} → ℕ → Exp s → Type 0
IndicesWithin limit e = Everywhere (within limit) tt e

abbrev pub IndicesBounded : Type 0
IndicesBounded = (t : Term) → Accepted 0 t → size t ≤ workspace_most → IndicesWithin index_limit t

-- What a side does in a round: nothing where its term is normal, otherwise its leftmost outermost contraction.
pub data Part (t : Term) : (contractions : ℕ) (next : Term) → Type 0 where
  rests : Normal t → Part t 0 t
  moves : {t' : Term} → ContractsLeftmost t t' → Part t 1 t'

-- What the five points say of a round that comes to this, with `rest` left of the budget, where p contractions would lead from t to t' and q from u to u'.
abbrev pub ComesTo : (C rest : ℕ) (t u : Term) (p : ℕ) (t' : Term) (q : ℕ) (u' : Term) → Round → Type 0
ComesTo C rest t u p t' q u' (ends Same) = t ≡ u
ComesTo C rest t u p t' q u' (ends Different) = (t ≡ u → ⊥) × (p + q ≡ 0)
ComesTo C rest t u p t' q u' (ends Budget) = (t ≡ u → ⊥) × (1 ≤ p + q) × (rest < p + q)
ComesTo C rest t u p t' q u' (ends Full) =
    (t ≡ u → ⊥) × (1 ≤ p + q) × (p + q ≤ rest) × (((p ≡ 1) × (C < size t')) ⊎ ((q ≡ 1) × (C < size u')))
ComesTo C rest t u p t' q u' (goes n) =
    (t ≡ u → ⊥) × (n ≡ p + q) × (1 ≤ n) × (n ≤ rest) × (p ≡ 1 → size t' ≤ C) × (q ≡ 1 → size u' ≤ C)

-- Demand 2: a round of a press comes to this exactly if the five points say so; then the press ends, or goes on from the next terms with so much less budget.
abbrev pub RoundExact : Type 0
RoundExact =
    (C rest : ℕ) (t u : Term) (p : ℕ) (t' : Term) (q : ℕ) (u' : Term) → Part t p t' → Part u q u'
    → (x : Round) → (round_by at_once C rest t u ≡ x) ↔ ComesTo C rest t u p t' q u' x

abbrev pub RoundsExact : Type 0
RoundsExact =
    (C budget : ℕ) (t u : Term) (p : ℕ) (t' : Term) (q : ℕ) (u' : Term) → Part t p t' → Part u q u'
    → ((v : Verdict) → round_by at_once C budget t u ≡ ends v → rounds C budget t u ≡ ended v t u)
    × ((n : ℕ) → round_by at_once C budget t u ≡ goes n → rounds C budget t u ≡ after n (rounds C (budget - n) t' u'))

-- What is shown of an outcome: its verdict, what was spent and the lengths of both terms; with Different the position of the first word where the terms of a workspace
-- differ, and with every other verdict 0.
abbrev pub ShownExact : Type 0
ShownExact =
    (o : Outcome) → ((shows o).verdict ≡ o.verdict) × ((shows o).spent ≡ o.spent) × ((shows o).left ≡ size o.left) × ((shows o).right ≡ size o.right)
    × (o.verdict ≡ Different → Accepted 0 o.left → Accepted 0 o.right → (o.left ≡ o.right → ⊥)
    → FirstDifference (shows o).position (words o.left) (words o.right))
    × ((o.verdict ≡ Different → ⊥) → (shows o).position ≡ 0)
