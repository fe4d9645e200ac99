-- Which term a list of words is ("Terms and words"): one whole term by the word rules, or none.
--
-- A list of words is read from its end. What has been read is a list of items, each a term or a branch; a word takes from the front of that
-- list what has to follow it, and the item that it begins stands there instead. The whole list is one term if one item is left in the end and
-- it is an accepted term. So a missing word, a surplus word, a kind above 6, a payload that should be 0 and is not, a branch outside a case and
-- anything but a branch where a branch must stand give none, and every broken limit does. `ReadExact` states that a term is read exactly from its
-- words.
use Rattle.std.specs.Prelude.{ℕ, zero, suc, cond, List, [], ◌∷◌, eqb}
use Rattle.std.proofs.Math.Logic.{ite}
use Rattle.std.proofs.Math.Option.{Option, some, none, map, bind}
use Rattle.calculus.specs.Term.{Term, Terms, Branches, var, lam, app, con, case, num, nil, cons, end, branch}
use Rattle.calculus.specs.Words.{variable_kind, abstraction_kind, application_kind, constructor_kind, case_kind, branch_kind, numeral_kind, kind_of, payload_of, tag_of, count_of}
use Rattle.calculus.specs.Decide.{accepted?}

pub data Item : Type 0 where
  whole : Term → Item
  arm : ℕ → ℕ → Term → Item

-- The first item as a term, the first n as arguments and the first n as branches, each with the items after them.
unfoldable pub take_term : List Item → Option (Term × List Item)
take_term [] = none
take_term (whole t ∷ is) = some (t, is)
take_term (arm t n b ∷ is) = none

unfoldable pub take_terms : ℕ → List Item → Option (Terms × List Item)
take_terms zero is = some (nil, is)
take_terms (suc n) [] = none
take_terms (suc n) (whole t ∷ is) = map (λ xs. (cons t xs.0, xs.1)) (take_terms n is)
take_terms (suc n) (arm t m b ∷ is) = none

unfoldable pub take_branches : ℕ → List Item → Option (Branches × List Item)
take_branches zero is = some (end, is)
take_branches (suc n) [] = none
take_branches (suc n) (whole t ∷ is) = none
take_branches (suc n) (arm t m b ∷ is) = map (λ bs. (branch t m b bs.0, bs.1)) (take_branches n is)

-- What each kind of word makes of its payload and the items after it.
unfoldable pub read_lam : ℕ → List Item → Option (List Item)
read_lam p is = cond (eqb p 0) (map (λ b. whole (lam b.0) ∷ b.1) (take_term is)) none

unfoldable pub read_app : ℕ → List Item → Option (List Item)
read_app p is =
    cond (eqb p 0) (bind (take_term is) (λ f. map (λ a. whole (app f.0 a.0) ∷ a.1) (take_term f.1))) none

unfoldable pub read_con : ℕ → List Item → Option (List Item)
read_con p is = map (λ xs. whole (con (tag_of p) xs.0) ∷ xs.1) (take_terms (count_of p) is)

unfoldable pub read_case : ℕ → List Item → Option (List Item)
read_case p is = bind (take_term is) (λ e. map (λ bs. whole (case e.0 bs.0) ∷ bs.1) (take_branches p e.1))

unfoldable pub read_branch : ℕ → List Item → Option (List Item)
read_branch p is = map (λ b. arm (tag_of p) (count_of p) b.0 ∷ b.1) (take_term is)

unfoldable pub item : (kind payload : ℕ) → List Item → Option (List Item)
item k p is =
    cond (eqb k variable_kind) (some (whole (var p) ∷ is))
    (cond (eqb k abstraction_kind) (read_lam p is)
    (cond (eqb k application_kind) (read_app p is)
    (cond (eqb k constructor_kind) (read_con p is)
    (cond (eqb k case_kind) (read_case p is)
    (cond (eqb k branch_kind) (read_branch p is)
    (cond (eqb k numeral_kind) (some (whole (num p) ∷ is))
    none))))))

unfoldable pub items : List ℕ → Option (List Item)
items [] = some []
items (w ∷ ws) = bind (items ws) (item (kind_of w) (payload_of w))

-- The one accepted term that these items are.
unfoldable pub one_term : List Item → Option Term
one_term [] = none
one_term (whole t ∷ []) = ite (accepted? 0 t) (some t) none
one_term (whole t ∷ i ∷ is) = none
one_term (arm t n b ∷ is) = none

unfoldable pub read : List ℕ → Option Term
read ws = bind (items ws) one_term

-- The one term that words are, whatever its limits.
unfoldable pub only_term : List Item → Option Term
only_term [] = none
only_term (whole t ∷ []) = some t
only_term (whole t ∷ i ∷ is) = none
only_term (arm t n b ∷ is) = none

unfoldable pub any_term : List ℕ → Option Term
any_term ws = bind (items ws) only_term
