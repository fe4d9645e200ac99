-- `read` is the inverse of `words` on accepted terms. In one direction an expression's words put its items in front of what the words after
-- them are read as; in the other, whatever a list of words is read as has just these words.
use Prim.Native.Nat.{ℕ, zero, suc, ◌<◌}
use mathlib.Core.Path.{◌≡◌, refl, sym, ◌∙◌, ap}
use mathlib.Core.List.{List, [], ◌∷◌, ◌++◌, append_assoc, append-nil}
use mathlib.Core.Logic.{if_pos}
use mathlib.Core.Option.{some, none, bind}
use native.Mathlib.Omega.{arith}
use Rattle.calculus.specs.Term.{Sort, term, terms, branches, Exp, Term, Terms, Branches, var, lam, app, con, case, num, nil, cons, end, branch, count}
use Rattle.calculus.specs.Words.{variable_kind, abstraction_kind, application_kind, constructor_kind, case_kind, branch_kind, numeral_kind, kind_base, word, kind_of, payload_of, pack, count_of, words}
use Rattle.calculus.specs.Accepted.{Accepted}
use Rattle.calculus.specs.Decide.{accepted?}
use Rattle.calculus.specs.Read.{Item, whole, arm, take_term, take_terms, take_branches, read_lam, read_app, read_con, read_case, read_branch, item, items, one_term, read, only_term, any_term}
use Rattle.calculus.specs.Theorems.{Packable, ReadExact}
use Rattle.calculus.proofs.All.{All, nothing, holds, all_map, all-bind, all-eqb, all_ite, all_weaken, all_some}
use Rattle.calculus.proofs.WordLaws.{kind_of-word, payload_of-word, word_of_parts, tag_of-pack, count_of-pack, pack_of_parts, accepted_packable}

-- The items of an expression in front of others.
abbrev pub items_onto : {s : Sort} → Exp s → List Item → List Item
items_onto {s = term} t is = whole t ∷ is
items_onto {s = terms} nil is = is
items_onto {s = terms} (cons a xs) is = whole a ∷ items_onto xs is
items_onto {s = branches} end is = is
items_onto {s = branches} (branch t n b bs) is = arm t n b ∷ items_onto bs is

pub take_terms_onto : (xs : Terms) (is : List Item) → take_terms (count xs) (items_onto xs is) ≡ some (xs, is)
unfolding take_terms
take_terms_onto nil is = refl
take_terms_onto (cons a xs) is = rw (take_terms_onto xs is)

take_branches_onto : (bs : Branches) (is : List Item) → take_branches (count bs) (items_onto bs is) ≡ some (bs, is)
unfolding take_branches
take_branches_onto end is = refl
take_branches_onto (branch t n b bs) is = rw (take_branches_onto bs is)

-- A word in front of words that are read as items.
items-word : (k p : ℕ) (ws : List ℕ) {is js : List Item} → k < kind_base → items ws ≡ some is → item k p is ≡ some js → items (word k p ∷ ws) ≡ some js
unfolding items bind
items-word k p ws {is} {js} h q r = rw (q, kind_of-word k p h, payload_of-word k p h) r

items-words : {s : Sort} (e : Exp s) (ws : List ℕ) {is : List Item} → Packable e → items ws ≡ some is → items (words e ++ ws) ≡ some (items_onto e is)
unfolding item read_lam read_app read_con read_case read_branch take_term bind
items-words (var i) ws h q = items-word variable_kind i ws (omega arith) q refl
items-words (lam b) ws h q = items-word abstraction_kind 0 _ (omega arith) (items-words b ws h q) refl
items-words (app f a) ws h q = rw append_assoc (items-word application_kind 0 _ (omega arith) (items-words f _ h.0 (items-words a ws h.1 q)) refl)
items-words (con t xs) ws {is} h q =
    items-word constructor_kind (pack t (count xs)) _ (omega arith) (items-words xs ws h.1 q)
    (rw (tag_of-pack t (count xs) h.0, count_of-pack t (count xs) h.0, take_terms_onto xs is))
items-words (case e bs) ws {is} h q =
    rw append_assoc (items-word case_kind (count bs) _ (omega arith) (items-words e _ h.1 (items-words bs ws h.2 q)) (rw (take_branches_onto bs is)))
items-words (num n) ws h q = items-word numeral_kind n ws (omega arith) q refl
items-words nil ws h q = q
items-words (cons a xs) ws h q = rw append_assoc (items-words a _ h.0 (items-words xs ws h.1 q))
items-words end ws h q = q
items-words (branch t n b bs) ws h q =
    rw append_assoc (items-word branch_kind (pack t n) _ (omega arith) (items-words b _ h.1 (items-words bs ws h.2 q))
    (rw (tag_of-pack t n h.0, count_of-pack t n h.0)))

pub items-all : {s : Sort} (e : Exp s) → Packable e → items (words e) ≡ some (items_onto e [])
unfolding items
items-all e h = ap items (sym (append-nil (words e))) ∙ items-words e [] h refl

pub any-term : (t : Term) → Packable t → any_term (words t) ≡ some t
unfolding any_term only_term bind
any-term t h = rw (items-all t h)

pub words_injective : (t u : Term) → Packable t → Packable u → words t ≡ words u → t ≡ u
words_injective t u h g q = cc (items-all t h, items-all u g)

pub read-words : (t : Term) → Accepted 0 t → read (words t) ≡ some t
unfolding read one_term bind
read-words t h = rw (items-all t (accepted_packable 0 t h)) (if_pos (accepted? 0 t) h (some t) none)

-- The words of items, one after the other.
abbrev items_words : List Item → List ℕ
items_words [] = []
items_words (whole t ∷ is) = words t ++ items_words is
items_words (arm t n b ∷ is) = word branch_kind (pack t n) ∷ (words b ++ items_words is)

-- An expression and the items after it, taken from the front of these items: their words are its words and then those of the rest.
abbrev Taken : {s : Sort} → List Item → Exp s × List Item → Type 0
Taken is r = items_words is ≡ words r.0 ++ items_words r.1

take_term_taken : (is : List Item) → All (Taken is) (take_term is)
unfolding take_term
take_term_taken [] = nothing
take_term_taken (whole t ∷ is) = holds refl
take_term_taken (arm t n b ∷ is) = nothing

take_terms_taken : (n : ℕ) (is : List Item) → All (λ r. (count r.0 ≡ n) × Taken is r) (take_terms n is)
unfolding take_terms
take_terms_taken zero is = holds (refl, refl)
take_terms_taken (suc n) [] = nothing
take_terms_taken (suc n) (whole t ∷ is) = all_map _ (take_terms_taken n is) (λ r h. (ap suc h.0, rw (append_assoc, h.1)))
take_terms_taken (suc n) (arm t m b ∷ is) = nothing

take_branches_taken : (n : ℕ) (is : List Item) → All (λ r. (count r.0 ≡ n) × Taken is r) (take_branches n is)
unfolding take_branches
take_branches_taken zero is = holds (refl, refl)
take_branches_taken (suc n) [] = nothing
take_branches_taken (suc n) (whole t ∷ is) = nothing
take_branches_taken (suc n) (arm t m b ∷ is) = all_map _ (take_branches_taken n is) (λ r h. (ap suc h.0, rw (append_assoc, h.1)))

-- The items js have the words of the items is, and in front the word of kind k and payload p.
abbrev WordOnto : (k p : ℕ) → List Item → List Item → Type 0
WordOnto k p is js = items_words js ≡ word k p ∷ items_words is

read_lam_onto : (p : ℕ) (is : List Item) → All (WordOnto abstraction_kind p is) (read_lam p is)
unfolding read_lam
read_lam_onto p is = all-eqb p 0 (λ z. all_map _ (take_term_taken is) (λ b h. cc)) nothing

read_app_onto : (p : ℕ) (is : List Item) → All (WordOnto application_kind p is) (read_app p is)
unfolding read_app
read_app_onto p is =
    all-eqb p 0
    (λ z. all-bind _ (take_term_taken is) (λ f h. all_map _ (take_term_taken f.1) (λ a g. rw append_assoc (cc))))
    nothing

read_con_onto : (p : ℕ) (is : List Item) → All (WordOnto constructor_kind p is) (read_con p is)
unfolding read_con
read_con_onto p is = all_map _ (take_terms_taken (count_of p) is) (λ xs h. cc (pack_of_parts p))

read_case_onto : (p : ℕ) (is : List Item) → All (WordOnto case_kind p is) (read_case p is)
unfolding read_case
read_case_onto p is = all-bind _ (take_term_taken is) (λ e h. all_map _ (take_branches_taken p e.1) (λ bs g. rw append_assoc (cc)))

read_branch_onto : (p : ℕ) (is : List Item) → All (WordOnto branch_kind p is) (read_branch p is)
unfolding read_branch
read_branch_onto p is = all_map _ (take_term_taken is) (λ b h. cc (pack_of_parts p))

item_onto : (k p : ℕ) (is : List Item) → All (WordOnto k p is) (item k p is)
unfolding item
item_onto k p is =
    all-eqb k variable_kind (λ e. rw e (holds refl))
    (all-eqb k abstraction_kind (λ e. rw e (read_lam_onto p is))
    (all-eqb k application_kind (λ e. rw e (read_app_onto p is))
    (all-eqb k constructor_kind (λ e. rw e (read_con_onto p is))
    (all-eqb k case_kind (λ e. rw e (read_case_onto p is))
    (all-eqb k branch_kind (λ e. rw e (read_branch_onto p is))
    (all-eqb k numeral_kind (λ e. rw e (holds refl))
    nothing))))))

items_sound : (ws : List ℕ) → All (λ is. items_words is ≡ ws) (items ws)
unfolding items
items_sound [] = holds refl
items_sound (w ∷ ws) =
    all-bind _ (items_sound ws) (λ is h. all_weaken (item_onto (kind_of w) (payload_of w) is) (λ js g. cc (word_of_parts w)))

one_term_sound : (is : List Item) → All (λ t. (items_words is ≡ words t) × Accepted 0 t) (one_term is)
unfolding one_term
one_term_sound [] = nothing
one_term_sound (whole t ∷ []) = all_ite (accepted? 0 t) t (λ h. (append-nil (words t), h))
one_term_sound (whole t ∷ i ∷ is) = nothing
one_term_sound (arm t n b ∷ is) = nothing

read_all : (ws : List ℕ) → All (λ t. (words t ≡ ws) × Accepted 0 t) (read ws)
unfolding read
read_all ws = all-bind _ (items_sound ws) (λ is h. all_weaken (one_term_sound is) (λ t g. (cc, g.1)))

pub read_sound : (ws : List ℕ) {t : Term} → read ws ≡ some t → words t ≡ ws
read_sound ws q = (all_some (rw q at (read_all ws))).0

pub read_accepted : (ws : List ℕ) {t : Term} → read ws ≡ some t → Accepted 0 t
read_accepted ws q = (all_some (rw q at (read_all ws))).1

pub read_exact : ReadExact
read_exact ws t = (λ q. (read_sound ws q, read_accepted ws q), λ h. ap read (sym h.0) ∙ read-words t h.1)
