-- Abstract rewriting: the closures of any relation, and the Church-Rosser property by a parallel relation with complete developments.
use mathlib.Core.Path.{◌≡◌, refl, sym, ◌∙◌, subst}
use mathlib.Core.List.{List, [], ◌∷◌}
use mathlib.Core.Logic.{◌⊎◌, inl, inr, ⊎_swap}
use Rattle.calculus.specs.Relation.{Star, stop, step, Chain, alone, link, NormalForm}
use Rattle.calculus.specs.Theorems.{Along}

-- Steps followed by steps.
pub star-append : {A : Type 0} {R : A → A → Type 0} {a b c : A} → Star R a b → Star R b c → Star R a c
star-append stop s = s
star-append (step r q) s = step r (star-append q s)

-- A function that keeps each step keeps any number of them.
pub star-map : {A B : Type 0} {R : A → A → Type 0} {S : B → B → Type 0} (f : A → B) → ((a b : A) → R a b → S (f a) (f b)) → {a b : A} → Star R a b
    → Star S (f a) (f b)
star-map f h stop = stop
star-map f h (step {a = a} {b = b} r s) = step (h a b r) (star-map f h s)

-- A sequence of steps is a chain, chains follow each other, and a chain goes both ways.
pub chain_of_star : {A : Type 0} {R : A → A → Type 0} {a b : A} → Star R a b → Chain R a b
chain_of_star stop = alone
chain_of_star (step r s) = link (inl r) (chain_of_star s)

pub chain-append : {A : Type 0} {R : A → A → Type 0} {a b c : A} → Chain R a b → Chain R b c → Chain R a c
chain-append alone k = k
chain-append (link l j) k = link l (chain-append j k)

pub chain_reverse : {A : Type 0} {R : A → A → Type 0} {a b : A} → Chain R a b → Chain R b a
chain_reverse alone = alone
chain_reverse (link l k) = chain-append (chain_reverse k) (link (⊎_swap l) alone)

-- Reducts of joined elements are joined.
pub reducts_joined : {A : Type 0} {R : A → A → Type 0} {a a' b b' : A} → Star R a a' → Star R b b' → Chain R a b → Chain R a' b'
reducts_joined p q l = chain-append (chain_reverse (chain_of_star p)) (chain-append l (chain_of_star q))

-- Steps as a list, and links of a chain as a list.
pub star_along : {A : Type 0} {R : A → A → Type 0} {a b : A} → Star R a b → (cs : List A) × Along R a cs b
star_along stop = ([], refl)
star_along (step {b = c} r s) = let (cs, h) = star_along s in (c ∷ cs, (r, h))

pub along_star : {A : Type 0} {R : A → A → Type 0} {b : A} (a : A) (cs : List A) → Along R a cs b → Star R a b
along_star {R = R} a [] h = subst (Star R a) h stop
along_star a (c ∷ cs) h = step h.0 (along_star c cs h.1)

pub chain_along : {A : Type 0} {R : A → A → Type 0} {a b : A} → Chain R a b → (cs : List A) × Along (λ a b. R a b ⊎ R b a) a cs b
chain_along alone = ([], refl)
chain_along (link {b = c} l k) = let (cs, h) = chain_along k in (c ∷ cs, (l, h))

pub along_chain : {A : Type 0} {R : A → A → Type 0} {b : A} (a : A) (cs : List A) → Along (λ a b. R a b ⊎ R b a) a cs b → Chain R a b
along_chain {R = R} a [] h = subst (Chain R a) h alone
along_chain a (c ∷ cs) h = link h.0 (along_chain c cs h.1)

-- Both lead to one element.
abbrev pub Meet : {A : Type 0} → (A → A → Type 0) → A → A → Type 0
Meet {A} R a b = (c : A) × Star R a c × Star R b c

-- A normal element leads only to itself.
pub normal_stays : {A : Type 0} {R : A → A → Type 0} {a b : A} → NormalForm R a → Star R a b → a ≡ b
normal_stays n stop = refl
normal_stays n (step {b = b} r s) = absurd (n b r)

-- Elements that lead to one are joined.
pub meet_joined : {A : Type 0} {R : A → A → Type 0} {a b : A} → Meet R a b → Chain R a b
meet_joined (c, p, q) = chain-append (chain_of_star p) (chain_reverse (chain_of_star q))

pub meeting_normal_equal : {A : Type 0} {R : A → A → Type 0} {a b : A} → Meet R a b → NormalForm R a → NormalForm R b → a ≡ b
meeting_normal_equal (c, p, q) n m = normal_stays n p ∙ sym (normal_stays m q)

-- A parallel relation P for R: it has every step of R, steps of R do what one of its steps does, and whatever its steps make of an element, one
-- more of its steps makes the element's complete development.
module _
    {A : Type 0}
    (R P : A → A → Type 0)
    (develop : A → A)
    (parallel : (a b : A) → R a b → P a b)
    (sequential : (a b : A) → P a b → Star R a b)
    (triangle : (a b : A) → P a b → P b (develop a))
  where
    -- The strip lemma: one parallel step and any steps from one element meet.
    strip : {a b c : A} → P a b → Star R a c → (d : A) × Star R b d × P c d
    strip {b = b} p stop = (b, stop, p)
    strip {b = b} p (step {a = a} {b = a'} r s) =
        let (d, q, p') = strip (triangle a a' (parallel a a' r)) s in
        (d, star-append (sequential b (develop a) (triangle a b p)) q, p')

    -- The Church-Rosser property.
    pub joined_meet : {a b : A} → Chain R a b → Meet R a b
    joined_meet {a} alone = (a, stop, stop)
    joined_meet (link (inl r) l) = let (d, p, q) = joined_meet l in (d, step r p, q)
    joined_meet (link {a = a} {b = b} (inr r) l) =
        let (d, p, q) = joined_meet l in
        let (d', p', r') = strip (parallel b a r) p in
        (d', p', star-append q (sequential d d' r'))
