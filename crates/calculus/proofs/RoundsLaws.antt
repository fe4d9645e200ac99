-- Rounds by any question: a round that goes on and one that ends, and walks of rounds that go on, by which budgets add up.
use Prim.Native.Nat.{ℕ, zero, suc, ◌+◌, ◌-◌, ◌≤◌}
use mathlib.Core.Path.{◌≡◌, refl, sym, ◌∙◌, ap}
use mathlib.Core.Bool.{Bool, true, false, cond}
use mathlib.Core.Option.{Option, some, none, map, get_or}
use native.Mathlib.Nat.{zero-add, add_assoc, le_trans}
use native.Mathlib.Omega.{arith}
use lib.Dec.{ltb, eqb}
use borrow.Author.Tests.{ltb-false, le-ltb, eqb-false, ne_eqb}
use Rattle.calculus.specs.Term.{Term}
use Rattle.calculus.specs.Words.{size}
use Rattle.calculus.specs.Leftmost.{leftmost}
use Rattle.calculus.specs.Rounds.{Verdict, Different, Budget, Full, Outcome, contractions, longest, Round, ends, goes, round, next, next_length, Question, round_by, ended, after, rounds_in, rounds_by}

pub ends≢goes : {v : Verdict} {p : ℕ} → ends v ≡ goes p → ⊥
ends≢goes e = let z : ◌≡◌ {A = ℕ} 0 1 = cc in omega arith

-- A round that goes on: nothing was answered at once, a side moves, the budget covers the contractions, and the next terms fit.
pub record Goes (at_once : Option Verdict) (C rest : ℕ) (l r : Option ℕ) (p : ℕ) : Type 0 where
  pub undecided : at_once ≡ none
  pub made : p ≡ contractions l + contractions r
  pub moves : 1 ≤ p
  pub covered : p ≤ rest
  pub fits : longest l r ≤ C

pub goes_on : (a : Option Verdict) (C rest : ℕ) (l r : Option ℕ) {p : ℕ} → round a C rest l r ≡ goes p → Goes a C rest l r p
goes_on (some v) C rest l r e = absurd (ends≢goes e)
goes_on none C rest l r {p} e = by (contractions l + contractions r) refl _ _ _ refl refl refl e
  where
    by : (k : ℕ) → k ≡ contractions l + contractions r → (x y z : Bool) → eqb k 0 ≡ x → ltb rest k ≡ y → ltb C (longest l r) ≡ z
        → cond x (ends Different) (cond y (ends Budget) (cond z (ends Full) (goes k))) ≡ goes p → Goes none C rest l r p
    by k s true y z f g h e = absurd (ends≢goes e)
    by k s false true z f g h e = absurd (ends≢goes e)
    by k s false false true f g h e = absurd (ends≢goes e)
    by k s false false false f g h e =
        let made : p ≡ k = cc in
        let some-move = eqb-false k 0 f in
        record {
          undecided = refl;
          made = made ∙ s;
          moves = omega arith;
          covered = omega (arith, ltb-false rest k g);
          fits = ltb-false C (longest l r) h;
        }

pub goes_made : {a : Option Verdict} {C rest : ℕ} {l r : Option ℕ} {p : ℕ} → Goes a C rest l r p → round a C rest l r ≡ goes p
goes_made {C = C} {rest = rest} {l = l} {r = r} h =
    let moves : contractions l + contractions r ≡ 0 → ⊥ = λ e. omega (arith, h.made, h.moves) in
    let covered : contractions l + contractions r ≤ rest = omega (arith, h.made, h.covered) in
    rw (
      h.undecided,
      ne_eqb (contractions l + contractions r) 0 moves,
      le-ltb rest (contractions l + contractions r) covered,
      le-ltb C (longest l r) h.fits,
    ) (ap goes (sym h.made))

-- A longer workspace and another budget that covers it let it go on too.
pub goes_wider : {a : Option Verdict} {C C' rest rest' : ℕ} {l r : Option ℕ} {p : ℕ} → C ≤ C' → p ≤ rest' → Goes a C rest l r p → Goes a C' rest' l r p
goes_wider c b h = record { undecided = h.undecided; made = h.made; moves = h.moves; covered = b; fits = le_trans h.fits c }

-- Rounds by what the first of them comes to.
abbrev pub resume : (t u : Term) → (ℕ → Outcome) → Round → Outcome
resume t u f x = elim x [ ends v ↦ ended v t u | goes p ↦ f p ]

resumed : (t u : Term) (f g : ℕ → Outcome) (x : Round) → ((p : ℕ) → x ≡ goes p → f p ≡ g p) → resume t u f x ≡ resume t u g x
resumed t u f g (ends v) h = refl
resumed t u f g (goes p) h = h p refl

abbrev pub spending : Outcome → ℕ → Outcome
spending o s = record { verdict = o.verdict; spent = s; left = o.left; right = o.right }

pub after_zero : (o : Outcome) → after 0 o ≡ o
after_zero o = ap (spending o) (zero-add o.spent)

pub after-after : (p n : ℕ) (o : Outcome) → after p (after n o) ≡ after (p + n) o
after-after p n o = ap (spending o) (sym (add_assoc p n o.spent))

-- What a side's next term is.
pub next_is : (t : Term) {u : Term} → leftmost t ≡ some u → next t ≡ u
next_is t e = ap (λ o. get_or o t) e

pub next_normal : (t : Term) → leftmost t ≡ none → next t ≡ t
next_normal t e = ap (λ o. get_or o t) e

module _ (early : Question) where
  -- A round on two terms that goes on, with just enough left of the budget.
  abbrev pub Moves : (C p : ℕ) → Term → Term → Type 0
  Moves C p t u = Goes (early t u) C p (next_length t) (next_length u) p

  goes_from : (C rest : ℕ) (t u : Term) {p : ℕ} → round_by early C rest t u ≡ goes p → Goes (early t u) C rest (next_length t) (next_length u) p
  goes_from C rest t u e = goes_on (early t u) C rest (next_length t) (next_length u) e

  -- As many rounds as there is budget are enough.
  enough : (n n' C rest : ℕ) (t u : Term) → rest ≤ n → rest ≤ n' → rounds_in early n C rest t u ≡ rounds_in early n' C rest t u
  unfolding rounds_in
  enough zero zero C rest t u h k = refl
  enough zero (suc n') C rest t u h k =
      resumed t u _ _ (round_by early C rest t u) (λ p e. let g = goes_from C rest t u e in absurd (omega (arith, g.moves, g.covered)))
  enough (suc n) zero C rest t u h k =
      resumed t u _ _ (round_by early C rest t u) (λ p e. let g = goes_from C rest t u e in absurd (omega (arith, g.moves, g.covered)))
  enough (suc n) (suc n') C rest t u h k =
      resumed t u _ _ (round_by early C rest t u) (λ p e. let g = goes_from C rest t u e in
      ap (after p) (enough n n' C (rest - p) (next t) (next u) (omega (arith, g.moves)) (omega (arith, g.moves))))

  pub rounds-end : (C b : ℕ) (t u : Term) {v : Verdict} → round_by early C b t u ≡ ends v → rounds_by early C b t u ≡ ended v t u
  unfolding rounds_by rounds_in
  rounds-end C zero t u e = ap (resume t u _) e
  rounds-end C (suc b) t u e = ap (resume t u _) e

  pub rounds_go : {C p : ℕ} {t u : Term} → Moves C p t u → (b : ℕ) → rounds_by early C (p + b) t u ≡ after p (rounds_by early C b (next t) (next u))
  unfolding rounds_by rounds_in
  rounds_go {C} {p} {t} {u} m b = by (p + b) refl
    where
      by : (n : ℕ) → n ≡ p + b → rounds_in early n C n t u ≡ after p (rounds_in early b C b (next t) (next u))
      by zero e = absurd (omega (arith, m.moves))
      by (suc n) e =
          let rest : suc n - p ≡ b = omega arith in
          ap (resume t u _) (goes_made (goes_wider {C' = C} {rest' = suc n} (omega arith) (omega arith) m))
          ∙ ap (after p) (enough n b C (suc n - p) (next t) (next u) (omega (arith, m.moves)) (omega arith) ∙ ap (λ k. rounds_in early b C k (next t) (next u)) rest)

  -- Rounds that go on, one after the other, and the sum of their contractions.
  pub data Walk (C : ℕ) : (spent : ℕ) (t u t' u' : Term) → Type 0 where
    here : {t u : Term} → Walk C 0 t u t u
    further : {p n : ℕ} {t u t' u' : Term} → Moves C p t u → Walk C n (next t) (next u) t' u' → Walk C (p + n) t u t' u'

  -- Rounds whose budget is what a walk spends plus b make the walk, and then the rounds with b.
  pub rounds_walk : {C s : ℕ} {t u t' u' : Term} → Walk C s t u t' u' → (b : ℕ) → rounds_by early C (s + b) t u ≡ after s (rounds_by early C b t' u')
  rounds_walk {C} {t = t} {u = u} here b = ap (λ n. rounds_by early C n t u) (zero-add b) ∙ sym (after_zero (rounds_by early C b t u))
  rounds_walk {C} (further {p = p} {n = n} m w) b = rw (add_assoc p n b) (rounds_go m (n + b) ∙ ap (after p) (rounds_walk w b) ∙ after-after p n _)

  -- Rounds make a walk to where they end.
  abbrev WalksTo : (C : ℕ) (t u : Term) → Outcome → Type 0
  WalksTo C t u o = Walk C o.spent t u o.left o.right

  walks_resume : {C : ℕ} {t u : Term} (f : ℕ → Outcome) (x : Round) → ((p : ℕ) → x ≡ goes p → WalksTo C t u (f p)) → WalksTo C t u (resume t u f x)
  walks_resume f (ends v) h = here
  walks_resume f (goes p) h = h p refl

  walks : (n C rest : ℕ) (t u : Term) → WalksTo C t u (rounds_in early n C rest t u)
  unfolding rounds_in
  walks zero C rest t u = walks_resume _ (round_by early C rest t u) (λ p e. here)
  walks (suc n) C rest t u =
      walks_resume _ (round_by early C rest t u) (λ p e.
      further (goes_wider {C' = C} {rest' = p} (omega arith) (omega arith) (goes_from C rest t u e)) (walks n C (rest - p) (next t) (next u)))

  pub walked : (C b : ℕ) (t u : Term) → (let o = rounds_by early C b t u in Walk C o.spent t u o.left o.right)
  unfolding rounds_by
  walked C b t u = walks b C b t u

  -- Budgets add up: rounds from where rounds stopped end where one go ends whose budget is what was spent plus the further budget.
  pub rounds-add : (C B b : ℕ) (t u : Term)
      → rounds_by early C ((rounds_by early C B t u).spent + b) t u
      ≡ after (rounds_by early C B t u).spent (rounds_by early C b (rounds_by early C B t u).left (rounds_by early C B t u).right)
  rounds-add C B b t u = rounds_walk (walked C B t u) b

  -- What a leftmost contraction to a term of at most C words keeps, a walk keeps on each side.
  module _ {C : ℕ} {P : Term → Type 0} (keeps : (t t' : Term) → leftmost t ≡ some t' → size t' ≤ C → P t → P t') where
    next_keeps : (t : Term) → get_or (next_length t) 0 ≤ C → P t → P (next t)
    next_keeps t fits h = by (leftmost t) refl fits
      where
        by : (o : Option Term) → leftmost t ≡ o → get_or (map size o) 0 ≤ C → P (get_or o t)
        by none e f = h
        by (some t') e f = keeps t t' e f h

    pub walk_keeps : {s : ℕ} {t u t' u' : Term} → Walk C s t u t' u' → (P t → P t') × (P u → P u')
    walk_keeps here = (λ h. h, λ h. h)
    walk_keeps (further {t = t} {u = u} m w) =
        let (f, g) = walk_keeps w in
        (λ h. f (next_keeps t (omega (arith, m.fits)) h), λ h. g (next_keeps u (omega (arith, m.fits)) h))

  pub walk_fits : {C s : ℕ} {t u t' u' : Term} → Walk C s t u t' u' → (size t ≤ C → size t' ≤ C) × (size u ≤ C → size u' ≤ C)
  walk_fits {C} w = walk_keeps {P = λ t. size t ≤ C} (λ t t' e f h. f) w
