-- What the case rule selects among branches whose tags rise: `select` is exact.
use Prim.Native.Nat.{ℕ, ◌<◌}
use mathlib.Core.Path.{◌≡◌, refl, sym, ◌∙◌}
use mathlib.Core.Bool.{Bool, true, false, cond}
use mathlib.Core.Logic.{◌⊎◌, inl, inr}
use mathlib.Core.Option.{Option, some, none, some-ne-none, some_inj}
use native.Mathlib.Omega.{arith}
use lib.Dec.{eqb}
use borrow.Author.Tests.{eqb-true, eqb-false, eq-eqb, ne_eqb}
use Rattle.calculus.specs.Term.{Term, Terms, Branches, end, branch, count, is_default}
use Rattle.calculus.specs.Accepted.{StartsAbove, Rising}
use Rattle.calculus.specs.Substitution.{subst}
use Rattle.calculus.specs.Contraction.{default, listed, select}
use Rattle.calculus.specs.Theorems.{Has, SelectExact}
use Rattle.calculus.proofs.DefaultLaws.{default_is, default_told, default_not, not_default}

-- These are not the default's.
abbrev Other : (t n : ℕ) → Type 0
Other t n = (t ≡ 0) × (n ≡ 0) → ⊥

-- No other branch than the default has the tag.
abbrev Unlisted : ℕ → Branches → Type 0
Unlisted t bs = (n : ℕ) (b : Term) → Has t n b bs → (t ≡ 0) × (n ≡ 0)

-- Tags further on are larger.
above : {t : ℕ} (u n : ℕ) (b : Term) (bs : Branches) → StartsAbove t bs → Rising bs → Has u n b bs → t < u
above u n b end s r h = absurd h
above u n b (branch w m c bs) s r (inl h) = omega (arith, h.0)
above u n b (branch w m c bs) s r (inr h) = let k = above u n b bs r.0 r.1 h in omega arith

has_default : (u : Term) (bs : Branches) → Rising bs → Has 0 0 u bs → default bs ≡ some u
has_default u end r h = absurd h
has_default u (branch t n b bs) r (inl h) = rw (default_told t n (sym h.0) (sym h.1), h.2)
has_default u (branch t n b bs) r (inr h) = let k = above 0 0 u bs r.0 r.1 h in absurd (omega arith)

default_has : (u : Term) (bs : Branches) → default bs ≡ some u → Has 0 0 u bs
default_has u end e = absurd (some-ne-none u (sym e))
default_has u (branch t n b bs) e = go (is_default t n) refl (default_has u bs) e
  where
    go : (q : Bool) → is_default t n ≡ q → (default bs ≡ some u → Has 0 0 u bs) → cond q (some b) (default bs) ≡ some u → Has 0 0 u (branch t n b bs)
    go true h later e = let z = default_is t n h in inl (sym z.0, sym z.1, sym (some_inj.0 e))
    go false h later e = inr (later e)

module _ (rest : Option Term) (t : ℕ) (xs : Terms) where
  -- A branch of the tag decides by its bound count.
  has_listed : (n : ℕ) (b : Term) (bs : Branches) → Rising bs → Other t n → Has t n b bs
      → listed rest t xs bs ≡ cond (eqb (count xs) n) (some (subst xs 0 b)) none
  has_listed n b end r o h = absurd h
  has_listed n b (branch u m c bs) r o (inl h) =
      rw (← h.0, ← h.1, default_not t n o, eq-eqb t t refl, h.2)
  has_listed n b (branch u m c bs) r o (inr h) =
      let k = above t n b bs r.0 r.1 h in
      rw (ne_eqb t u (λ e. omega arith), has_listed n b bs r.1 o h) (same (is_default u m))
    where
      same : {A : Type 0} {x : A} (q : Bool) → cond q x x ≡ x
      same true = refl
      same false = refl

  unlisted : (bs : Branches) → Unlisted t bs → listed rest t xs bs ≡ rest
  unlisted end h = refl
  unlisted (branch u m c bs) h = rw (unlisted bs (λ n b k. h n b (inr k))) (go (is_default u m) (eqb t u) refl refl)
    where
      go : (q tag : Bool) → is_default u m ≡ q → eqb t u ≡ tag → cond q rest (cond tag (cond (eqb (count xs) m) (some (subst xs 0 c)) none) rest) ≡ rest
      go true tag d e = refl
      go false false d e = refl
      go false true d e =
          let k = eqb-true t u e in
          let z = h m c (inl (k, refl, refl)) in
          absurd (not_default u m d (sym k ∙ z.0, z.1))

-- Another branch than the default has the tag, or none does.
abbrev Found : ℕ → Branches → Type 0
Found t bs = ((n : ℕ) × (b : Term) × Has t n b bs × Other t n) ⊎ Unlisted t bs

find : (t : ℕ) (bs : Branches) → Found t bs
find t end = inr (λ n b h. absurd h)
find t (branch u m c bs) = go (eqb t u) (is_default u m) refl refl (find t bs)
  where
    front : (t ≡ u → (t ≡ 0) × (m ≡ 0)) → Unlisted t bs → Unlisted t (branch u m c bs)
    front f h n b (inl k) = let z = f k.0 in (z.0, k.1 ∙ z.1)
    front f h n b (inr k) = h n b k

    further : (n : ℕ) × (b : Term) × Has t n b bs × Other t n → Found t (branch u m c bs)
    further f = inl (f.0, f.1, inr f.2, f.3)

    go : (tag q : Bool) → eqb t u ≡ tag → is_default u m ≡ q → Found t bs → Found t (branch u m c bs)
    go true false e d f = let k = eqb-true t u e in inl (m, c, inl (k, refl, refl), rw k (not_default u m d))
    go true true e d (inl f) = further f
    go true true e d (inr f) = inr (front (λ k. let z = default_is u m d in (k ∙ z.0, z.1)) f)
    go false q e d (inl f) = further f
    go false q e d (inr f) = inr (front (λ k. absurd (eqb-false t u e k)) f)

module _ (t : ℕ) (xs : Terms) (bs : Branches) (u : Term) (r : Rising bs) where
  abbrev Takes : Type 0
  Takes = ((b : Term) × Has t (count xs) b bs × Other t (count xs) × (u ≡ subst xs 0 b)) ⊎ (Unlisted t bs × Has 0 0 u bs)

  by_count : (n : ℕ) (b : Term) → Has t n b bs → Other t n → (q : Bool) → eqb (count xs) n ≡ q → cond q (some (subst xs 0 b)) none ≡ some u → Takes
  by_count n b h o true e k = let c = eqb-true (count xs) n e in inl (b, rw c h, rw c o, sym (some_inj.0 k))
  by_count n b h o false e k = absurd (some-ne-none u (sym k))

  taken : Found t bs → select t xs bs ≡ some u → Takes
  taken (inl f) e = by_count f.0 f.1 f.2 f.3 (eqb (count xs) f.0) refl (sym (has_listed (default bs) t xs f.0 f.1 bs r f.3 f.2) ∙ e)
  taken (inr f) e = inr (f, default_has u bs (sym (unlisted (default bs) t xs bs f) ∙ e))

  takes : Takes → select t xs bs ≡ some u
  takes (inl f) = rw (has_listed (default bs) t xs (count xs) f.0 bs r f.2 f.1, eq-eqb (count xs) (count xs) refl, f.3)
  takes (inr f) = unlisted (default bs) t xs bs f.0 ∙ has_default u bs r f.1

pub select_exact : SelectExact
select_exact t xs bs u r = (taken t xs bs u r (find t bs), takes t xs bs u r)
