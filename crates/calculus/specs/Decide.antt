-- What is asked of every word of an expression is decidable if each question is, and so acceptance is, computed. The types say all that is decided;
-- nothing else here needs to be read.
use Rattle.std.specs.Prelude.{ℕ, ◌+◌, ◌≡◌, refl, Bool, true, false, ◌⊎◌}
use Rattle.std.proofs.lemmas.Bool.{false≢true}
use Rattle.std.proofs.Math.Logic.Dec
use Rattle.std.proofs.Common.{inl, inr, ⊎_elim}
use Rattle.std.proofs.Math.Decide.{dec_le, dec_lt}
use Rattle.calculus.specs.Term.{Sort, Exp, var, lam, app, con, case, num, nil, cons, end, branch, Branches, count, is_default}
use Rattle.calculus.specs.Everywhere.{Asked, Everywhere}
use Rattle.calculus.specs.Accepted.{tag_limit, argument_limit, branch_limit, free_limit, numeral_limit, IsTag, StartsAbove, Rising, Tagged, Pattern, scope, Scoped, acceptance, Accepted}

unfoldable pub both₃ : {A B C : Type 0} → Dec A → Dec B → Dec C → Dec (A × B × C)
both₃ (yes a) (yes b) (yes c) = yes (a, b, c)
both₃ (yes a) (yes b) (no c) = no (λ p. c p.2)
both₃ (yes a) (no b) c = no (λ p. b p.1)
both₃ (no a) b c = no (λ p. a p.0)

abbrev pub either? : {A B : Type 0} → Dec A → Dec B → Dec (A ⊎ B)
either? (yes a) d = yes (inl a)
either? (no a) (yes b) = yes (inr b)
either? (no a) (no b) = no (⊎_elim a b)

abbrev pub is_true? : (b : Bool) → Dec (b ≡ true)
is_true? true = yes refl
is_true? false = no false≢true

unfoldable pub is_tag? : (t : ℕ) → Dec (IsTag t)
unfolding Dec.and
is_tag? t = Dec.and (dec_le 1 t) (dec_le t tag_limit)

unfoldable pub starts_above? : (t : ℕ) (bs : Branches) → Dec (StartsAbove t bs)
starts_above? t end = yes tt
starts_above? t (branch u n b bs) = dec_lt t u

unfoldable pub rising? : (bs : Branches) → Dec (Rising bs)
rising? end = yes tt
rising? (branch t n b bs) = Dec.and (starts_above? t bs) (rising? bs)

-- How each question of `P` is decided.
pub record Deciders {Place : Type 0} (P : Asked Place) : Type 0 where
  pub of_variable? : (d : Place) (i : ℕ) → Dec (P.of_variable d i)
  pub of_constructor? : (t n : ℕ) → Dec (P.of_constructor t n)
  pub of_case? : (bs : Branches) → Dec (P.of_case bs)
  pub of_branch? : (t n : ℕ) → Dec (P.of_branch t n)
  pub of_numeral? : (n : ℕ) → Dec (P.of_numeral n)

unfoldable pub everywhere? : {Place : Type 0} {P : Asked Place} {s : Sort} → Deciders P → (d : Place) (e : Exp s) → Dec (Everywhere P d e)
everywhere? D d (var i) = D.of_variable? d i
everywhere? {P = P} D d (lam b) = everywhere? D (P.places.under_abstraction d) b
everywhere? D d (app f a) = Dec.and (everywhere? D d f) (everywhere? D d a)
everywhere? D d (con t xs) = Dec.and (D.of_constructor? t (count xs)) (everywhere? D d xs)
everywhere? D d (case e bs) = both₃ (D.of_case? bs) (everywhere? D d e) (everywhere? D d bs)
everywhere? D d (num n) = D.of_numeral? n
everywhere? D d nil = yes tt
everywhere? D d (cons a xs) = Dec.and (everywhere? D d a) (everywhere? D d xs)
everywhere? D d end = yes tt
everywhere? {P = P} D d (branch t n b bs) = both₃ (D.of_branch? t n) (everywhere? D (P.places.under_branch d n) b) (everywhere? D d bs)

unfoldable pub tagged? : (t n : ℕ) → Dec (Tagged t n)
tagged? t n = Dec.and (is_tag? t) (dec_le n argument_limit)

abbrev pub pattern? : (t n : ℕ) → Dec (Pattern t n)
pattern? t n = either? (is_true? (is_default t n)) (tagged? t n)

unfoldable pub scoped? : {s : Sort} (d : ℕ) (e : Exp s) → Dec (Scoped d e)
scoped? d e =
    everywhere? {P = scope}
    (record {
      of_variable? = λ d i. dec_le i (d + free_limit);
      of_constructor? = λ t n. yes tt;
      of_case? = λ bs. yes tt;
      of_branch? = λ t n. yes tt;
      of_numeral? = λ n. yes tt;
    })
    d e

unfoldable pub accepted? : {s : Sort} (d : ℕ) (e : Exp s) → Dec (Accepted d e)
accepted? d e =
    everywhere? {P = acceptance}
    (record {
      of_variable? = λ d i. dec_le i (d + free_limit);
      of_constructor? = tagged?;
      of_case? = λ bs. Dec.and (dec_le (count bs) branch_limit) (rising? bs);
      of_branch? = pattern?;
      of_numeral? = λ n. dec_le n numeral_limit;
    })
    d e
