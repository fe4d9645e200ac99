-- The entries of a table by one test over it, which is computed: each entry is read by the word rules, and what is read is its numeral and closed.
use Prim.Native.Nat.{ℕ, zero, suc, ◌+◌, ◌*◌, ◌≤◌}
use mathlib.Core.Path.{◌≡◌, refl, sym, ◌∙◌, ap, subst}
use mathlib.Core.Bool.{Bool, true, false, ◌&&◌, false≢true, and-eq-true_iff}
use mathlib.Core.List.{List}
use mathlib.Core.Option.{Option, some, none}
use native.Mathlib.Decide.{dec_lt}
use native.Mathlib.Nat.{mul-suc, mul-le-mul}
use native.Mathlib.Omega.{arith}
use lib.Dec.{eqb}
use lib.ListN.{length}
use lib.Seq.{slice}
use borrow.Author.Tests.{eqb-true, eqb-false}
use Rattle.calculus.specs.Term.{Term}
use Rattle.calculus.specs.Words.{library_words, words}
use Rattle.calculus.specs.Accepted.{numeral_limit}
use Rattle.calculus.specs.Decide.{everywhere?}
use Rattle.calculus.specs.Read.{read}
use Rattle.calculus.specs.Equality.{equal?}
use Rattle.calculus.specs.Numeral.{numeral}
use Rattle.calculus.specs.Theorems.{closed, Closed}
use Rattle.calculus.proofs.ReadLaws.{read_sound}
use Rattle.library.specs.Entries.{entry_at, entry_end, entry, Entry, Entries}

unfoldable pub closed? : (t : Term) → Dec (Closed t)
closed? t =
    everywhere? {P = closed}
    (record {
      of_variable? = λ d i. dec_lt i d;
      of_constructor? = λ t n. yes tt;
      of_case? = λ bs. yes tt;
      of_branch? = λ t n. yes tt;
      of_numeral? = λ n. yes tt;
    })
    0 t

abbrev pub holds? : {A : Type 0} → Dec A → Bool
holds? (yes a) = true
holds? (no f) = false

held : {A : Type 0} (d : Dec A) → holds? d ≡ true → A
held (yes a) e = a
held (no f) e = absurd (false≢true e)

-- What was read is the numeral n, and closed.
abbrev pub is_numeral : ℕ → Option Term → Bool
is_numeral n none = false
is_numeral n (some t) = holds? (equal? t (numeral n)) && holds? (closed? t)

-- The test passes at 0 to n.
abbrev pub up_to : ℕ → (ℕ → Bool) → Bool
up_to zero f = f zero
up_to (suc n) f = f (suc n) && up_to n f

up-to : (m : ℕ) (f : ℕ → Bool) → up_to m f ≡ true → (n : ℕ) → n ≤ m → f n ≡ true
up-to zero f e n h = let z : n ≡ zero = omega arith in ap f z ∙ e
up-to (suc m) f e n h = go (eqb n (suc m)) refl (up-to m f ((and-eq-true_iff (f (suc m)) (up_to m f)).0 e).1 n)
  where
    go : (b : Bool) → eqb n (suc m) ≡ b → (n ≤ m → f n ≡ true) → f n ≡ true
    go true q below = ap f (eqb-true n (suc m) q) ∙ ((and-eq-true_iff (f (suc m)) (up_to m f)).0 e).0
    go false q below = below (omega (arith, eqb-false n (suc m) q))

unfoldable pub tested : List ℕ → Bool
tested table = eqb (length table) library_words && up_to numeral_limit (λ n. is_numeral n (read (entry table n)))

module _ (table : List ℕ) (test : tested table ≡ true) where
  entry_read : (n : ℕ) (o : Option Term) → read (entry table n) ≡ o → is_numeral n o ≡ true → Entry table n
  entry_read n none e q = absurd (false≢true q)
  entry_read n (some t) e q =
      let h = (and-eq-true_iff _ _).0 q in
      let same : t ≡ numeral n = held (equal? t (numeral n)) h.0 in
      record { whole = e ∙ ap some same; closed = subst Closed same (held (closed? t) h.1) }

  pub entries_tested : Entries table
  unfolding tested
  entries_tested =
      let t = (and-eq-true_iff _ _).0 test in
      record {
        length_is = eqb-true _ _ t.0;
        first_starts = refl;
        next_starts = λ n. omega (arith, mul-suc n (n + 2));
        last_ends = refl;
        each = λ n h. entry_read n (read (entry table n)) refl (up-to numeral_limit (λ n. is_numeral n (read (entry table n))) t.1 n h);
      }

-- An entry lies in the table, as long as its numeral, and has its words.
module _ {table : List ℕ} (e : Entries table) {n : ℕ} (h : n ≤ numeral_limit) where
  pub entry-within : entry_end n ≤ length table
  entry-within =
      let few : n + 2 ≤ numeral_limit + 2 = omega arith in
      omega (arith, e.length_is, mul-le-mul h few)

  pub entry-words : {k : ℕ} → k ≡ 2 * n + 3 → slice (entry_at n) (entry_at n + k) table ≡ words (numeral n)
  entry-words q = rw q (sym (read_sound (entry table n) (e.each n h).whole))
