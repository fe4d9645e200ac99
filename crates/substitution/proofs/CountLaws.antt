-- The length of a body with its arguments put in, from how often each occurs.
use Prim.Native.Nat.{ℕ, zero, suc, ◌+◌, ◌*◌, ◌-◌, ◌≤◌, ◌<◌}
use mathlib.Core.Path.{◌≡◌, refl, sym, ◌∙◌, ap, ap₂}
use mathlib.Core.Bool.{Bool, true, false, cond}
use mathlib.Core.List.{List, [], ◌∷◌, ◌++◌}
use native.Mathlib.Decide.{dec_le, ℕ_discrete}
use native.Mathlib.Nat.{zero-mul, zero-add, one-mul, add-mul, mul-le-mul}
use native.Mathlib.Numerals.{add-one}
use native.Mathlib.Omega.{arith}
use borrow.Author.Tests.{lt-ltb, le-ltb, eq-eqb, ne_eqb, ltb-true, ltb-false}
use lib.Dec.{ltb, eqb}
use lib.ListN.{length, get_or, drop, replicate, length-append, length-drop}
use Rattle.calculus.specs.Term.{Term, Terms}
use Rattle.calculus.specs.Words.{workspace_most, count_base, size}
use Rattle.calculus.specs.Skip.{arity, span}
use Rattle.calculus.specs.First.{first_terms}
use Rattle.calculus.proofs.SkipLaws.{span_zero, span_bounded, span-add}
use Rattle.words.specs.Bound.{bound}
use Rattle.walk.specs.Depths.{depths}
use Rattle.walk.specs.Rewritten.{substituting, rewritten, place}
use Rattle.substitution.specs.Results.{substituted, Substitutable}
use Rattle.substitution.specs.Measure.{occurrences, Measures}
use Rattle.walk.proofs.DepthLaws.{Bounded, bounded_word, length-items}
use Rattle.substitution.proofs.Traversal.{marked, flat}
use Rattle.substitution.proofs.ResultLaws.{subst_starts}
use Rattle.substitution.proofs.StartLaws.{Offsets}
use Rattle.substitution.proofs.ArgumentLaws.{length_body}
use Rattle.substitution.proofs.Chosen.{chosen_length}

abbrev pub sum_to : ℕ → (ℕ → ℕ) → ℕ
sum_to zero f = 0
sum_to (suc n) f = sum_to n f + f n

sum_suc : (j : ℕ) (f : ℕ → ℕ) → sum_to (j + 1) f ≡ sum_to j f + f j
sum_suc j f = ap (λ m. sum_to m f) (add-one j)

sum_none : (n : ℕ) (f : ℕ → ℕ) → ((j : ℕ) → f j ≡ 0) → sum_to n f ≡ 0
sum_none zero f h = refl
sum_none (suc n) f h = omega (arith, sum_none n f h, h n)

pub sum_part : (n : ℕ) (f : ℕ → ℕ) (k : ℕ) → k < n → sum_to k f + f k ≤ sum_to n f
sum_part zero f k h = absurd (omega arith)
sum_part (suc n) f k h = go (dec_le n k) (λ l. sum_part n f k l)
  where
    go : Dec (n ≤ k) → (k < n → sum_to k f + f k ≤ sum_to n f) → sum_to k f + f k ≤ sum_to n f + f n
    go (yes l) r = let e : k ≡ n = omega arith in rw e (omega arith)
    go (no l) r = omega (arith, r (omega arith))

-- A sum with one place more.
sum_one : (n k : ℕ) (f g x : ℕ → ℕ) → ((j : ℕ) → f j ≡ cond (eqb k j) (x j) 0 + g j) → sum_to n f ≡ cond (ltb k n) (x k) 0 + sum_to n g
sum_one zero k f g x h = rw (le-ltb k 0 (omega arith))
sum_one (suc n) k f g x h = go (ℕ_discrete k n) (dec_le n k) (sum_one n k f g x h)
  where
    go : Dec (k ≡ n) → Dec (n ≤ k) → sum_to n f ≡ cond (ltb k n) (x k) 0 + sum_to n g → sum_to n f + f n ≡ cond (ltb k (suc n)) (x k) 0 + (sum_to n g + g n)
    go (yes e) d before =
        rw (lt-ltb k (suc n) (omega arith))
        (omega (arith, rw (le-ltb k n (omega arith)) at before, rw (eq-eqb k n e) at (h n), ap x e))
    go (no e) (yes d) before =
        rw (le-ltb k (suc n) (omega arith))
        (omega (arith, rw (le-ltb k n d) at before, rw (ne_eqb k n e) at (h n)))
    go (no e) (no d) before =
        rw (lt-ltb k (suc n) (omega arith))
        (omega (arith, rw (lt-ltb k n (omega arith)) at before, rw (ne_eqb k n e) at (h n)))

-- Each word of the first items counted as one, or as the length of the argument that stands for it.
abbrev pub weigh : (n : ℕ) → (ℕ → ℕ) → List ℕ → List ℕ → ℕ
weigh n len ds [] = 0
weigh n len [] (w ∷ ws) = 0
weigh n len (d ∷ ds) (w ∷ ws) = cond (ltb (place n d w) n) (len (place n d w)) 1 + weigh n len (replicate (arity w) (d + bound w) ++ ds) ws

module _ (n : ℕ) where
  abbrev counts : List ℕ → List ℕ → ℕ
  counts ds ws = sum_to n (λ j. occurrences n j ds ws)

  abbrev grown : (ℕ → ℕ) → List ℕ → List ℕ → ℕ
  grown len ds ws = sum_to n (λ j. occurrences n j ds ws * len j)

  counts_word : (k : ℕ) (o : ℕ → ℕ) → sum_to n (λ j. cond (eqb k j) 1 0 + o j) ≡ cond (ltb k n) 1 0 + sum_to n o
  counts_word k o = sum_one n k _ o (λ j. 1) (λ j. refl)

  grown_word : (k : ℕ) (o len : ℕ → ℕ) → sum_to n (λ j. (cond (eqb k j) 1 0 + o j) * len j) ≡ cond (ltb k n) (len k) 0 + sum_to n (λ j. o j * len j)
  grown_word k o len = sum_one n k _ (λ j. o j * len j) len (λ j. go j (eqb k j))
    where
      go : (j : ℕ) (b : Bool) → (cond b 1 0 + o j) * len j ≡ cond b (len j) 0 + o j * len j
      go j true = add-mul 1 (o j) (len j) ∙ ap (λ m. m + o j * len j) (one-mul (len j))
      go j false = ap (λ m. m * len j) (zero-add (o j)) ∙ sym (zero-add (o j * len j))

  pub weigh_counts : (len : ℕ → ℕ) (ws ds : List ℕ) → weigh n len ds ws + counts ds ws ≡ span (length ds) ws + grown len ds ws
  weigh_counts len [] ds = omega (arith, sum_none n (λ j. 0) (λ j. refl), sum_none n (λ j. 0 * len j) (λ j. zero-mul (len j)))
  weigh_counts len (w ∷ ws) [] = omega (arith, sum_none n (λ j. 0) (λ j. refl), sum_none n (λ j. 0 * len j) (λ j. zero-mul (len j)))
  weigh_counts len (w ∷ ws) (d ∷ ds) =
      let es = replicate (arity w) (d + bound w) ++ ds in
      let k = place n d w in
      rw (counts_word k (λ j. occurrences n j es ws), grown_word k (λ j. occurrences n j es ws) len)
      (go (ltb k n) _ _ _ _ (weigh_counts len ws es ∙ ap (λ m. span m ws + grown len es ws) (length-items w d ds)))
    where
      go : (b : Bool) (x c s g : ℕ) → x + c ≡ s + g → cond b (len (place n d w)) 1 + x + (cond b 1 0 + c) ≡ suc s + (cond b (len (place n d w)) 0 + g)
      go true x c s g h = omega arith
      go false x c s g h = omega arith

  pub counts_fit : (ws ds : List ℕ) → counts ds ws ≤ span (length ds) ws
  counts_fit [] ds = omega (arith, sum_none n (λ j. 0) (λ j. refl))
  counts_fit (w ∷ ws) [] = omega (arith, sum_none n (λ j. 0) (λ j. refl))
  counts_fit (w ∷ ws) (d ∷ ds) =
      let es = replicate (arity w) (d + bound w) ++ ds in
      rw (counts_word (place n d w) (λ j. occurrences n j es ws))
      (go (ltb (place n d w) n) (rw (length-items w d ds) at (counts_fit ws es)))
    where
      go : (b : Bool) {c s : ℕ} → c ≤ s → cond b 1 0 + c ≤ suc s
      go true h = omega arith
      go false h = omega arith

  -- The words rewritten are as long as that.
  module _ (f : ℕ → ℕ → Term) (len : ℕ → ℕ) (most : ℕ)
      (told : (d w : ℕ) → d ≤ most → length (rewritten f d w) ≡ cond (ltb (place n d w) n) (len (place n d w)) 1) where
    pub weigh_flat : (ws ds : List ℕ) (b : ℕ) → Bounded b ds → b + count_base * length ws ≤ most
        → length (flat f (marked (depths ds ws) ws)) ≡ weigh n len ds ws
    weigh_flat [] [] b p h = refl
    weigh_flat [] (d ∷ ds) b p h = refl
    weigh_flat (w ∷ ws) [] b p h = refl
    weigh_flat (w ∷ ws) (d ∷ ds) b p h =
        let es = replicate (arity w) (d + bound w) ++ ds in
        length-append (rewritten f d w) _
        ∙ ap₂ ◌+◌ (told d w (omega arith)) (weigh_flat ws es (b + count_base) (bounded_word b (b + count_base) w d ds p (omega arith)) (omega arith))

-- Of a body and its arguments, by the starts of these.
module _ {src : List ℕ} {body args n : ℕ} (h : Substitutable src body args n) {starts : List ℕ} (p : Offsets src args starts (n + 1)) where
  abbrev pub length_of : ℕ → ℕ
  length_of j = get_or starts (j + 1) 0 - get_or starts j 0

  abbrev xs : Terms
  xs = first_terms n (drop args src)

  length_told : (d w : ℕ) → d ≤ count_base * workspace_most → length (rewritten (substituting xs) d w) ≡ cond (ltb (place n d w) n) (length_of (place n d w)) 1
  length_told d w few = go (ltb (place n d w) n) refl
    where
      go : (b : Bool) → ltb (place n d w) n ≡ b → length (rewritten (substituting xs) d w) ≡ cond b (length_of (place n d w)) 1
      go true e = chosen_length h p d w few refl (ltb-true _ _ e)
      go false e = length_body n d w (ltb-false _ _ e) xs h.args_count

  pub substituted_weighs : size (substituted src body args n) ≡ weigh n length_of (0 ∷ []) (drop body src)
  unfolding substituted
  substituted_weighs =
      sym (ap length (subst_starts _ (drop body src) h.body_starts xs))
      ∙ weigh_flat n (substituting xs) length_of (count_base * workspace_most) length_told (drop body src) (0 ∷ []) 0 (omega arith, tt) (omega (arith, length-drop body src, h.short))

  -- The length is that of the body, without the words replaced, and with what stands for them.
  pub substituted_counts : size (substituted src body args n) + sum_to n (λ j. occurrences n j (0 ∷ []) (drop body src))
      ≡ span 1 (drop body src) + sum_to n (λ j. occurrences n j (0 ∷ []) (drop body src) * length_of j)
  substituted_counts = ap (λ m. m + sum_to n (λ j. occurrences n j (0 ∷ []) (drop body src))) substituted_weighs ∙ weigh_counts n length_of (drop body src) (0 ∷ [])

-- An argument that stands for two words occurs twice at least.
module _ (n : ℕ) where
  abbrev place_at : List ℕ → List ℕ → (k : ℕ) → ℕ
  place_at ds ws k = place n (get_or (depths ds ws) k 0) (get_or ws k 0)

  occurs_once : (j : ℕ) (ws ds : List ℕ) (k : ℕ) → k < length (depths ds ws) → place_at ds ws k ≡ j → 1 ≤ occurrences n j ds ws
  occurs_once j [] ds k l e = absurd (omega arith)
  occurs_once j (w ∷ ws) [] k l e = absurd (omega arith)
  occurs_once j (w ∷ ws) (d ∷ ds) zero l e = rw (eq-eqb (place n d w) j e) (omega arith)
  occurs_once j (w ∷ ws) (d ∷ ds) (suc k) l e = omega (arith, occurs_once j ws (replicate (arity w) (d + bound w) ++ ds) k (omega arith) e)

  pub occurs_twice : (j : ℕ) (ws ds : List ℕ) (i k : ℕ) → i < k → k < length (depths ds ws) → place_at ds ws i ≡ j → place_at ds ws k ≡ j → 2 ≤ occurrences n j ds ws
  occurs_twice j [] ds i k m l e f = absurd (omega arith)
  occurs_twice j (w ∷ ws) [] i k m l e f = absurd (omega arith)
  occurs_twice j (w ∷ ws) (d ∷ ds) i zero m l e f = absurd (omega arith)
  occurs_twice j (w ∷ ws) (d ∷ ds) zero (suc k) m l e f =
      rw (eq-eqb (place n d w) j e) (omega (arith, occurs_once j ws (replicate (arity w) (d + bound w) ++ ds) k (omega arith) f))
  occurs_twice j (w ∷ ws) (d ∷ ds) (suc i) (suc k) m l e f =
      omega (arith, occurs_twice j ws (replicate (arity w) (d + bound w) ++ ds) i k (omega arith) (omega arith) e f)

-- The loop over the arguments: the words replaced by the first j of them are taken off, and these are put on.
pub record Adding (src : List ℕ) (body args n : ℕ) (occurs starts : List ℕ) (total j : ℕ) : Type 0 where
  pub needs : Substitutable src body args n
  pub offsets : Offsets src args starts (n + 1)
  pub occur : (k : ℕ) → k < n → get_or occurs k 0 ≡ occurrences n k (0 ∷ []) (drop body src)
  pub before : j ≤ n
  pub few : total ≤ workspace_most + j * (workspace_most * workspace_most)
  pub sum : total + sum_to j (λ k. occurrences n k (0 ∷ []) (drop body src))
      ≡ span 1 (drop body src) + sum_to j (λ k. occurrences n k (0 ∷ []) (drop body src) * (get_or starts (k + 1) 0 - get_or starts k 0))

pub adding_start : {src occurs starts : List ℕ} {body args n end last : ℕ} → Substitutable src body args n → Offsets src args starts (n + 1)
    → Measures src body n end last occurs → Adding src body args n occurs starts (end - body) 0
adding_start {src} {body = body} h p m =
    record {
      needs = h;
      offsets = p;
      occur = m.occur;
      before = omega arith;
      few = omega (arith, m.ends, span_bounded 1 (drop body src), length-drop body src, h.short);
      sum = omega (arith, m.ends);
    }

module _ {src : List ℕ} {body args n : ℕ} {occurs starts : List ℕ} {total j : ℕ} (v : Adding src body args n occurs starts total j) where
  pub adding_done : n ≤ j → total ≡ size (substituted src body args n)
  adding_done past =
      let e : j ≡ n = omega (arith, v.before) in
      omega (arith, rw e at v.sum, substituted_counts v.needs v.offsets)

  module _ (more : j < n) where
    abbrev o : ℕ
    o = get_or occurs j 0

    pub taken : (o ≤ total) × (o ≤ workspace_most)
    taken =
        let fit = counts_fit n (drop body src) (0 ∷ []) in
        let part = sum_part n (λ k. occurrences n k (0 ∷ []) (drop body src)) j more in
        omega (arith, v.sum, v.occur j more, fit, part, span_bounded 1 (drop body src), length-drop body src, v.needs.short)

    pub rises : (get_or starts j 0 ≤ get_or starts (j + 1) 0) × (get_or starts (j + 1) 0 - get_or starts j 0 ≤ workspace_most)
    rises =
        let d = drop (span j (drop args src)) (drop args src) in
        omega (
          arith,
          v.offsets.each j (omega arith),
          v.offsets.each (j + 1) (omega arith),
          span-add (drop args src) j 1,
          span_bounded 1 d,
          length-drop (span j (drop args src)) (drop args src),
          length-drop args src,
          v.needs.short,
        )

    pub product : o * (get_or starts (j + 1) 0 - get_or starts j 0) ≤ workspace_most * workspace_most
    product = mul-le-mul taken.1 rises.1

    pub adding_next : Adding src body args n occurs starts (total - o + o * (get_or starts (j + 1) 0 - get_or starts j 0)) (j + 1)
    adding_next =
        record {
          needs = v.needs;
          offsets = v.offsets;
          occur = v.occur;
          before = omega arith;
          few = omega (arith, v.few, product);
          sum =
              let e = v.occur j more in
              omega (
                arith,
                v.sum,
                taken,
                e,
                ap (λ m. m * (get_or starts (j + 1) 0 - get_or starts j 0)) e,
                sum_suc j (λ k. occurrences n k (0 ∷ []) (drop body src)),
                sum_suc j (λ k. occurrences n k (0 ∷ []) (drop body src) * (get_or starts (k + 1) 0 - get_or starts k 0)),
              );
        }

-- One argument, from where it starts and ends.
module _ {src : List ℕ} {body args after times : ℕ} (h : Substitutable src body args 1) (after_is : after ≡ args + span 1 (drop args src))
    (occur : times ≡ occurrences 1 0 (0 ∷ []) (drop body src)) where
  one_argument : Offsets src args (args ∷ after ∷ []) 2
  one_argument = record { each = go }
    where
      go : (i : ℕ) → i < 2 → get_or (args ∷ after ∷ []) i 0 ≡ args + span i (drop args src)
      go zero l = omega (arith, span_zero (drop args src))
      go (suc zero) l = after_is
      go (suc (suc i)) l = absurd (omega arith)

  pub times_few : times ≤ span 1 (drop body src)
  times_few = omega (arith, counts_fit 1 (drop body src) (0 ∷ []))

  pub substituted_one : size (substituted src body args 1) + times ≡ span 1 (drop body src) + times * (after - args)
  substituted_one =
      omega (arith, substituted_counts h one_argument, ap (λ m. m * (after - args)) occur)

  pub product_few : times * (after - args) ≤ workspace_most * workspace_most
  product_few =
      let few : times ≤ workspace_most = omega (arith, times_few, span_bounded 1 (drop body src), length-drop body src, h.short) in
      let short : after - args ≤ workspace_most = omega (arith, span_bounded 1 (drop args src), length-drop args src, h.short) in
      mul-le-mul few short
