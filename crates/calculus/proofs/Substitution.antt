-- The laws of shift and substitution. A substitution is given by a function from indices to terms and lifted under binders; shift and the
-- calculus's substitution are such (`shift_is_sub`, `subst_is_sub`). The law that the theory of contraction needs is `sub-subst`: any substitution
-- commutes with that of a redex's arguments.
use Prim.Native.Nat.{ℕ, suc, ◌+◌, ◌-◌, ◌≤◌, ◌<◌}
use mathlib.Core.Path.{◌≡◌, refl, sym, ◌∙◌, ap, ap₂, fun_ext, ◌≡⟨◌⟩◌, ◌∎}
use mathlib.Core.Bool.{Bool, true, false, cond}
use mathlib.Core.Option.{Option, some, none, map, get_or}
use native.Mathlib.Omega.{arith}
use lib.Dec.{ltb, eqb}
use lib.IntN.{pos}
use borrow.Author.Tests.{lt-ltb, le-ltb, eqb-true, eqb-false}
use Rattle.calculus.specs.Term.{Sort, Exp, var, nil, cons, Term, Terms, count}
use Rattle.calculus.specs.Traverse.{traverse}
use Rattle.calculus.specs.Shift.{moving, shift}
use Rattle.calculus.specs.Substitution.{argument, replaced, subst}
use Rattle.calculus.proofs.Move.{move_down}
use Rattle.calculus.proofs.SubstitutionExact.{shift_exact, substitution_exact}
use Rattle.calculus.proofs.Spine.{count-traverse}
use Rattle.calculus.proofs.Traversal.{traverse-after, traverse-traverse, traverse-identity, below_or_above}

-- What the shift by n places up puts for an index.
moving_below : (n d i : ℕ) → i < d → moving (pos n) d i ≡ var i
moving_below n d i l = shift_exact.bound (pos n) d i l

pub moving-above : (n d i : ℕ) → d ≤ i → moving (pos n) d i ≡ var (i + n)
moving-above n d i l = shift_exact.free (pos n) d i (i + n) l refl

-- Two shifts are one if the later one's cutoff lies within the gap that the first one makes.
pub shift-shift : {s : Sort} (m n c d : ℕ) (e : Exp s) → c ≤ d → d ≤ c + n → shift (pos m) d (shift (pos n) c e) ≡ shift (pos (n + m)) c e
shift-shift m n c d e h k = traverse-after (moving (pos n)) (moving (pos m)) (moving (pos (n + m))) (d - c) variable c d e (omega arith)
  where
    variable : (d₁ d₂ i : ℕ) → d₂ ≡ d₁ + (d - c) → shift (pos m) d₂ (moving (pos n) d₁ i) ≡ moving (pos (n + m)) d₁ i
    variable d₁ d₂ i q =
        below_or_above i d₁
        (λ l. ap (shift (pos m) d₂) (moving_below n d₁ i l) ∙ moving_below m d₂ i (omega arith) ∙ sym (moving_below (n + m) d₁ i l))
        (λ l.
        ap (shift (pos m) d₂) (moving-above n d₁ i l) ∙ moving-above m d₂ (i + n) (omega arith)
        ∙ ap var (omega arith) ∙ sym (moving-above (n + m) d₁ i l))

pub shift_zero : {s : Sort} (d : ℕ) (e : Exp s) → shift (pos 0) d e ≡ e
shift_zero d e = traverse-identity (moving (pos 0)) variable d e
  where
    variable : (d i : ℕ) → moving (pos 0) d i ≡ var i
    variable d i = below_or_above i d (moving_below 0 d i) (λ l. moving-above 0 d i l ∙ ap var (omega arith))

-- A substitution, which gives a term for each index, under d binders: their indices stay, and the terms for the others are shifted past them.
unfoldable pub lift : (ℕ → Term) → ℕ → ℕ → Term
lift σ d i = cond (ltb i d) (var i) (shift (pos d) 0 (σ (i - d)))

abbrev pub sub : {s : Sort} → (ℕ → Term) → ℕ → Exp s → Exp s
sub σ = traverse (lift σ)

pub lift_below : (σ : ℕ → Term) (d i : ℕ) → i < d → lift σ d i ≡ var i
unfolding lift
lift_below σ d i l = rw (lt-ltb i d l)

pub lift_above : (σ : ℕ → Term) (d i : ℕ) → d ≤ i → lift σ d i ≡ shift (pos d) 0 (σ (i - d))
unfolding lift
lift_above σ d i l = rw (le-ltb i d l)

-- A substitution of variables, at an index past the binders.
lift_variable : (ρ : ℕ → ℕ) (d i j : ℕ) → d ≤ i → ρ (i - d) + d ≡ j → lift (λ k. var (ρ k)) d i ≡ var j
lift_variable ρ d i j l q = lift_above (λ k. var (ρ k)) d i l ∙ moving-above d 0 (ρ (i - d)) (omega arith) ∙ ap var q

pub sub_variable : (σ : ℕ → Term) (i : ℕ) → sub σ 0 (var i) ≡ σ i
sub_variable σ i = lift_above σ 0 i (omega arith) ∙ shift_zero 0 (σ (i - 0)) ∙ ap σ (omega arith)

-- The substitution of each variable for itself changes nothing.
pub sub-identity : {s : Sort} (d : ℕ) (e : Exp s) → sub var d e ≡ e
sub-identity d e = traverse-identity (lift var) variable d e
  where
    variable : (d i : ℕ) → lift var d i ≡ var i
    variable d i = below_or_above i d (lift_below var d i) (λ l. lift_variable (λ k. k) d i i l (omega arith))

-- A shift is a substitution of variables.
pub shift_is_sub : {s : Sort} (n d : ℕ) (e : Exp s) → shift (pos n) d e ≡ sub (λ i. var (i + n)) d e
shift_is_sub n d e = ap (λ f. traverse f d e) (fun_ext (λ d. fun_ext (variable d)))
  where
    variable : (d i : ℕ) → moving (pos n) d i ≡ lift (λ i. var (i + n)) d i
    variable d i =
        below_or_above i d
        (λ l. moving_below n d i l ∙ sym (lift_below (λ i. var (i + n)) d i l))
        (λ l. moving-above n d i l ∙ sym (lift_variable (λ i. i + n) d i (i + n) l (omega arith)))

-- A substitution commutes with a shift.
sub-shift : {s : Sort} (σ : ℕ → Term) (n d d' : ℕ) (e : Exp s) → d' ≡ d + n → sub σ d' (shift (pos n) d e) ≡ shift (pos n) d (sub σ d e)
sub-shift σ n d d' e p =
    traverse-after (moving (pos n)) (lift σ) both n variable d d' e p ∙ sym (traverse-traverse (lift σ) (moving (pos n)) both (λ d i. refl) d e)
  where
    both : ℕ → ℕ → Term
    both d i = shift (pos n) d (lift σ d i)

    below : (d d' i : ℕ) → d' ≡ d + n → i < d → lift σ d' i ≡ moving (pos n) d i
    below d d' i q l = lift_below σ d' i (omega arith) ∙ sym (moving_below n d i l)

    above : (d d' i : ℕ) → d' ≡ d + n → d ≤ i → lift σ d' (i + n) ≡ shift (pos n) d (shift (pos d) 0 (σ (i - d)))
    above d d' i q l =
        lift_above σ d' (i + n) (omega arith)
        ∙ ap₂ (λ k j. shift (pos k) 0 (σ j)) (omega arith) (omega arith)
        ∙ sym (shift-shift n d 0 d (σ (i - d)) (omega arith) (omega arith))

    variable : (d d' i : ℕ) → d' ≡ d + n → sub σ d' (moving (pos n) d i) ≡ both d i
    variable d d' i q =
        below_or_above i d
        (λ l. rw (lift_below σ d i l) (ap (sub σ d') (moving_below n d i l) ∙ below d d' i q l))
        (λ l. rw (lift_above σ d i l) (ap (sub σ d') (moving-above n d i l) ∙ above d d' i q l))

-- A substitution after another is one substitution.
pub sub-sub : {s : Sort} (σ τ : ℕ → Term) (d : ℕ) (e : Exp s) → sub τ d (sub σ d e) ≡ sub (λ i. sub τ 0 (σ i)) d e
sub-sub σ τ d e = traverse-traverse (lift σ) (lift τ) (lift (λ i. sub τ 0 (σ i))) variable d e
  where
    variable : (d i : ℕ) → sub τ d (lift σ d i) ≡ lift (λ i. sub τ 0 (σ i)) d i
    variable d i =
        below_or_above i d
        (λ l. rw (lift_below σ d i l, lift_below (λ i. sub τ 0 (σ i)) d i l) (lift_below τ d i l))
        (λ l. rw (lift_above σ d i l, lift_above (λ i. sub τ 0 (σ i)) d i l) (sub-shift τ d 0 d (σ (i - d)) (omega arith)))

-- Lifting by c and then by d is lifting by their sum.
lift_lift : (σ : ℕ → Term) (c d d' i : ℕ) → d' ≡ d + c → lift σ d' i ≡ lift (lift σ c) d i
lift_lift σ c d d' i q =
    below_or_above i d
    (λ l. rw (lift_below (lift σ c) d i l) (lift_below σ d' i (omega arith)))
    (λ l. rw (lift_above (lift σ c) d i l) (below_or_above (i - d) c (between l) (above l)))
  where
    between : d ≤ i → i - d < c → lift σ d' i ≡ shift (pos d) 0 (lift σ c (i - d))
    between l k = rw (lift_below σ c (i - d) k) (lift_below σ d' i (omega arith) ∙ sym (moving-above d 0 (i - d) (omega arith) ∙ ap var (omega arith)))

    above : d ≤ i → c ≤ i - d → lift σ d' i ≡ shift (pos d) 0 (lift σ c (i - d))
    above l k =
        rw (lift_above σ c (i - d) k, shift-shift d c 0 0 (σ (i - d - c)) (omega arith) (omega arith))
        (lift_above σ d' i (omega arith) ∙ ap₂ (λ n j. shift (pos n) 0 (σ j)) (omega arith) (omega arith))

-- From c binders on, a substitution is its lifting by c.
pub sub_lift : {s : Sort} (σ : ℕ → Term) (c d d' : ℕ) (e : Exp s) → d' ≡ d + c → sub σ d' e ≡ sub (lift σ c) d e
sub_lift σ c d d' e p =
    ap (sub σ d') (sym (traverse-identity itself (λ d i. refl) d e)) ∙ traverse-after itself (lift σ) (lift (lift σ c)) c (lift_lift σ c) d d' e p
  where
    itself : ℕ → ℕ → Term
    itself d i = var i

-- The substitution of arguments for the first indices, the last argument for index 0.
unfoldable pub put : Terms → ℕ → Term
put xs i = get_or (argument xs i) (var (i - count xs))

argument-traverse : (f : ℕ → ℕ → Term) (d : ℕ) (xs : Terms) (i : ℕ) → argument (traverse f d xs) i ≡ map (traverse f d) (argument xs i)
argument-traverse f d nil i = refl
argument-traverse f d (cons a xs) i = rw (count-traverse f d xs, argument-traverse f d xs i) (by (eqb i (count xs)))
  where
    by : (b : Bool)
        → cond b (some (traverse f d a)) (map (traverse f d) (argument xs i)) ≡ map (traverse f d) (cond b (some a) (argument xs i))
    by true = refl
    by false = refl

-- An index stands for an argument just if it is below their number.
abbrev Within : ℕ → ℕ → Option Term → Type 0
Within i n (some a) = i < n
Within i n none = n ≤ i

argument-within : (xs : Terms) (i : ℕ) → Within i (count xs) (argument xs i)
argument-within nil i = omega arith
argument-within (cons a xs) i = by (eqb i (count xs)) refl (argument xs i) (argument-within xs i)
  where
    by : (b : Bool) → eqb i (count xs) ≡ b → (o : Option Term) → Within i (count xs) o → Within i (suc (count xs)) (cond b (some a) o)
    by true q o h = let e = eqb-true i (count xs) q in omega arith
    by false q (some x) h = omega arith
    by false q none h = let e = eqb-false i (count xs) q in omega arith

put-argument : (xs : Terms) (i : ℕ) (a : Term) → argument xs i ≡ some a → put xs i ≡ a
unfolding put
put-argument xs i a q = rw q

put-above : (xs : Terms) (i : ℕ) → count xs ≤ i → put xs i ≡ var (i - count xs)
unfolding put
put-above xs i h = by (argument xs i) (argument-within xs i)
  where
    by : (o : Option Term) → Within i (count xs) o → get_or o (var (i - count xs)) ≡ var (i - count xs)
    by (some a) k = absurd (omega arith)
    by none k = refl

-- Arguments put into what is shifted past them change nothing.
put-shift : {s : Sort} (xs : Terms) (e : Exp s) → sub (put xs) 0 (shift (pos (count xs)) 0 e) ≡ e
put-shift xs e =
    sub (put xs) 0 (shift (pos (count xs)) 0 e)
    ≡⟨ ap (sub (put xs) 0) (shift_is_sub (count xs) 0 e) ⟩
    sub (put xs) 0 (sub (λ i. var (i + count xs)) 0 e)
    ≡⟨ sub-sub (λ i. var (i + count xs)) (put xs) 0 e ⟩
    sub (λ i. sub (put xs) 0 (var (i + count xs))) 0 e
    ≡⟨ ap (λ σ. sub σ 0 e) (fun_ext variable) ⟩
    sub var 0 e
    ≡⟨ sub-identity 0 e ⟩
    e
    ∎
  where
    variable : (i : ℕ) → sub (put xs) 0 (var (i + count xs)) ≡ var i
    variable i = sub_variable (put xs) (i + count xs) ∙ put-above xs (i + count xs) (omega arith) ∙ ap var (omega arith)

-- A substitution commutes with that of arguments: at no binders crossed, and at any number.
sub-put_outermost : {s : Sort} (σ : ℕ → Term) (xs : Terms) (e : Exp s)
    → sub σ 0 (sub (put xs) 0 e) ≡ sub (put (sub σ 0 xs)) 0 (sub σ (count xs) e)
sub-put_outermost σ xs e =
    sub σ 0 (sub (put xs) 0 e)
    ≡⟨ sub-sub (put xs) σ 0 e ⟩
    sub (λ i. sub σ 0 (put xs i)) 0 e
    ≡⟨ ap (λ τ. sub τ 0 e) (fun_ext (λ i. variable i (argument xs i) refl (argument-within xs i))) ⟩
    sub (λ i. sub (put (sub σ 0 xs)) 0 (lift σ (count xs) i)) 0 e
    ≡⟨ sym (sub-sub (lift σ (count xs)) (put (sub σ 0 xs)) 0 e) ⟩
    sub (put (sub σ 0 xs)) 0 (sub (lift σ (count xs)) 0 e)
    ≡⟨ ap (sub (put (sub σ 0 xs)) 0) (sym (sub_lift σ (count xs) 0 (count xs) e (omega arith))) ⟩
    sub (put (sub σ 0 xs)) 0 (sub σ (count xs) e)
    ∎
  where
    variable : (i : ℕ) (o : Option Term) → argument xs i ≡ o → Within i (count xs) o
        → sub σ 0 (put xs i) ≡ sub (put (sub σ 0 xs)) 0 (lift σ (count xs) i)
    variable i (some a) q l =
        let q' : argument (sub σ 0 xs) i ≡ some (sub σ 0 a) = argument-traverse (lift σ) 0 xs i ∙ ap (map (sub σ 0)) q in
        rw (lift_below σ (count xs) i l, put-argument xs i a q, sub_variable (put (sub σ 0 xs)) i) (sym (put-argument (sub σ 0 xs) i (sub σ 0 a) q'))
    variable i none q l =
        rw (lift_above σ (count xs) i l, put-above xs i l, sub_variable σ (i - count xs))
        (sym (rw (count-traverse (lift σ) 0 xs) at (put-shift (sub σ 0 xs) (σ (i - count xs)))))

sub-put : {s : Sort} (σ : ℕ → Term) (d : ℕ) (xs : Terms) (e : Exp s)
    → sub σ d (sub (put xs) 0 e) ≡ sub (put (sub σ d xs)) 0 (sub σ (d + count xs) e)
sub-put σ d xs e =
    let outer = sub_lift σ d 0 d (sub (put xs) 0 e) (omega arith) in
    let arguments = sub_lift σ d 0 d xs (omega arith) in
    let inner = sub_lift σ d (count xs) (d + count xs) e (omega arith) in
    rw (outer, arguments, inner) (sub-put_outermost (lift σ d) xs e)

subst_variable : (xs : Terms) (d i : ℕ) → subst xs d (var i) ≡ lift (put xs) d i
subst_variable xs d i =
    below_or_above i d
    (λ l. substitution_exact.bound xs d i l ∙ sym (lift_below (put xs) d i l))
    (λ l. rw (lift_above (put xs) d i l, le-ltb i d l) (by l (argument xs (i - d)) refl (argument-within xs (i - d))))
  where
    by : d ≤ i → (o : Option Term) → argument xs (i - d) ≡ o → Within (i - d) (count xs) o → replaced xs d i o ≡ shift (pos d) 0 (put xs (i - d))
    by l (some a) q k = ap (shift (pos d) 0) (sym (put-argument xs (i - d) a q))
    by l none q k =
        ap var (move_down (count xs) i)
        ∙ sym (ap (shift (pos d) 0) (put-above xs (i - d) k) ∙ moving-above d 0 (i - d - count xs) (omega arith) ∙ ap var (omega arith))

-- The calculus's substitution as one given by a function.
pub subst_is_sub : {s : Sort} (xs : Terms) (d : ℕ) (e : Exp s) → subst xs d e ≡ sub (put xs) d e
subst_is_sub xs d e = ap (λ f. traverse f d e) (fun_ext (λ d. fun_ext (subst_variable xs d)))

-- Any substitution commutes with that of a redex's arguments.
pub sub-subst : {s : Sort} (σ : ℕ → Term) (d : ℕ) (xs : Terms) (e : Exp s)
    → sub σ d (subst xs 0 e) ≡ subst (sub σ d xs) 0 (sub σ (d + count xs) e)
sub-subst σ d xs e = ap (sub σ d) (subst_is_sub xs 0 e) ∙ sub-put σ d xs e ∙ sym (subst_is_sub (sub σ d xs) 0 (sub σ (d + count xs) e))

-- Shift and substitution after one another, in the calculus's own terms.
pub subst-subst : {s : Sort} (xs ys : Terms) (d : ℕ) (e : Exp s) → subst xs d (subst ys 0 e) ≡ subst (subst xs d ys) 0 (subst xs (d + count ys) e)
subst-subst xs ys d e =
    rw (subst_is_sub xs d (subst ys 0 e), subst_is_sub xs d ys, subst_is_sub xs (d + count ys) e) (sub-subst (put xs) d ys e)

pub shift-subst : {s : Sort} (n d : ℕ) (xs : Terms) (e : Exp s)
    → shift (pos n) d (subst xs 0 e) ≡ subst (shift (pos n) d xs) 0 (shift (pos n) (d + count xs) e)
shift-subst n d xs e =
    rw (shift_is_sub n d (subst xs 0 e), shift_is_sub n d xs, shift_is_sub n (d + count xs) e) (sub-subst (λ i. var (i + n)) d xs e)

pub subst-shift : {s : Sort} (xs : Terms) (e : Exp s) → subst xs 0 (shift (pos (count xs)) 0 e) ≡ e
subst-shift xs e = subst_is_sub xs 0 (shift (pos (count xs)) 0 e) ∙ put-shift xs e

-- With no arguments nothing is put, and no index falls.
pub subst_none : {s : Sort} (e : Exp s) → subst nil 0 e ≡ e
subst_none e = ap (subst nil 0) (sym (shift_zero 0 e)) ∙ subst-shift nil e
