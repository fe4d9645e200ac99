-- How many first words of both sides agree after a round. A contraction keeps the words before its position; and two terms that contract at the
-- same position, within the words that agree, have the same redex there and so the same contractum.
use Prim.Native.Nat.{ℕ, ◌+◌, ◌-◌, ◌≤◌, ◌<◌, min}
use mathlib.Core.Path.{◌≡◌, refl, sym, ◌∙◌, ap}
use mathlib.Core.Bool.{Bool, true, false, cond, ◌&&◌}
use mathlib.Core.List.{List, ◌++◌, append_assoc}
use mathlib.Core.Option.{some, some-injective}
use native.Mathlib.Omega.{arith}
use lib.Dec.{eqb, leb}
use lib.ListN.{length, take, drop, length-append, take-append-drop}
use lib.Seq.{take-take, take_at, drop_at, take-append-le, length-take-le}
use borrow.Author.Tests.{eqb-true, leb-true}
use Rattle.calculus.specs.Term.{Term}
use Rattle.calculus.specs.Words.{words, size, workspace_most}
use Rattle.calculus.specs.Accepted.{Accepted, index_limit}
use Rattle.calculus.specs.Skip.{span}
use Rattle.calculus.specs.Position.{contract_at}
use Rattle.calculus.proofs.WordLaws.{accepted_in_library, accepted_packable, size_positive}
use Rattle.calculus.proofs.PrefixFree.{words_prefix_free}
use Rattle.calculus.proofs.Indices.{indices_bounded}
use Rattle.calculus.proofs.PositionLaws.{contract_at_position}
use Rattle.calculus.proofs.FirstLaws.{span-items}
use Rattle.calculus.proofs.Focus.{Focus, focus}
use Rattle.redex.specs.Held.{held}
use Rattle.redex.proofs.HeldLaws.{Start, term_at_start}
use Rattle.turn.specs.Compare.{Agrees}
use Rattle.calculus.specs.Rounds.{next}
use Rattle.turn.specs.Turn.{Plan, contract}
use Rattle.turn.specs.Resume.{agree_both, agreeAfter, Agreeing}
use Rattle.calculus.proofs.RoundsLaws.{next_is, next_normal}
use Rattle.turn.proofs.TurnLaws.{Planned, is_normal, contracts, planned_tells}

agrees_sym : {k : ℕ} {ws vs : List ℕ} → Agrees k ws vs → Agrees k vs ws
agrees_sym a = record { left_has = a.right_has; right_has = a.left_has; same = sym a.same }

agrees_less : {k : ℕ} {ws vs : List ℕ} (j : ℕ) → j ≤ k → Agrees k ws vs → Agrees j ws vs
agrees_less {k} {ws} {vs} j h a =
    record {
      left_has = omega (arith, a.left_has);
      right_has = omega (arith, a.right_has);
      same = sym (take-take j k ws h) ∙ ap (take j) a.same ∙ take-take j k vs h;
    }

agrees_shared : (c d e : List ℕ) {k : ℕ} {ws vs : List ℕ} → ws ≡ c ++ d → vs ≡ c ++ e → length c ≡ k → Agrees k ws vs
agrees_shared c d e {k} p q n =
    record {
      left_has = rw p (omega (arith, length-append c d));
      right_has = rw q (omega (arith, length-append c e));
      same = ap (take k) p ∙ take_at c d k n ∙ sym (take_at c e k n) ∙ sym (ap (take k) q);
    }

-- One side contracts: the words before the redex stay.
module _ {limit : ℕ} {ws ws' : List ℕ} {p : ℕ} (f : Focus limit ws ws' p) where
  before_kept : (j : ℕ) → j ≤ p → take j ws' ≡ take j ws
  before_kept j h =
      let l : j ≤ length f.before = omega (arith, f.position) in
      ap (take j) f.to ∙ take-append-le j f.before _ l ∙ sym (take-append-le j f.before _ l) ∙ sym (ap (take j) f.from)

  agrees_left : {k : ℕ} {vs : List ℕ} (j : ℕ) → j ≤ k → j ≤ p → Agrees k ws vs → Agrees j ws' vs
  agrees_left j h l a =
      let b = agrees_less j h a in
      record {
        left_has = rw f.to (omega (arith, f.position, length-append f.before (words f.contractum ++ f.after)));
        right_has = b.right_has;
        same = before_kept j l ∙ b.same;
      }

agrees_right : {limit : ℕ} {vs vs' : List ℕ} {p : ℕ} → Focus limit vs vs' p → {k : ℕ} {ws : List ℕ} (j : ℕ) → j ≤ k → j ≤ p → Agrees k ws vs
    → Agrees j ws vs'
agrees_right f j h l a = agrees_sym (agrees_left f j h l (agrees_sym a))

-- Both sides contract at the same position, and the redex is within the k words that agree.
module _ {limit : ℕ} {ws ws' vs vs' : List ℕ} {p k : ℕ} (f : Focus limit ws ws' p) (g : Focus limit vs vs' p) (a : Agrees k ws vs)
    (within : p + size f.redex ≤ k) where
  -- What agrees behind the redex.
  behind : ℕ
  behind = k - (p + size f.redex)

  start : List ℕ
  start = f.before ++ (words f.redex ++ take behind f.after)

  ws_length : length ws ≡ p + (size f.redex + length f.after)
  ws_length =
      ap length f.from ∙ omega (arith, length-append f.before (words f.redex ++ f.after), length-append (words f.redex) f.after, f.position)

  behind_fits : behind ≤ length f.after
  unfolding behind
  behind_fits = omega (arith, a.left_has, ws_length)

  start_length : length start ≡ k
  unfolding start behind
  start_length =
      omega (
        arith,
        length-append f.before (words f.redex ++ take behind f.after),
        length-append (words f.redex) (take behind f.after),
        length-take-le behind f.after behind_fits,
        f.position,
      )

  ws_starts : ws ≡ start ++ drop behind f.after
  unfolding start
  ws_starts = f.from ∙ rw (append_assoc, append_assoc, take-append-drop behind f.after)

  -- The other side's words: they start as these do.
  vs_starts : vs ≡ f.before ++ (words f.redex ++ (take behind f.after ++ drop k vs))
  unfolding start
  vs_starts =
      sym (take-append-drop k vs)
      ∙ ap (λ l. l ++ drop k vs) (sym a.same ∙ ap (take k) ws_starts ∙ take_at start (drop behind f.after) k start_length)
      ∙ rw (append_assoc, append_assoc)

  same_before : f.before ≡ g.before
  same_before =
      sym (take_at f.before _ p f.position) ∙ ap (take p) (sym vs_starts ∙ g.from) ∙ take_at g.before _ p g.position

  same-behind : words f.redex ++ (take behind f.after ++ drop k vs) ≡ words g.redex ++ g.after
  same-behind =
      sym (drop_at f.before _ p f.position) ∙ ap (drop p) (sym vs_starts ∙ g.from) ∙ drop_at g.before _ p g.position

  same_redex : (f.redex ≡ g.redex) × (take behind f.after ++ drop k vs ≡ g.after)
  same_redex = words_prefix_free f.redex g.redex _ _ f.packable g.packable same-behind

  same-contractum : f.contractum ≡ g.contractum
  same-contractum = some-injective _ _ (sym f.contracts ∙ rw same_redex.0 g.contracts)

  kept : List ℕ
  kept = f.before ++ (words f.contractum ++ take behind f.after)

  kept-length : length kept ≡ length ws' - (length ws - k)
  unfolding kept behind
  kept-length =
      omega (
        arith,
        length-append f.before (words f.contractum ++ take behind f.after),
        length-append (words f.contractum) (take behind f.after),
        length-take-le behind f.after behind_fits,
        f.position,
        ws_length,
        a.left_has,
        ap length f.to,
        length-append f.before (words f.contractum ++ f.after),
        length-append (words f.contractum) f.after,
      )

  agrees_moved : Agrees (length ws' - (length ws - k)) ws' vs'
  unfolding kept
  agrees_moved =
      agrees_shared kept (drop behind f.after) (drop k vs)
      (f.to ∙ rw (append_assoc, append_assoc, take-append-drop behind f.after))
      (g.to
      ∙ ap (λ b. b ++ (words g.contractum ++ g.after)) (sym same_before)
      ∙ ap (λ c. f.before ++ (words c ++ g.after)) (sym same-contractum)
      ∙ ap (λ d. f.before ++ (words f.contractum ++ d)) (sym same_redex.1)
      ∙ rw (append_assoc, append_assoc))
      kept-length

focused : (t u : Term) (p : ℕ) → Accepted 0 t → size t ≤ workspace_most → contract_at p t ≡ some u → Focus index_limit (words t) (words u) p
focused t u p a s c = focus index_limit ((contract_at_position p t u).0 c).1 (accepted_packable 0 t a) (indices_bounded t a s) (accepted_in_library 0 t a)

-- The end of the redex at a position, from the words of a workspace.
redex_end : {ws ws' : List ℕ} {n p : ℕ} {t : Term} → Start ws n t → (f : Focus index_limit (words t) ws' p) → span 1 (drop p ws) ≡ size f.redex
redex_end {ws} {n = n} {p} s f =
    let e : drop p ws ≡ words f.redex ++ (f.after ++ drop n ws) =
    ap (drop p) (sym s.start ∙ ap (λ l. l ++ drop n ws) f.from ∙ rw (append_assoc, append_assoc)) ∙ drop_at f.before _ p f.position in
    ap (span 1) e ∙ span-items f.redex _ refl f.packable

-- Two terms in workspaces, of which k words agree, after a round.
module _ {ws vs : List ℕ} {n m k : ℕ} {t u : Term} (s : Start ws n t) (r : Start vs m u) (short : n ≤ workspace_most) (short' : m ≤ workspace_most)
    (a : Agrees k (words t) (words u)) where
  left_focus : (t' : Term) (p : ℕ) → contract_at p t ≡ some t' → Focus index_limit (words t) (words t') p
  left_focus t' p c = focused t t' p s.accepted (omega (arith, s.long)) c

  right_focus : (u' : Term) (p : ℕ) → contract_at p u ≡ some u' → Focus index_limit (words u) (words u') p
  right_focus u' p c = focused u u' p r.accepted (omega (arith, r.long)) c

  agree-both : (t' u' : Term) (p q : ℕ) → contract_at p t ≡ some t' → contract_at q u ≡ some u'
      → Agrees (agree_both ws n k p (size t') q) (words t') (words u')
  agree-both t' u' p q c d = go (eqb p q) (leb (p + span 1 (drop p ws)) k) refl refl
    where
      apart : Agrees (min k (min p q)) (words t') (words u')
      apart =
          agrees_right (right_focus u' q d) (min k (min p q)) (omega arith) (omega arith)
          (agrees_left (left_focus t' p c) (min k (min p q)) (omega arith) (omega arith) a)

      go : (x y : Bool) → eqb p q ≡ x → leb (p + span 1 (drop p ws)) k ≡ y
          → Agrees (cond (x && y) (size t' - (n - k)) (min k (min p q))) (words t') (words u')
      go true true e h =
          let d' : contract_at p u ≡ some u' = rw (eqb-true p q e) d in
          let f = left_focus t' p c in
          let w : p + span 1 (drop p ws) ≤ k = leb-true (p + span 1 (drop p ws)) k h in
          rw (← s.long) (agrees_moved f (right_focus u' p d') a (omega (arith, redex_end s f)))
      go true false e h = apart
      go false y e h = apart

  pub agree_after : {x y : Plan} → Planned t x → Planned u y → Agrees (agreeAfter ws n k x y) (words (next t)) (words (next u))
  agree_after (is_normal x l) (is_normal y o) = rw (next_normal t l, next_normal u o) a
  agree_after (contracts p t' x c l) (is_normal y o) =
      rw (next_is t l, next_normal u o) (agrees_left (left_focus t' p c) (min k p) (omega arith) (omega arith) a)
  agree_after (is_normal x l) (contracts q u' y d o) =
      rw (next_normal t l, next_is u o) (agrees_right (right_focus u' q d) (min k q) (omega arith) (omega arith) a)
  agree_after (contracts p t' x c l) (contracts q u' y d o) = rw (next_is t l, next_is u o) (agree-both t' u' p q c d)

-- What the plan for the left side tells, where it contracts.
module _ {ws : List ℕ} {n k : ℕ} {plan : Plan} (g : Agreeing ws n k plan) {p m : ℕ} (e : plan ≡ contract p m) where
  holder : Start ws n (held ws n)
  holder = term_at_start ws n (held ws n) g.holds.term

  contracting : (u : Term) × (contract_at p (held ws n) ≡ some u) × (size u ≡ m)
  contracting = by (planned_tells (held ws n)) (sym g.plan_is ∙ e)
    where
      by : {x : Plan} → Planned (held ws n) x → x ≡ contract p m → (u : Term) × (contract_at p (held ws n) ≡ some u) × (size u ≡ m)
      by (is_normal r l) f = absurd (let z : ◌≡◌ {A = ℕ} 0 1 = cc in omega arith)
      by (contracts q u r c l) f =
          let same : q ≡ p = cc in
          (u, ap (λ i. contract_at i (held ws n)) (sym same) ∙ c, cc)

  placed : Focus index_limit (words (held ws n)) (words contracting.0) p
  placed = focused (held ws n) contracting.0 p holder.accepted (omega (arith, holder.long, holder.within, g.holds.limit)) contracting.1

  pub redex_long : p < p + span 1 (drop p ws)
  redex_long = omega (arith, redex_end holder placed, size_positive placed.redex)

  pub moved_fits : p + span 1 (drop p ws) ≤ k → n - k ≤ m
  moved_fits h =
      let f = placed in
      omega (
        arith,
        redex_end holder f,
        holder.long,
        contracting.2,
        f.position,
        ap length f.from,
        length-append f.before (words f.redex ++ f.after),
        length-append (words f.redex) f.after,
        ap length f.to,
        length-append f.before (words f.contractum ++ f.after),
        length-append (words f.contractum) f.after,
      )
