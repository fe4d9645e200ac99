-- The contraction of the held term in the words of the workspace: the parts found at the redex's position are those that substitution asks for,
-- and the next term's words are those before the redex, the substituted body's or the numeral's, and those behind the redex.
use Prim.Native.Nat.{ℕ, suc, ◌+◌, ◌-◌, ◌*◌, ◌≤◌, ◌<◌}
use mathlib.Core.Path.{◌≡◌, refl, sym, subst, ◌∙◌, ap, ap₂}
use mathlib.Core.List.{List, ◌++◌, append_assoc}
use mathlib.Core.Option.{Option, some, map, some-injective}
use native.Mathlib.Nat.{add-zero}
use native.Mathlib.Omega.{arith}
use lib.ListN.{length, take, drop, length-append, length-drop}
use lib.Seq.{slice, length-slice, length-take-le, take_at, drop_at}
use Rattle.calculus.specs.Term.{Sort, Exp, Term, Terms, num, count}
use Rattle.calculus.specs.Words.{count_base, workspace_most, words, size}
use Rattle.calculus.specs.Skip.{span}
use Rattle.calculus.specs.Substitution.{subst as substitution}
use Rattle.calculus.specs.Numeral.{numeral}
use Rattle.calculus.specs.Contraction.{Rule}
use Rattle.calculus.specs.Position.{contract_at}
use Rattle.calculus.specs.Theorems.{Packable, IndicesWithin}
use Rattle.calculus.proofs.WordLaws.{InLibrary, accepted_in_library, accepted_packable}
use Rattle.calculus.proofs.SizeLaws.{size-subst}
use Rattle.calculus.proofs.FirstLaws.{span-items}
use Rattle.calculus.proofs.Indices.{indices_bounded}
use Rattle.calculus.proofs.PositionLaws.{contract_at_position, contract_at-within}
use Rattle.calculus.proofs.Focus.{Focus, focus}
use Rattle.calculus.specs.Accepted.{index_limit, numeral_limit}
use Rattle.substitution.specs.Results.{Substitutable, substituted}
use Rattle.substitution.proofs.ResultLaws.{substituted-at, substitutable_at}
use Rattle.redex.specs.Held.{held}
use Rattle.redex.specs.Rules.{parted, numbered, parts}
use Rattle.redex.specs.Next.{next, next_from, HoldsRedex}
use Rattle.redex.proofs.HeldLaws.{Start, term_at_start}
use Rattle.redex.proofs.RedexLaws.{From, Stands, stands, Root, contracts, expands, root}

-- The end of the item that starts at a position.
abbrev pub end_at : List ℕ → ℕ → ℕ
end_at ws at = at + span 1 (drop at ws)

-- What is known where the parts of the redex at `at` were found at b and a, with m arguments and so many items left behind the body: the arguments
-- may be substituted, the redex ends with the last item, and from the redex on the next term's words are those of the substituted body and those
-- behind the redex.
pub record Contraction (ws : List ℕ) (n at b a m left : ℕ) : Type 0 where
  pub substitutable : Substitutable ws b a m
  pub ends_left : b + span (suc left) (drop b ws) ≡ end_at ws at
  pub ends : end_at ws at ≤ n
  pub rest : next_from ws n at ≡ words (substituted ws b a m) ++ slice (end_at ws at) n ws
  pub short : size (substituted ws b a m) ≤ workspace_most * workspace_most
  pub small : span 1 (drop b ws) + span m (drop a ws) ≤ n

stands_short : {s : Sort} {e : Exp s} {W : List ℕ} {p : ℕ} → Stands W p e → size e ≤ length W
stands_short {e = e} {W} {p} s = omega (arith, ap length s.words_at.from, length-append (words e) s.after, length-drop p W)

-- The parts of a term that contracts.
record Apart (W : List ℕ) (at : ℕ) (t c : Term) (b a m left : ℕ) : Type 0 where
  body : Term
  arguments : Terms
  body_stands : Stands W b body
  arguments_stand : Stands W a arguments
  counted : count arguments ≡ m
  few : m < count_base
  indices : (limit : ℕ) → IndicesWithin limit t → IndicesWithin limit arguments
  smaller : size body + size arguments ≤ size t
  ends_left : b + span (suc left) (drop b W) ≡ at + size t
  contracted : c ≡ substitution arguments 0 body

apart : {W : List ℕ} {at : ℕ} {t c : Term} {o : Option (Rule × Term)} {rule : Rule} {b a m left : ℕ} → Root W at t o (parted rule b a m left)
    → map (λ s. s.1) o ≡ some c → Apart W at t c b a m left
apart (contracts {e = e} {xs = xs} s s' l i m q) p =
    record {
      body = e;
      arguments = xs;
      body_stands = s;
      arguments_stand = s';
      counted = refl;
      few = l;
      indices = i;
      smaller = m;
      ends_left = q;
      contracted = sym (some-injective _ _ p);
    }

expanded : {W : List ℕ} {at : ℕ} {t c : Term} {o : Option (Rule × Term)} {k : ℕ} → Root W at t o (numbered k) → map (λ s. s.1) o ≡ some c
    → (t ≡ num k) × (c ≡ numeral k)
expanded (expands e) p = (e, sym (some-injective _ _ p))

module _ {ws : List ℕ} {n at : ℕ} (here : HoldsRedex ws n at) where
  pub start : Start ws n (held ws n)
  start = term_at_start ws n (held ws n) here.holds.term

  pub redex_within : at < n
  redex_within = omega (arith, start.long, contract_at-within (held ws n) at (next ws n at) here.redex)

  pub length_short : n ≤ workspace_most
  length_short = omega (arith, start.within, here.holds.limit)

  packable : Packable (held ws n)
  packable = accepted_packable 0 (held ws n) start.accepted

  indices : IndicesWithin index_limit (held ws n)
  indices = indices_bounded (held ws n) start.accepted (omega (arith, start.long, start.within, here.holds.limit))

  focused : Focus index_limit (words (held ws n)) (words (next ws n at)) at
  focused = focus index_limit ((contract_at_position at (held ws n) (next ws n at)).0 here.redex).1 packable indices (accepted_in_library 0 (held ws n) start.accepted)

  -- The redex stands at its position.
  workspace_is : ws ≡ focused.before ++ (words focused.redex ++ (focused.after ++ drop n ws))
  workspace_is = sym start.start ∙ rw focused.from (simp append_assoc)

  redex_from : From ws at (words focused.redex ++ (focused.after ++ drop n ws))
  redex_from = record { from = ap (drop at) workspace_is ∙ drop_at focused.before _ at focused.position }

  redex_stands : Stands ws at focused.redex
  redex_stands = stands focused.redex (focused.after ++ drop n ws) redex_from focused.packable

  redex_span : span 1 (drop at ws) ≡ size focused.redex
  redex_span = ap (span 1) redex_from.from ∙ span-items focused.redex _ refl focused.packable

  before_is : take at ws ≡ focused.before
  before_is = ap (take at) workspace_is ∙ take_at focused.before _ at focused.position

  end_is : length (focused.before ++ words focused.redex) ≡ end_at ws at
  end_is = omega (arith, redex_span, focused.position, length-append focused.before (words focused.redex))

  -- The words before the redex stay.
  next_keeps : words (next ws n at) ≡ take at ws ++ (words focused.contractum ++ focused.after)
  next_keeps = rw before_is focused.to

  next-rest : next_from ws n at ≡ words focused.contractum ++ focused.after
  next-rest = ap (drop at) focused.to ∙ drop_at focused.before _ at focused.position

  pub next_splits : words (next ws n at) ≡ take at ws ++ next_from ws n at
  next_splits = rw next-rest next_keeps

  pub next-size : size (next ws n at) ≡ at + length (next_from ws n at)
  next-size =
      omega (
        arith,
        ap length next_splits,
        length-append (take at ws) (next_from ws n at),
        length-take-le at ws (omega (arith, redex_within, start.within)),
      )

  after_is : slice (end_at ws at) n ws ≡ focused.after
  after_is =
      let f = focused in
      ap (drop (end_at ws at)) (sym start.taken ∙ f.from ∙ sym (append_assoc f.before (words f.redex) f.after))
      ∙ drop_at (f.before ++ words f.redex) f.after (end_at ws at) end_is

  end-within : end_at ws at ≤ n
  end-within =
      let f = focused in
      omega (arith, end_is, start.long, ap length (f.from ∙ sym (append_assoc f.before (words f.redex) f.after)), length-append (f.before ++ words f.redex) f.after)

  module _ {rule : Rule} {b a m left : ℕ} (found : parts at (drop at ws) ≡ parted rule b a m left) where
    at-parts : Apart ws at focused.redex focused.contractum b a m left
    unfolding contract_at
    at-parts = apart (rw found at (root redex_stands)) focused.contracts

    substituted_is : substituted ws b a m ≡ focused.contractum
    substituted_is =
        let q = at-parts in
        let s = q.body_stands in
        let s' = q.arguments_stand in
        substituted-at ws b a m q.body q.arguments s.after s'.after s.words_at.from s.packable s'.words_at.from s'.packable q.counted
        ∙ sym q.contracted

    pub contraction : Contraction ws n at b a m left
    contraction =
        let q = at-parts in
        let s = q.body_stands in
        let s' = q.arguments_stand in
        record {
          substitutable =
              substitutable_at ws b a m q.body q.arguments s.after s'.after s.words_at.from s.packable s'.words_at.from s'.packable
              q.counted here.holds.limit (omega (arith, q.few)) (q.indices index_limit focused.indices);
          ends_left = omega (arith, q.ends_left, redex_span);
          ends = end-within;
          rest = rw (after_is, substituted_is) next-rest;
          short =
              rw (substituted_is ∙ q.contracted)
              (omega (arith, here.holds.limit, size-subst q.arguments workspace_most (omega arith) (omega (arith, stands_short s', here.holds.limit)) 0 q.body, stands_short s));
          small =
              omega (
                arith,
                q.smaller,
                redex_span,
                end-within,
                ap (span 1) s.words_at.from ∙ span-items q.body s.after refl s.packable,
                ap (span m) s'.words_at.from ∙ span-items q.arguments s'.after (add-zero (count q.arguments) ∙ q.counted) s'.packable,
              );
        }

    -- The lengths of the parts make up that of the next term.
    pub rest-length : length (next_from ws n at) ≡ size (substituted ws b a m) + (n - end_at ws at)
    rest-length =
        omega (
          arith,
          ap length contraction.rest,
          length-append (words (substituted ws b a m)) (slice (end_at ws at) n ws),
          length-slice (end_at ws at) n ws start.within,
        )

  -- A numeral was found: it is the whole redex, and its term takes its place.
  module _ {k : ℕ} (found : parts at (drop at ws) ≡ numbered k) where
    at_numeral : (focused.redex ≡ num k) × (focused.contractum ≡ numeral k)
    unfolding contract_at
    at_numeral = expanded (rw found at (root redex_stands)) focused.contracts

    pub numeral_in_library : k ≤ numeral_limit
    numeral_in_library = subst InLibrary at_numeral.0 focused.numerals

    numeral_ends : end_at ws at ≡ at + 1
    numeral_ends = omega (arith, redex_span, ap size at_numeral.0)

    pub numeral-rest : next_from ws n at ≡ words (numeral k) ++ slice (at + 1) n ws
    numeral-rest = next-rest ∙ ap₂ (λ t vs. words t ++ vs) at_numeral.1 (sym after_is ∙ ap (λ e. slice e n ws) numeral_ends)

    pub numeral_long : size (next ws n at) ≡ n - 1 + size (numeral k)
    numeral_long =
        omega (
          arith,
          next-size,
          redex_within,
          ap length numeral-rest,
          length-append (words (numeral k)) (slice (at + 1) n ws),
          length-slice (at + 1) n ws start.within,
        )
