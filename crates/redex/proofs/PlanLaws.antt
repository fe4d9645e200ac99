-- The plan of a contraction, from what was found at the redex: the words that stand for the body, and those behind it.
use Prim.Native.Nat.{ℕ, suc, ◌+◌, ◌-◌, ◌≤◌, ◌<◌}
use mathlib.Core.Path.{◌≡◌, refl, sym, ◌∙◌, ap}
use mathlib.Core.List.{List, [], ◌∷◌, ◌++◌, append_assoc}
use mathlib.Core.Option.{some, map}
use native.Mathlib.Omega.{arith}
use lib.ListN.{length, get_or, take, drop, take-append-drop}
use lib.Seq.{slice, length-take-le, take-take, drop-append-le, get_or-drop}
use Rattle.calculus.specs.Term.{Term, Terms}
use Rattle.calculus.specs.Words.{words, size}
use Rattle.calculus.specs.Skip.{span}
use Rattle.calculus.specs.First.{first_terms}
use Rattle.words.proofs.Spans.{span_first}
use Rattle.walk.specs.Depths.{depths}
use Rattle.walk.specs.Rewritten.{substituting, standing}
use Rattle.substitution.specs.Results.{substituted, Replaced}
use Rattle.substitution.specs.Measure.{Measurable, occurrences}
use Rattle.walk.proofs.DepthLaws.{span-depths}
use Rattle.std.proofs.lemmas.List.{drop-take}
use Rattle.substitution.proofs.ResultLaws.{arguments-size}
use Rattle.substitution.proofs.RewritingLaws.{standing-more, rewritten-alone, standing-substituted}
use Rattle.walk.proofs.RewrittenLaws.{place-argument}
use Rattle.substitution.proofs.CountLaws.{occurs_twice}
use Rattle.calculus.specs.Numeral.{numeral}
use Rattle.calculus.specs.Contraction.{Rule as CalculusRule, by_beta}
use Rattle.calculus.specs.Position.{step_at, contract_at}
use Rattle.substitution.specs.declared.Body.{Body}
use Rattle.redex.specs.declared.Rule.{Rule}
use Rattle.redex.specs.declared.Rule.TheVariants as rule
use Rattle.redex.specs.Held.{held, Holds}
use Rattle.redex.specs.Rules.{parted, numbered, rule_of_parts, parts}
use Rattle.redex.specs.Next.{next, HoldsRedex}
use Rattle.redex.specs.Plan.{substituted_words, put_by, rule_of, Substituting, Puttable, Plans, At, Applied, EndTold, walked, stays}
use Rattle.redex.proofs.HeldLaws.{next_term}
use Rattle.redex.proofs.PartsTurns.{parts_beta}
use Rattle.redex.proofs.PlaceLaws.{redex_here}
use Rattle.redex.proofs.NextLaws.{end_at, start, length_short, next-size, Contraction, contraction, rest-length, numeral_in_library, numeral-rest, numeral_long}

-- Words from a position to an end, parted between.
slice_split : (l : List ℕ) (a e n : ℕ) → a ≤ e → e ≤ n → n ≤ length l → slice a n l ≡ slice a e l ++ slice e n l
slice_split l a e n h k m =
    let t = take n l in
    let s = length-take-le n l m in
    let r = length-take-le e t (omega arith) in
    ap (drop a) (sym (take-append-drop e t))
    ∙ drop-append-le a (take e t) (drop e t) (omega arith)
    ∙ ap (λ xs. drop a xs ++ drop e t) (take-take e n l k)

-- A redex starts where its parts are found, and contracts by their rule.
module _ {ws : List ℕ} {n at : ℕ} {rule : CalculusRule} (h : Holds ws n) (within : at < n) (found : rule_of_parts (parts at (drop at ws)) ≡ some rule) where
  stepped : (u : Term) × (step_at at (held ws n) ≡ some (rule, u)) × (contract_at at (held ws n) ≡ some u)
  unfolding contract_at
  stepped = let u = redex_here h within found in (u.0, u.1, ap (map (λ c. c.1)) u.1)

  next_is : next ws n at ≡ stepped.0
  next_is = next_term ws n at stepped.0 stepped.2

  starts_here : HoldsRedex ws n at
  starts_here = record { holds = h; redex = rw next_is stepped.2 }

  -- The next term is what the rule makes of the held one.
  rule_here : step_at at (held ws n) ≡ some (rule, next ws n at)
  rule_here = rw next_is stepped.1

-- The plan of a numeral.
module _ {ws : List ℕ} {n at k : ℕ} (h : Holds ws n) (within : at < n) (found : parts at (drop at ws) ≡ numbered k) where
  pub numeral_found : HoldsRedex ws n at
  numeral_found = starts_here h within (ap rule_of_parts found)

  pub plans_numeral : {len : ℕ} → len ≡ n - 1 + size (numeral k) → Plans ws n (record { rule = rule.Numeral k; at = at; end = at + 1; length = len })
  plans_numeral e =
      record {
        redex = numeral_found;
        rule_is = rule_here h within (ap rule_of_parts found);
        puttable = numeral_in_library numeral_found found;
        ends = omega arith;
        rest = numeral-rest numeral_found found;
        length_is = omega (arith, numeral_long numeral_found found);
      }

module _ {ws room : List ℕ} {n at : ℕ} {rule : CalculusRule} {b a m left : ℕ} (h : At ws n at room) (found : parts at (drop at ws) ≡ parted rule b a m left) where
  pub redex_found : HoldsRedex ws n at
  redex_found = starts_here h.holds h.within (ap rule_of_parts found)

  pub rule_found : step_at at (held ws n) ≡ some (rule, next ws n at)
  rule_found = rule_here h.holds h.within (ap rule_of_parts found)

  pub contracts : Contraction ws n at b a m left
  contracts = contraction redex_found found

  pub measurable : Measurable ws b m room
  measurable =
      record {
        short = h.holds.limit;
        few = contracts.substitutable.few;
        starts = contracts.substitutable.body_starts;
        enough = omega (arith, contracts.small, h.room_fits);
      }

  -- The items left behind the body end where the redex does.
  pub left_end : {stop : ℕ} → stop ≡ b + span 1 (drop b ws) → stop + span left (drop stop ws) ≡ end_at ws at
  left_end e = span_first ws b left e ∙ contracts.ends_left

  -- The whole body is rewritten, and what is behind the redex stays.
  module _ {stop after end len : ℕ} (stop_is : stop ≡ b + span 1 (drop b ws)) (after_is : after ≡ a + span m (drop a ws)) (end_is : end ≡ end_at ws at)
      (length_is : len ≡ at + size (substituted ws b a m) + (n - end)) where
    abbrev pub whole : Body
    whole = record { start = b; stop = stop; args = a; after = after; count = m }

    whole_put : Substituting ws whole
    whole_put =
        record {
          substitutable = contracts.substitutable;
          from = omega arith;
          to = omega arith;
          after_is = λ i l m q. after_is;
          small = omega (arith, contracts.small, length_short redex_found);
        }

    -- By a rule that puts the body.
    pub plans : {ρ : Rule} → rule_of ρ ≡ rule → put_by ws ρ ≡ substituted_words ws whole → (Substituting ws whole → Puttable ws ρ)
        → Plans ws n (record { rule = ρ; at = at; end = end; length = len })
    plans rule_is put_is puttable =
        record {
          redex = redex_found;
          rule_is = rw rule_is rule_found;
          puttable = puttable whole_put;
          ends = omega (arith, contracts.ends);
          rest = rw (put_is, standing-substituted contracts.substitutable stop_is, end_is) contracts.rest;
          length_is = omega (arith, next-size redex_found, rest-length redex_found found);
        }

-- The only argument stays where it is: it stands for the last word of the body, under no binder.
module _ {ws room : List ℕ} {n at b a : ℕ} (h : At ws n at room) (found : parts at (drop at ws) ≡ parted by_beta b a 1 1)
    {stop times last after len : ℕ} (stop_is : stop + 1 ≡ b + span 1 (drop b ws)) (occur : times ≡ occurrences 1 0 (0 ∷ []) (drop b ws))
    (told : EndTold ws a times last after) (end_is : a + span 1 (drop a ws) ≡ end_at ws at)
    (length_is : len ≡ at + size (substituted ws b a 1) + (n - (a + span 1 (drop a ws)))) (some : b ≤ stop)
    (bare : get_or (depths (0 ∷ []) (drop b ws)) (stop - b) 0 ≡ 0) (index : get_or ws stop 0 ≡ 0) where
  abbrev here : HoldsRedex ws n at
  here = redex_found h found

  abbrev c : Contraction ws n at b a 1 1
  c = contracts h found

  abbrev xs : Terms
  xs = first_terms 1 (drop a ws)

  last_word : get_or (drop b ws) (stop - b) 0 ≡ 0
  last_word =
      let e : b + (stop - b) ≡ stop = omega arith in
      get_or-drop b ws (stop - b) 0 ∙ ap (λ k. get_or ws k 0) e ∙ index

  -- Where the argument occurs once, it stands for no word before the last.
  after_is : (i : ℕ) → b ≤ i → i < stop → Replaced ws b 1 i → after ≡ a + span 1 (drop a ws)
  after_is i l m q = go told
    where
      go : EndTold ws a times last after → after ≡ a + span 1 (drop a ws)
      go (walked e) = e
      go (stays once _ _ _) =
          let e : b + (i - b) ≡ i = omega arith in
          let word : get_or (drop b ws) (i - b) 0 ≡ get_or ws i 0 = get_or-drop b ws (i - b) 0 ∙ ap (λ k. get_or ws k 0) e in
          absurd
          (omega (
            arith,
            occur,
            occurs_twice 1 0 (drop b ws) (0 ∷ []) (i - b) (stop - b) (omega arith) (omega (arith, span-depths (drop b ws) (0 ∷ [])))
                (rw word (omega (arith, q)))
                (rw (bare, last_word) (place-argument 1 0 0 refl (omega arith) (omega arith))),
          ))

  -- What stands for the words before the last.
  abbrev front : List ℕ
  front = standing (substituting xs) (stop - b) (0 ∷ []) (drop b ws)

  body_words : words (substituted ws b a 1) ≡ front ++ words xs
  body_words =
      let e : stop + 1 - b ≡ suc (stop - b) = omega arith in
      sym (standing-substituted c.substitutable stop_is)
      ∙ ap (λ k. standing (substituting xs) k (0 ∷ []) (drop b ws)) e
      ∙ standing-more (substituting xs) (stop - b) (drop b ws) (0 ∷ []) (omega (arith, span-depths (drop b ws) (0 ∷ [])))
      ∙ ap (λ vs. front ++ vs) (rw (bare, last_word) (rewritten-alone xs c.substitutable.args_count))

  abbrev behind : ℕ
  behind = a + span 1 (drop a ws)

  argument-words : slice a behind ws ≡ words xs
  argument-words =
      let e : behind ≡ a + size xs = omega (arith, arguments-size c.substitutable) in
      rw e (drop-take a (size xs) ws ∙ c.substitutable.args_start.first)

  argument_stays : words xs ++ slice (end_at ws at) n ws ≡ slice a n ws
  argument_stays =
      rw (← argument-words, ← end_is)
      (sym (slice_split ws a behind n (omega arith) (omega (arith, c.ends)) (start here).within))

  pub plans_left : Plans ws n (record { rule = rule.Beta (record { start = b; stop = stop; args = a; after = after; count = 1 }); at = at; end = a; length = len })
  plans_left =
      record {
        redex = here;
        rule_is = rule_found h found;
        puttable =
            record {
              substitutable = c.substitutable;
              from = some;
              to = omega arith;
              after_is = after_is;
              small = omega (arith, c.small, length_short here);
            };
        ends = omega (arith, c.ends, end_is);
        rest =
            c.rest
            ∙ ap (λ vs. vs ++ slice (end_at ws at) n ws) body_words
            ∙ append_assoc front (words xs) (slice (end_at ws at) n ws)
            ∙ ap (λ vs. front ++ vs) argument_stays;
        length_is = omega (arith, next-size here, rest-length here found, end_is);
      }

-- Where an application of an abstraction has its parts.
module _ {ws room : List ℕ} {n at : ℕ} (h : Applied ws n at room) where
  abbrev pub argument_at : ℕ
  argument_at = at + 2 + span 1 (drop (at + 2) ws)

  pub applied-parts : parts at (drop at ws) ≡ parted by_beta (at + 2) argument_at 1 1
  applied-parts = parts_beta at ws h.further h.application h.abstraction
