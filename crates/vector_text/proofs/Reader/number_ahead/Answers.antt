-- `number_ahead` meets its contract: what is still ahead decides.
use Rattle.std.proofs.Common.{ℕ, ◌-◌, ◌≤◌, ◌≡◌, List, length, take, drop, refl, sym, ◌∙◌, ap, eq-eqb, arith}
use Rattle.std.proofs.lemmas.Bool.Decides.{nat_tests}
use Rattle.vector_text.proofs.TextLaws.{digits-end, digits-stop, digits_over, digits-next, number_of_text}
use Rattle.vector_text.specs.Text.{past_space, digits, number_at}
use borrow.Author.Rules.{part_to_end}
use borrow.Author.Tests.{lt-ltb}
use Rattle.vector_text.proofs.Reader.number_ahead.Goals as goal

-- All that is ahead behind the space.
whole : (text : List ℕ) (at from : ℕ) → at ≤ length text → from ≡ past_space text at → digits from 0 from (take (length text - from) (drop from text)) ≡ number_at text at
whole text at from h e = ap (digits from 0 from) (part_to_end text from) ∙ sym (number_of_text text at from h e)

pub returns-then-self : goal.returns-then-self
unfolding number_at
returns-then-self c = rw (lt-ltb _ _ c.if-self.true, eq-eqb c.args.self.now.at c.args.self.now.at refl)

pub returns-then-not-is_ascii_digit : goal.returns-then-not-is_ascii_digit
returns-then-not-is_ascii_digit c =
    let from = c.past_space-from.result in
    let ended = digits-stop _ from c.loop-byte.value c.loop-byte.end _ c.loop-byte-test.true _ refl (grind (arith, nat_tests)) in
    c.number_read.ensures ∙ sym ended ∙ c.loop-byte.invariant.ahead ∙ whole _ _ _ c.if-self.false c.past_space-from.ensures.0

pub returns-then-value-from : goal.returns-then-value-from
returns-then-value-from c =
    let from = c.past_space-from.result in
    let ended = digits_over _ from c.loop-byte.value c.loop-byte.end _ c.loop-byte-test.true _ refl (grind (arith, nat_tests)) (omega (arith, c.from.ensures, c.if-value-from.true)) in
    c.number_read-then-value-from.ensures ∙ sym ended ∙ c.loop-byte.invariant.ahead ∙ whole _ _ _ c.if-self.false c.past_space-from.ensures.0

pub loop-byte-preserved : goal.loop-byte-preserved
loop-byte-preserved c = record {
  place = omega arith;
  small = grind (arith, nat_tests);
  ahead = sym (digits-next _ c.past_space-from.result c.loop-byte.value c.loop-byte.end _ c.loop-byte-test.true _ (grind (arith, nat_tests)) (grind (arith, nat_tests)) (omega (arith, c.from.ensures, c.if-value-from.false))) ∙ c.loop-byte.invariant.ahead;
}

pub returns : goal.returns
returns c = c.number_read-2.ensures ∙ sym (digits-end _ _ _ _ _ c.loop-byte-test.false) ∙ c.loop-byte.invariant.ahead ∙ whole _ _ _ c.if-self.false c.past_space-from.ensures.0
