-- `list` meets its contract: what is still ahead decides.
use Rattle.std.proofs.Common.{ℕ, ◌-◌, ◌+◌, ◌≡◌, List, length, Bor, sym, ◌∙◌, ap, ap₂, arith}
use Rattle.std.proofs.Math.Nat.{sub-zero}
use Rattle.vector_text.proofs.ListLaws.{items_last, items-next, items-end}
use Rattle.vector_text.specs.Lists.{listed_of, list_at}
use Rattle.vector_text.specs.declared.Reader.{Reader}
use mathlib.Core.Bool.{not}
use Rattle.vector_text.proofs.Reader.list.Goals as goal

abbrev reader : Bor (List ℕ) → ℕ → Reader
reader line at = record { line = line; at = at }

pub loop-init : goal.loop-init
unfolding list_at
loop-init c = record { line = rw c.take.ensures.next; ahead = rw (c.take.ensures.next, c.take.ensures.found, c.if-take.false, sub-zero) }

pub loop-preserved : goal.loop-preserved
loop-preserved c =
    let held = c.loop in
    let more = c.more-count in
    let line = c.args.self.now.line.now in
    let before = listed_of held.into held.count held.self.at in
    let after = listed_of more.new.into more.result more.new.self.at in
    let same = more.ensures.line ∙ held.invariant.line in
    let one = rw held.invariant.line at more.ensures.listed in
    let found = rw same at c.take-in-loop.ensures.found ∙ ap not c.if-not-take.false in
    let end = length c.take.new.self.line.now in
    let down : end - (held.counter + 1) ≡ end - held.counter - 1 = omega arith in
    record {
      line = rw c.take-in-loop.ensures.next same;
      ahead = rw (c.take-in-loop.ensures.next, c.if-not-take.false, same, down) (sym (items-next line before after one (end - held.counter) (omega arith) found) ∙ held.invariant.ahead);
    }

pub returns-after-loop : goal.returns-after-loop
returns-after-loop c =
    let held = c.loop in
    let line = c.args.self.now.line.now in
    let done = sym (items-end line (listed_of held.into held.count held.self.at) _ (omega arith)) ∙ held.invariant.ahead in
    record { words = ap (λ l. l.words) done; count = ap (λ l. l.count) done; next = ap₂ reader held.invariant.line (ap (λ l. l.next) done) }

pub returns-then-not-take : goal.returns-then-not-take
returns-then-not-take c =
    let held = c.loop in
    let more = c.more-count in
    let line = c.args.self.now.line.now in
    let before = listed_of held.into held.count held.self.at in
    let after = listed_of more.new.into more.result more.new.self.at in
    let same = more.ensures.line ∙ held.invariant.line in
    let one = rw held.invariant.line at more.ensures.listed in
    let found = rw same at c.take-in-loop.ensures.found ∙ ap not c.if-not-take.true in
    let done = sym (items_last line before after one _ (omega arith) found) ∙ held.invariant.ahead in
    record { words = ap (λ l. l.words) done; count = ap (λ l. l.count) done; next = rw (c.take-in-loop.ensures.next, c.if-not-take.true, same, ap (λ l. l.next) done) }
