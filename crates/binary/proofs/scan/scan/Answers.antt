-- `scan` meets its contract. The invariant is `Scanning`; after each token, the next state tells that the sums fit.
use Rattle.binary.proofs.ScanLaws.{scanning_start, scanning_length, left_over, scanned, said_early, said_abstraction, said_application, said_variable}
use Rattle.bits.specs.declared.reading.Token as code
use Rattle.bits.specs.Tokens.{Token, token_of}
use Rattle.std.specs.Prelude.{Some, None}
use Rattle.words.proofs.RoomLaws.{room_of_length}
use lib.ListN.{set}
use mathlib.Core.Path.{◌≡◌, sym, ap, refl, ◌∙◌}
use native.Mathlib.Omega.{arith}
use borrow.Author.Rules.{rules}
use Rattle.binary.proofs.scan.scan.Goals as goal
use Rattle.binary.proofs.scan.scan.Goals.{in-Abstraction, in-Application, in-Variable}

found : {t u : code.Token} {of : Token} → token_of (Some t) ≡ of → t ≡ u → token_of (Some u) ≡ of
found e is = ap (λ t. token_of (Some t)) (sym is) ∙ e

pub loop-at-init : goal.loop-at-init
loop-at-init c = scanning_start c.args.bytes.now c.args.bits c.args.words.now c.requires

pub returns-then-terms-eq0 : goal.returns-then-terms-eq0
returns-then-terms-eq0 c = let v = c.loop-at.invariant in (left_over v c.if-terms-eq0.true (omega arith), room_of_length (scanning_length v))

pub returns-in_err-first_token : goal.returns-in_err-first_token
returns-in_err-first_token c =
    let v = c.loop-at.invariant in
    let none : c.from_residual.result ≡ None = search rules in
    rw none (said_early v c.if-terms-eq0.false c.in_err-first_token.ensures, room_of_length (scanning_length v))

pub overflow_add-at : goal.overflow_add-at
overflow_add-at c =
    let next = said_abstraction c.loop-at.invariant c.if-terms-eq0.false (found c.in_ok-first_token.ensures c.in-Abstraction.is) _ refl in omega (arith, next.inside)

pub overflow_add-at-in-Application : goal.overflow_add-at-in-Application
overflow_add-at-in-Application c =
    let next = said_application c.loop-at.invariant c.if-terms-eq0.false (found c.in_ok-first_token.ensures c.in-Application.is) _ refl in omega (arith, next.inside)

pub overflow_add-at-in-Variable : goal.overflow_add-at-in-Variable
overflow_add-at-in-Variable c =
    let next = said_variable c.loop-at.invariant c.if-terms-eq0.false c.in-Variable.index (found c.in_ok-first_token.ensures c.in-Variable.is) _ refl in omega (arith, next.inside)

pub overflow_add-at-in-Variable-2 : goal.overflow_add-at-in-Variable-2
overflow_add-at-in-Variable-2 c =
    let next = said_variable c.loop-at.invariant c.if-terms-eq0.false c.in-Variable.index (found c.in_ok-first_token.ensures c.in-Variable.is) _ refl in omega (arith, next.inside)

pub loop-at-preserved : goal.loop-at-preserved
loop-at-preserved c =
    let l = c.loop-at in
    let n = c.if-terms-eq0.false in
    let e = c.in_ok-first_token.ensures in
    elim c.match-branch-2.branch [
      | in-Abstraction w ↦
          rw (w.words-is, w.at-is, w.terms-is) (said_abstraction l.invariant n (found e w.in-Abstraction.is) _ (w.store.ensures ∙ ap (set l.words l.count) w.new.ensures))
      | in-Application w ↦
          rw (w.words-is, w.at-is, w.terms-is)
          (said_application l.invariant n (found e w.in-Application.is) _ (w.store-in-Application.ensures ∙ ap (set l.words l.count) w.new-in-Application.ensures))
      | in-Variable w ↦
          rw (w.words-is, w.at-is, w.terms-is)
          (said_variable l.invariant n w.in-Variable.index (found e w.in-Variable.is) _ (w.store-in-Variable.ensures ∙ ap (set l.words l.count) w.variable.ensures))
    ]

pub returns : goal.returns
returns c = rw c.then_some.ensures (scanned c.loop-at.invariant (omega arith))
