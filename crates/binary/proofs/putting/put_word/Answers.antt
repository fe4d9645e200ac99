-- `put_word` meets its contract: by the kind of the word.
use Rattle.binary.proofs.PuttingLaws.{told, abstraction-bits, variable_length, other_length, put_variable, put-abstraction, put_other, next_zero}
use Rattle.calculus.specs.Words.{payload_of}
use lib.ListN.{length}
use mathlib.Core.Path.{sym, ap}
use native.Mathlib.Omega.{arith}
use Rattle.binary.proofs.putting.put_word.Goals as goal

pub put_ones-requires-clause-count_bound : goal.put_ones-requires-clause-count_bound
put_ones-requires-clause-count_bound c =
    let l = variable_length _ (payload_of c.args.word.0) (sym c.in-Variable.ensures) in
    (omega (arith, c.payload.ensures), omega (arith, c.payload.ensures))

pub overflow_add-result : goal.overflow_add-result
overflow_add-result c =
    let l = variable_length _ (payload_of c.args.word.0) (sym c.in-Variable.ensures) in
    omega (arith, c.payload.ensures, c.requires)

pub overflow_add-result-in-Variable : goal.overflow_add-result-in-Variable
overflow_add-result-in-Variable c =
    let l = variable_length _ (payload_of c.args.word.0) (sym c.in-Variable.ensures) in
    omega (arith, c.payload.ensures, c.requires)

pub overflow_add-result-in-Abstraction : goal.overflow_add-result-in-Abstraction
overflow_add-result-in-Abstraction c = omega (arith, ap length (abstraction-bits _ (payload_of c.args.word.0) (sym c.in-Abstraction.ensures)))

pub overflow_add-at : goal.overflow_add-at
overflow_add-at c = omega (arith, other_length _ (payload_of c.args.word.0) (λ e. c.in_default.not-Variable (told c.kind.ensures e)))

pub put_ones-requires-in_default-clause-rest_zero : goal.put_ones-requires-in_default-clause-rest_zero
put_ones-requires-in_default-clause-rest_zero c = next_zero c.args.at c.args.bytes.now c.requires.rest_zero

pub put_ones-requires-in_default-clause-count_bound : goal.put_ones-requires-in_default-clause-count_bound
put_ones-requires-in_default-clause-count_bound c =
    let l = other_length _ (payload_of c.args.word.0) (λ e. c.in_default.not-Variable (told c.kind.ensures e)) in (omega arith, omega arith)

pub overflow_add-result-in_default : goal.overflow_add-result-in_default
overflow_add-result-in_default c = omega (arith, c.requires, other_length _ (payload_of c.args.word.0) (λ e. c.in_default.not-Variable (told c.kind.ensures e)))

pub returns-in-Variable-clause-position : goal.returns-in-Variable-clause-position
returns-in-Variable-clause-position c = omega (arith, c.payload.ensures, variable_length _ (payload_of c.args.word.0) (sym c.in-Variable.ensures))

pub returns-in-Variable-clause-put : goal.returns-in-Variable-clause-put
returns-in-Variable-clause-put c =
    let a = c.args in put_variable a.at a.bytes.now c.requires.rest_zero (sym c.in-Variable.ensures) c.payload.ensures c.put_ones.ensures

pub returns-in-Abstraction-clause-position : goal.returns-in-Abstraction-clause-position
returns-in-Abstraction-clause-position c = omega (arith, ap length (abstraction-bits _ (payload_of c.args.word.0) (sym c.in-Abstraction.ensures)))

pub returns-in-Abstraction-clause-put : goal.returns-in-Abstraction-clause-put
returns-in-Abstraction-clause-put c =
    let a = c.args in put-abstraction a.at a.bytes.now c.requires.rest_zero _ (sym c.in-Abstraction.ensures) c.type_inv.bytes

pub returns-in_default-clause-position : goal.returns-in_default-clause-position
returns-in_default-clause-position c = omega (arith, other_length _ (payload_of c.args.word.0) (λ e. c.in_default.not-Variable (told c.kind.ensures e)))

pub returns-in_default-clause-put : goal.returns-in_default-clause-put
returns-in_default-clause-put c =
    let n = c.in_default in
    let l = other_length _ (payload_of c.args.word.0) (λ e. n.not-Variable (told c.kind.ensures e)) in
    put_other c.args.at c.args.bytes.now c.requires.rest_zero _ (omega arith) (λ e. n.not-Variable (told c.kind.ensures e)) (λ e. n.not-Abstraction (told c.kind.ensures e))
    c.put_ones-in_default.ensures
