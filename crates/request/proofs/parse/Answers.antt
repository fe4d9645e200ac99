-- `parse` meets its contract: its tests are those of the laws that say which request bytes are.
use Rattle.request.proofs.RequestLaws.{left_count, there, count_missing, no_left, no_right, surplus, asked}
use Rattle.request.specs.Parse.{end}
use mathlib.Core.Path.{sym}
use native.Mathlib.Omega.{arith}
use Rattle.request.proofs.parse.Goals as goal

pub returns-then-bytes-lt-LEFT : goal.returns-then-bytes-lt-LEFT
returns-then-bytes-lt-LEFT c = record { meaning = no_left _ (count_missing _ left_count (omega arith)); standing = tt }

pub returns-in_err-left : goal.returns-in_err-left
returns-in_err-left c = rw c.from_residual.ensures (record { meaning = no_left _ (sym c.in_err-left.ensures); standing = tt })

pub overflow_mul-left : goal.overflow_mul-left
overflow_mul-left c =
    let t = there c.args.bytes.now left_count (sym c.in_ok-left.ensures) in
    omega (arith, t.stands.few)

pub overflow_add-left : goal.overflow_add-left
overflow_add-left c =
    let t = there c.args.bytes.now left_count (sym c.in_ok-left.ensures) in
    omega (arith, t.behind, t.stands.few)

pub table_at-requires-2 : goal.table_at-requires-2
table_at-requires-2 c = (there c.args.bytes.now left_count (sym c.in_ok-left.ensures)).stands.inside

pub returns-in_err-right : goal.returns-in_err-right
returns-in_err-right c =
    rw c.from_residual-in_err-right.ensures (record { meaning = no_right _ (sym c.in_ok-left.ensures) (sym c.in_err-right.ensures); standing = tt })

pub overflow_mul-right : goal.overflow_mul-right
overflow_mul-right c =
    let u = there c.args.bytes.now (end c.in_ok-left.left) (sym c.in_ok-right.ensures) in
    omega (arith, u.stands.few)

pub overflow_add-right : goal.overflow_add-right
overflow_add-right c =
    let t = there c.args.bytes.now left_count (sym c.in_ok-left.ensures) in
    let u = there c.args.bytes.now (end c.in_ok-left.left) (sym c.in_ok-right.ensures) in
    omega (arith, t.behind, t.stands.few, u.behind, u.stands.few)

pub returns-then-right-bytes : goal.returns-then-right-bytes
returns-then-right-bytes c =
    record { meaning = surplus _ (sym c.in_ok-left.ensures) (sym c.in_ok-right.ensures) c.if-right-bytes.true; standing = tt }

pub returns : goal.returns
returns c =
    let left = sym c.in_ok-left.ensures in
    let right = sym c.in_ok-right.ensures in
    record {
      meaning = rw (c.word_at.ensures, c.word_at-2.ensures) (asked _ left right c.if-right-bytes.false);
      standing = ((there c.args.bytes.now left_count left).stands, (there c.args.bytes.now (end c.in_ok-left.left) right).stands);
    }
