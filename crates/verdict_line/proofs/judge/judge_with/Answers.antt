-- `judge_with` meets its contract: a request is judged by the words that are lent, in workspaces that are the first words of longer arrays.
use Rattle.std.proofs.Common.{ℕ, List, ◌≡◌, ◌≤◌, sym, ◌∙◌, ap, arith, rules, Err}
use Rattle.std.proofs.Math.Option.{some}
use Rattle.std.specs.Prelude.{min}
use Rattle.request.specs.declared.Table.{Table}
use Rattle.verdict_line.specs.Line.{judged}
use Rattle.verdict_line.specs.Judge.{lent_most, request_for}
use Rattle.verdict_line.proofs.JudgeLaws.{refused_left, refused_right, pressed_line}
use Rattle.verdict_line.proofs.LineLaws.{judged_lent}
use Rattle.verdict_line.proofs.judge.judge_with.Goals as goal

for-all_words : {n : ℕ} (bytes : List ℕ) (budget c : ℕ) (left right : Table) → n ≡ min c lent_most
    → judged (some (request_for bytes budget n left right)) ≡ judged (some (request_for bytes budget c left right))
for-all_words bytes budget c left right e =
    ap (λ C. judged (some (request_for bytes budget C left right))) e ∙ sym (judged_lent budget c _ _)

pub returns-in_err-l : goal.returns-in_err-l
returns-in_err-l c =
    let q = c.args.request in
    let x = c.load_from in
    let within : c.lent-n.result ≤ lent_most = omega (arith, c.lent-n.ensures) in
    let is : c.from_residual.result ≡ Err c.in_err-l.field-0.0 = search rules in
    rw is
    (refused_left c.lent-n.result within q.budget _ _ x.new.workspace x.ensures c.in_err-l.was ∙ for-all_words c.args.bytes.now q.budget q.c q.left q.right c.lent-n.ensures)

pub returns-in_err-r : goal.returns-in_err-r
returns-in_err-r c =
    let q = c.args.request in
    let x = c.load_from in
    let y = c.load_from-2 in
    let within : c.lent-n.result ≤ lent_most = omega (arith, c.lent-n.ensures) in
    let is : c.from_residual-in_err-r.result ≡ Err c.in_err-r.field-0.0 = search rules in
    rw is
    (refused_right c.lent-n.result within q.budget _ _ x.new.workspace x.ensures c.in_ok-l.was y.new.workspace y.ensures c.in_err-r.was
    ∙ for-all_words c.args.bytes.now q.budget q.c q.left q.right c.lent-n.ensures)

pub returns : goal.returns
returns c =
    let q = c.args.request in
    let x = c.load_from in
    let y = c.load_from-2 in
    let p = c.press_owned-pressed in
    let within : c.lent-n.result ≤ lent_most = omega (arith, c.lent-n.ensures) in
    pressed_line c.lent-n.result within q.budget _ _ x.new.workspace x.ensures c.in_ok-l.was y.new.workspace y.ensures c.in_ok-r.was x.auto.workspace y.auto.workspace c.fresh.result c.fresh.ensures p.result _ _ _ p.ensures
    ∙ for-all_words c.args.bytes.now q.budget q.c q.left q.right c.lent-n.ensures
