-- `put_decimal` meets its contract: what it puts are the digits kept.
use Rattle.text.proofs.DecimalLaws.{kept_part}
use mathlib.Core.Path.{refl}
use Rattle.text.proofs.decimal.put_decimal.Goals as goal

pub returns : goal.returns
returns c =
    let k = c in
    rw (kept_part c.args.n c.keep_digits-from.ensures refl) at c.put_bytes.ensures
