-- `ones_in_window` meets its contract.
use Prim.Native.Nat.{◌*◌, ◌-◌, ◌%◌, ◌^◌}
use Rattle.bits.proofs.WindowLaws.{window_ones}
use lib.Count.{count_leading_zeros}
use mathlib.Core.Path.{ap, ◌∙◌}
use Rattle.bits.proofs.reading.ones_in_window.Goals as goal

pub returns : goal.returns
returns c =
    ap (λ w. count_leading_zeros 64 (18446744073709551615 - w * 2 ^ (c.args.at % 8) % 18446744073709551616)) c.window.ensures
    ∙ window_ones c.args.at c.args.bytes.now
