-- `bits_of` meets its contract.
use Rattle.binary.proofs.PuttingLaws.{bits_at, sum-bits, length_below}
use Rattle.std.proofs.Common.{rules, ◌∙◌}
use Rattle.std.proofs.lemmas.Iterator.{YieldsList-from_slice, YieldsList-from_map}
use Rattle.std.proofs.lemmas.Iterator.Consumers.{YieldsList-at, sum_by_from_yields_List, fits_by_from_yields_list}
use Rattle.std.specs.Prelude.{length}
use Rattle.std.proofs.Math.Seq.{take-length}
use Rattle.binary.proofs.putting.bits_of.Goals as goal

pub sum-requires-clause-fits : goal.sum-requires-clause-fits
sum-requires-clause-fits c =
    fits_by_from_yields_list bits_at c.args.words.now c.map.result _
    (YieldsList-from_map _ bits_at (YieldsList-at c.map.ensures.source (YieldsList-from_slice c.args.words.now cc)) c.map.ensures.closure (λ x r q k. search rules))
    (rw (sum-bits, ← take-length c.args.words.now) (length_below c.args.words.now (length c.args.words.now) c.type_inv.words c.requires))

pub returns : goal.returns
returns c =
    sum_by_from_yields_List bits_at c.args.words.now c.map.result _ c.sum.ensures.ran
    (YieldsList-from_map _ bits_at (YieldsList-at c.map.ensures.source (YieldsList-from_slice c.args.words.now cc)) c.map.ensures.closure (λ x r q k. search rules))
    ∙ sum-bits c.args.words.now
