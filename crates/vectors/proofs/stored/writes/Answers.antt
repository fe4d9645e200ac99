-- `writes` meets its contract.
use Rattle.vector_text.proofs.ListLaws.{lent_words}
use Rattle.vector_text.specs.Lists.{list_most}
use Rattle.vectors.specs.Pair.{junk}
use Rattle.vectors.specs.Stored.{writes_back}
use lib.ListN.{length}
use mathlib.Core.Path.{◌∙◌, ap}
use Rattle.vectors.proofs.stored.writes.Goals as goal

pub returns : goal.returns
unfolding writes_back
returns c = ap (λ v. v.holds) c.writes_into.ensures ∙ rw (lent_words junk (length c.args.loaded.now) list_most _ c.lent-n.ensures)
