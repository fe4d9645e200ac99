-- `judge_records` meets its contract: each return knows that the checks before it pass.
use Rattle.records.specs.Preconditions.{Walkable}
use Rattle.records.specs.Types.{stored_of, viewed_of}
use Rattle.storage.proofs.RecordLaws.{rooted}
use Rattle.storage.specs.Links.{wrong_link}
use mathlib.Core.Bool.{Bool, false}
use Rattle.storage.specs.Header.{wrong_length, wrong_header}
use Rattle.records.specs.declared.Table.{Table}
use mathlib.Core.Path.{◌≡◌, sym, ◌∙◌}
use Rattle.tables.proofs.judging.judge_records.Goals as goal

-- The root is a record of a table whose links fit.
walkable : (t : Table) {b : Bool} → (wrong_length (stored_of t) ≡ false) × (wrong_header (stored_of t) ≡ false)
    → b ≡ wrong_link (viewed_of t) → b ≡ false → Walkable (stored_of t) (viewed_of t).root
walkable t p e h = record { length_fits = p.0; links-fit = sym e ∙ h; link_within = (rooted _ p.1).1 }

pub wrong_children-requires : goal.wrong_children-requires
wrong_children-requires c =
    (walkable c.args.table.now c.requires.headed c.wrong_links.ensures.0 c.if-wrong_links.false, (rooted _ c.requires.headed.1).0)

pub judge_free_numbers-requires-clause-readable : goal.judge_free_numbers-requires-clause-readable
judge_free_numbers-requires-clause-readable c = (
  record {
    walkable = walkable c.args.table.now c.requires.headed c.wrong_links.ensures.0 c.if-wrong_links.false;
    values_fit = sym c.wrong_values.ensures ∙ c.if-wrong_values.false;
    children-fit = sym c.wrong_children.ensures ∙ c.if-wrong_children.false;
  },
  (rooted _ c.requires.headed.1).0,
)
