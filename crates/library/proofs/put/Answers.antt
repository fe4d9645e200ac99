-- `put` meets its contract: the words copied are an entry of the table.
use Prim.Native.Nat.{◌+◌, ◌*◌}
use Rattle.calculus.proofs.NumeralLaws.{numeral-words}
use Rattle.library.proofs.EntryLaws.{entry-within, entry-words}
use lib.ListN.{length}
use lib.Seq.{sets}
use mathlib.Core.Path.{◌≡◌, ◌∙◌, ap}
use native.Mathlib.Omega.{arith}
use Rattle.library.proofs.put.Goals as goal

module _ (c : goal.After-copy-arg-1) where
  abbrev s-2 : goal.After-copy-arg-1
  s-2 = c

  long-2 : c.entry_length.result ≡ 2 * s-2.args.n + 3
  long-2 = c.entry_length.ensures ∙ (numeral-words s-2.args.n).1

pub copy-requires : goal.copy-requires
copy-requires c =
    let e = c.library-table.ensures in
    record {
      ordered = omega arith;
      within = omega (arith, entry-within e (s-2 c).requires.0, long-2 c);
      fits = omega (arith, (s-2 c).requires.1, c.entry_length.ensures);
    }

module _ (c : goal.After-slice_known-2-1) where
  abbrev s-3 : goal.After-slice_known-2-1
  s-3 = c

  long-3 : c.entry_length.result ≡ 2 * s-3.args.n + 3
  long-3 = c.entry_length.ensures ∙ (numeral-words s-3.args.n).1

pub returns : goal.returns
returns c =
    let l = c in
    let p = c.copy.ensures in
    let copied = entry-words c.library-table.ensures (s-3 l).requires.0 (long-3 l) in
    record { slice = p.slice ∙ ap (sets _ _) copied; position = p.position ∙ ap (λ vs. (s-3 l).args.out + length vs) copied }
