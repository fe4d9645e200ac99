-- The readers meet their contracts, as one cycle of calls.
use mathlib.Core.Path.{refl, ap}
use native.Mathlib.Nat.{pos_of_ne-zero}
use native.Mathlib.Omega.{arith}
use lib.ListN.{length}
use Rattle.records.specs.Types.{stored_of, viewed_of, record_of}
use Rattle.transcription.specs.Reading.{chain_words}
use Rattle.storage.proofs.RecordLaws.{parts}
use Rattle.records.proofs.Walks.{walk_inside}
use Rattle.transcription.proofs.ReadingLaws.{chain_words-end, read_on, term_read}
use Rattle.words.proofs.PlacedLaws.{placed_none, placed_cons, placed_append}
use Rattle.transcription.proofs.reading.+readers.Goals as goal

pub read_chain-returns-then-link-eq0 : goal.read_chain-returns-then-link-eq0
read_chain-returns-then-link-eq0 t c = rw (chain_words-end (viewed_of c.args.table.now) _ c.if-link-eq0.true) (placed_none _ _)

pub read_chain-read_term-end-requires : goal.read_chain-read_term-end-requires
read_chain-read_term-end-requires t c =
    let positive = pos_of_ne-zero c.if-link-eq0.false in (
      omega (arith, c.decreases),
      ((c.requires.readable, positive), omega (arith, c.requires.room, (read_on _ _ _ c.requires.readable positive refl).words_length)),
    )

pub read_chain-at-requires : goal.read_chain-at-requires
read_chain-at-requires t c = walk_inside _ _ c.requires.readable.walkable

pub read_chain-read_chain-requires : goal.read_chain-read_chain-requires
read_chain-read_chain-requires t c =
    let on = read_on _ _ _ c.requires.readable (pos_of_ne-zero c.if-link-eq0.false) c.at.ensures in (
      omega (arith, c.decreases, on.fewer_after),
      (on.after, omega (arith, c.requires.room, on.words_length, c.read_term-end.ensures.position)),
    )

pub read_chain-returns : goal.read_chain-returns
read_chain-returns t c =
    let on = read_on _ _ _ c.requires.readable (pos_of_ne-zero c.if-link-eq0.false) c.at.ensures in
    rw on.words (placed_append c.read_term-end.ensures c.read_chain.ensures)

pub read_term-at-record-requires : goal.read_term-at-record-requires
read_term-at-record-requires t c = walk_inside _ _ c.requires.readable.0.walkable

pub read_term-chain_length-children-requires : goal.read_term-chain_length-children-requires
read_term-chain_length-children-requires t c = (read_on _ _ _ c.requires.readable.0 c.requires.readable.1 c.at-record.ensures).below.walkable

pub read_term-word-requires : goal.read_term-word-requires
read_term-word-requires t c =
    rw (c.chain_length-children.ensures, (parts c.at-record.ensures).first)
    (read_on _ _ _ c.requires.readable.0 c.requires.readable.1 c.at-record.ensures).wordable

pub read_term-read_chain-requires : goal.read_term-read_chain-requires
read_term-read_chain-requires t c =
    let on = read_on _ _ _ c.requires.readable.0 c.requires.readable.1 c.at-record.ensures in
    let first = ap (λ l. length (chain_words (viewed_of c.args.table.now) l)) (parts c.at-record.ensures).first in
    (omega (arith, c.decreases, on.fewer_below), (on.below, omega (arith, c.requires.room, first)))

pub read_term-returns : goal.read_term-returns
read_term-returns t c =
    rw (term_read (stored_of c.args.table.now) c.args.at c.chain_length-children.result c.word.result.0 (record_of c.at-record.result) c.at-record.ensures c.chain_length-children.ensures c.word.ensures)
    (placed_cons _ _ c.read_chain.ensures)
