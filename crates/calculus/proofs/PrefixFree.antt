-- The words of a term are never the start of another's: `skip` finds what follows the term from the words alone, and the words in front of
-- that decide the term.
use mathlib.Core.Path.{◌≡◌}
use mathlib.Core.List.{append_cancel_right}
use Rattle.calculus.specs.Words.{words}
use Rattle.calculus.specs.Theorems.{WordsPrefixFree}
use Rattle.calculus.proofs.SkipLaws.{skip_zero, skip-words}
use Rattle.calculus.proofs.ReadLaws.{words_injective}

pub words_prefix_free : WordsPrefixFree
words_prefix_free t u ws vs h g q =
    let r : ws ≡ vs = cc (skip-words t 0 ws h, skip-words u 0 vs g, skip_zero ws, skip_zero vs) in
    (words_injective t u h g (append_cancel_right (words t) (words u) ws (cc)), r)
