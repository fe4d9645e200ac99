-- The term that is found of a line is the one that the grammar gives.
use mathlib.Core.Path.{◌≡◌, refl}
use mathlib.Core.List.{List}
use mathlib.Core.Option.{Option, some, none, bind, none-ne-some}
use Prim.Native.Nat.{ℕ}
use Rattle.calculus.specs.Term.{Term}
use Rattle.calculus.specs.Read.{any_term}
use Rattle.calculus.proofs.ReadLaws.{any-term}
use Rattle.notation.specs.Grammar.{Line}
use Rattle.notation.specs.Reader.{line_words, line_term}
use Rattle.notation.specs.Theorems.{LineExact}
use Rattle.notation.proofs.Complete.{packable, words-complete}
use Rattle.notation.proofs.Sound.{words_sound}

pub line_complete : {bs : List ℕ} {t : Term} → Line bs t → line_term bs ≡ some t
unfolding line_term bind
line_complete {t = t} s = rw (words-complete s) (any-term t (packable s))

pub line_sound : (bs : List ℕ) {t : Term} → line_term bs ≡ some t → Line bs t
unfolding line_term bind
line_sound bs {t} q = go (line_words bs) refl q
  where
    go : (o : Option (List ℕ)) → line_words bs ≡ o → bind o any_term ≡ some t → Line bs t
    go none e r = absurd (none-ne-some t r)
    go (some vs) e r =
        let g = words_sound bs e in
        let same : g.0 ≡ t = cc (any-term g.0 (packable g.1), g.2, r) in
        rw same at g.1

pub line_exact : LineExact
line_exact bs t = (line_sound bs, line_complete)
