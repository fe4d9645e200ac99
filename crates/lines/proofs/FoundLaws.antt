-- Reading where the parser finds words, and where it finds none.
use Prim.Native.Nat.{ℕ, ◌-◌, ◌≤◌, ◌<◌}
use mathlib.Core.Path.{◌≡◌, refl, sym, ap, ap₂, ◌∙◌}
use mathlib.Core.Bool.{true, false, false≢true}
use mathlib.Core.List.{List, [], ◌∷◌, append-nil}
use mathlib.Core.Logic.{inl, inr}
use mathlib.Core.Option.{some, none, bind, none-ne-some}
use native.Mathlib.Omega.{arith}
use lib.ListN.{length, take, drop, length-drop}
use lib.Seq.{take_all}
use Rattle.calculus.specs.Term.{Term}
use Rattle.calculus.specs.Words.{words, size}
use Rattle.calculus.specs.Accepted.{Scoped}
use Rattle.calculus.specs.Workspace.{wrong_workspace}
use Rattle.calculus.specs.Refusal.{WrongFree, TooLong, WrongLine}
use Rattle.calculus.specs.Bringing.{free_fits, refuse, hold}
use Rattle.calculus.proofs.WordLaws.{size_positive}
use Rattle.terms.specs.IsTerm.{is_term}
use Rattle.calculus.proofs.BringingLaws.{free-fits}
use Rattle.terms.proofs.FreeNumbers.{scoped_is_term}
use Rattle.notation.specs.Grammar.{Line, line_least, line_most}
use Rattle.notation.specs.Reader.{scan, settle, line_words}
use Rattle.notation.specs.Reading.{read_line}
use Rattle.notation.specs.Theorems.{LengthsFit}
use Rattle.notation.proofs.Complete.{packable, words-complete}
use Rattle.notation.proofs.Sound.{words_sound}
use Rattle.notation.proofs.ReadingLaws.{line_accepted, reading_exact}
use Rattle.parser.specs.Scan.{room_most}

no_words : none ≡ line_words []
unfolding line_words scan settle bind
no_words = refl

-- A line that is too long.
pub read_long : (line workspace : List ℕ) → wrong_workspace (length workspace) ≡ false → line_most < length line → refuse workspace WrongLine ≡ read_line line workspace
read_long line workspace w h =
    sym ((reading_exact line workspace).wrong-length w (inr h))

module _ (line workspace : List ℕ) (w : wrong_workspace (length workspace) ≡ false) (short : length line ≤ line_most) where
  -- No words are found.
  pub read_none : none ≡ line_words line → refuse workspace WrongLine ≡ read_line line workspace
  read_none e = go line refl
    where
      outside : (t : Term) → Line line t → ⊥
      outside t l = none-ne-some (words t) (e ∙ words-complete l)

      go : (bytes : List ℕ) → line ≡ bytes → refuse workspace WrongLine ≡ read_line line workspace
      go [] q = sym ((reading_exact line workspace).wrong-length w (inl (omega (arith, ap length q))))
      go (b ∷ bytes) q =
          sym ((reading_exact line workspace).outside (record { workspace_fits = w; least = omega (arith, ap length q); most = short }) outside)

  module _ (out : List ℕ) (at : ℕ) (room : length out ≡ room_most) (read : some (drop at out) ≡ line_words line) where
    abbrev term : Term
    term = (words_sound line (sym read)).0

    spelled : Line line term
    spelled = (words_sound line (sym read)).1

    words_are : words term ≡ drop at out
    words_are = (words_sound line (sym read)).2

    size_is : size term ≡ room_most - at
    size_is = omega (arith, ap length words_are, length-drop at out, room)

    pub inside : at < room_most
    inside = omega (arith, size_is, size_positive term)

    nonempty : line_least ≤ length line
    nonempty = go line (sym read)
      where
        go : (bytes : List ℕ) → line_words bytes ≡ some (drop at out) → line_least ≤ length bytes
        go [] e = absurd (none-ne-some (drop at out) (no_words ∙ e))
        go (b ∷ bytes) e = omega arith

    asked : LengthsFit line workspace
    asked = record { workspace_fits = w; least = nonempty; most = short }

    tested : free_fits term ≡ is_term (drop at out) (room_most - at)
    tested =
        scoped_is_term term (packable spelled) (λ a. line_accepted spelled a) [] (omega (arith, size_is))
        ∙ ap₂ is_term (append-nil (words term) ∙ words_are) size_is

    -- The part that the test reads is all the words.
    part : is_term (take (room_most - at) (drop at out)) (room_most - at) ≡ is_term (drop at out) (room_most - at)
    part = ap (λ ws. is_term ws (room_most - at)) (take_all (room_most - at) (drop at out) (omega (arith, length-drop at out, room)))

    scoped : is_term (take (room_most - at) (drop at out)) (room_most - at) ≡ true → Scoped 0 term
    scoped e = (free-fits term).0 (tested ∙ sym part ∙ e)

    unscoped : is_term (take (room_most - at) (drop at out)) (room_most - at) ≡ false → Scoped 0 term → ⊥
    unscoped e s = false≢true (sym e ∙ part ∙ sym tested ∙ (free-fits term).1 s)

    pub read_free : is_term (take (room_most - at) (drop at out)) (room_most - at) ≡ false → refuse workspace WrongFree ≡ read_line line workspace
    read_free e = sym ((reading_exact line workspace).wrong-free asked term spelled (unscoped e))

    pub read_over : is_term (take (room_most - at) (drop at out)) (room_most - at) ≡ true → length workspace < room_most - at
        → refuse workspace TooLong ≡ read_line line workspace
    read_over e h = sym ((reading_exact line workspace).too_long asked term spelled (scoped e) (omega (arith, size_is, h)))

    pub read_left : is_term (take (room_most - at) (drop at out)) (room_most - at) ≡ true → room_most - at ≤ length workspace
        → hold workspace (drop at (take room_most out)) ≡ read_line line workspace
    read_left e h =
        ap (λ ws. hold workspace (drop at ws)) (take_all room_most out (omega (arith, room)))
        ∙ ap (hold workspace) (sym words_are)
        ∙ sym ((reading_exact line workspace).leaves asked term spelled (scoped e) (omega (arith, size_is, h))).1
