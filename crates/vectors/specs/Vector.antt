-- The vectors of a text, one to a line, and how many of them pass.
use Rattle.std.specs.Prelude.{ℕ, zero, suc, ◌+◌, ◌-◌, Bool, cond, ◌&&◌, List, [], ◌∷◌, eqb, leb, ltb, length, get_or, take, drop}
use Rattle.vector_text.specs.Text.{nowhere, after}
use Rattle.text.specs.Names.{load_name, line_name, import_name, write_name, export_name}
use Rattle.vectors.specs.Keywords.{pair_word}
use Rattle.vectors.specs.Pair.{pair_holds}
use Rattle.vectors.specs.Stored.{load_holds, write_holds}
use Rattle.vectors.specs.Typed.{line_holds}
use Rattle.vectors.specs.Encoded.{import_holds, export_holds}
use Rattle.vectors.specs.declared.vector.Tally.{Tally}

-- Where the line that goes on at a position ends.
abbrev pub newline : ℕ
newline = 10

unfoldable pub end_from : (i : ℕ) → List ℕ → ℕ
end_from i [] = i
end_from i (b ∷ bs) = cond (eqb b newline) i (end_from (i + 1) bs)

abbrev pub line_end : List ℕ → (at : ℕ) → ℕ
line_end text at = end_from at (drop at text)

-- What a line says holds, by its first keyword.
unfoldable pub passes : List ℕ → Bool
passes line =
    cond (eqb (after line 0 pair_word) nowhere)
    (cond (eqb (after line 0 load_name) nowhere)
    (cond (eqb (after line 0 line_name) nowhere)
    (cond (eqb (after line 0 import_name) nowhere)
    (cond (eqb (after line 0 export_name) nowhere) (write_holds line (after line 0 write_name)) (export_holds line (after line 0 export_name)))
    (import_holds line (after line 0 import_name)))
    (line_holds line (after line 0 line_name)))
    (load_holds line (after line 0 load_name)))
    (pair_holds line (after line 0 pair_word))

-- A line's share: none of an empty line and of a comment. A line that is cut off before its end fails.
abbrev pub comment : ℕ
comment = 35

abbrev pub nothing : Tally
nothing = record { vectors = 0; passed = 0 }

abbrev pub counted : (passes : Bool) → Tally
counted b = record { vectors = 1; passed = cond b 1 0 }

unfoldable pub share_of : (line : List ℕ) (ended : Bool) → Tally
share_of line ended =
    cond (eqb (length line) 0) nothing (cond (eqb (get_or line 0 0) comment) nothing (counted (ended && passes line)))

-- The lines from a position on, at most `turns` of them, with a tally so far; a text has no more lines than bytes.
abbrev pub share_at : List ℕ → (at : ℕ) → Tally
share_at text at = let end = line_end text at in share_of (take (end - at) (drop at text)) (ltb end (length text))

unfoldable pub tally_from : (turns : ℕ) → List ℕ → (at vectors passed : ℕ) → Tally
tally_from zero text at v p = record { vectors = v; passed = p }
tally_from (suc k) text at v p =
    cond (leb (length text) at) (record { vectors = v; passed = p })
    (tally_from k text (line_end text at + 1) (v + (share_at text at).vectors) (p + (share_at text at).passed))

abbrev pub tally_all : List ℕ → Tally
tally_all text = tally_from (length text) text 0 0 0
