-- Refusals 1, 2 and 8 ("Numbers for refused calls"): the length of the words, the header, and whether the term fits.
use Rattle.std.specs.Prelude.{ℕ, ◌+◌, ◌*◌, Bool, not, ◌&&◌, ◌||◌, leb, ltb, eqb, length}
use Rattle.calculus.specs.Words.{workspace_most}
use Rattle.storage.specs.Records.{Table, is_record, Stored, view}

-- Refusal 1: the length is not the words of a record × (n + 1), 4 × (n + 1) in form 1, with n from 1 to 2,048, the most words that a workspace
-- has. A table shorter than a record has no header and meets it too.
unfoldable pub wrong_length : Stored → Bool
wrong_length S =
    ltb (length S.words) S.form.record_words
    || not (leb 1 (view S).n && leb (view S).n workspace_most && eqb (length S.words) (S.form.record_words * ((view S).n + 1)))

-- Refusal 2: the header is not one of the form, in form 1 its first word not 1 or its last word not 0, or the root is not in 1 to n.
unfoldable pub wrong_header : Stored → Bool
wrong_header S = not (S.form.header_fits S.words && is_record (view S) (view S).root)

-- Refusal 8: n is above the length of the workspace.
abbrev pub too_long : Table → (C : ℕ) → Bool
too_long T C = ltb C T.n
