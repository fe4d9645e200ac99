-- What C sees of some calls: the number of each verdict and side, where each word of session and answer stands, and refusals, which keep what was lent.
use Rattle.std.specs.Prelude.{ℕ, ◌-◌, ◌≡◌, List, [], ◌∷◌, ◌++◌, length, replicate}
use Rattle.calculus.specs.Workspace.{padded}
use Rattle.calculus.specs.Bench.{loop, projection, f0, f1}
use Rattle.calculus.specs.Boundaries.{ww}
use Rattle.claim.specs.State.{fresh}
use Rattle.press.specs.Types.{call_of}
use Rattle.claim.specs.Showing.{show}
use Rattle.claim.specs.Examples.{abstraction, application, exchanged}
use Rattle.storage.specs.Load.{load}
use Rattle.storage.specs.Write.{write}
use Rattle.notation.specs.Reading.{read_line}
use Rattle.encoding.specs.Import.{import}
use Rattle.encoding.specs.Export.{export}
use Rattle.firmware.specs.Numbers.{session_words}
use Rattle.firmware.specs.Calls.{brought_seen, written_seen, exported_seen, PressExit, press_seen, part_seen}

-- Words or bytes that a call is lent, and a workspace of 16 words that starts with some.
abbrev pub junk : ℕ → List ℕ
junk n = replicate n 7

abbrev pub held : List ℕ → List ℕ
held ws = ws ++ junk (16 - length ws)

-- Calls with a lent count of 9.
pub record CountExamples : Type 0 where
  -- `\0`, then two spaces between two items
  pub line : brought_seen 9 (read_line (92 ∷ 48 ∷ []) (junk 16)) ≡ ((0, 2), 1 ∷ 0 ∷ replicate 14 0)
  pub line_refused : brought_seen 9 (read_line (48 ∷ 32 ∷ 32 ∷ 49 ∷ []) (junk 16)) ≡ ((11, 9), junk 16)
  pub load_refused : brought_seen 9 (load [] (junk 15)) ≡ ((7, 9), junk 15)
  pub import_refused : brought_seen 9 (import (32 ∷ []) 3 (junk 16)) ≡ ((12, 9), junk 16)
  pub written : written_seen 9 (write (held f0) 1 (junk 8)) ≡ ((0, 1), 1 ∷ 1 ∷ 1 ∷ 0 ∷ 0 ∷ 0 ∷ 0 ∷ 0 ∷ [])
  pub write_refused : written_seen 9 (write (held f0) 1 (junk 7)) ≡ ((1, 9), junk 7)
  pub exported : exported_seen 9 (export abstraction 2 (junk 1)) ≡ ((0, 4), 32 ∷ [])
  pub export_refused : exported_seen 9 (export (held f0) 1 (junk 1)) ≡ ((13, 9), junk 1)

-- A press on the terms of these words, with five words of 8 lent for the answer.
abbrev pub pressing : (session left right : List ℕ) (budget : ℕ) → PressExit
pressing session left right budget =
    press_seen session (replicate 5 8) (held left) (held right) (call_of (junk 16) (length left) (length right) budget)

-- What it leaves where it is not refused, and where it is.
abbrev pub pressed : (session answer left right : List ℕ) → PressExit
pressed session answer left right = ((0, session, answer), padded 16 left, padded 16 right, replicate 16 0)

abbrev pub kept : (number : ℕ) (session left right : List ℕ) → PressExit
kept number session left right = ((number, session, replicate 5 8), held left, held right, junk 16)

-- (\x.x f1) f0, which goes to f0 f1; and f0 f2.
abbrev pub contracting : List ℕ
contracting = 2 ∷ 1 ∷ 2 ∷ 0 ∷ 16 ∷ 0 ∷ []

abbrev pub other : List ℕ
other = 2 ∷ 0 ∷ 16 ∷ []

-- Sessions of total 7 whose last word is the number of a verdict, or of none.
pub record PressExamples : Type 0 where
  pub same : pressing (7 ∷ 3 ∷ 4 ∷ 3 ∷ []) (projection ++ f1) f0 2 ≡ pressed (9 ∷ 1 ∷ 1 ∷ 0 ∷ []) (0 ∷ 2 ∷ 1 ∷ 1 ∷ 0 ∷ []) f0 f0
  pub different :
      pressing (7 ∷ 3 ∷ 4 ∷ 0 ∷ []) contracting other 5 ≡ pressed (8 ∷ 3 ∷ 3 ∷ 1 ∷ []) (1 ∷ 1 ∷ 3 ∷ 3 ∷ 2 ∷ []) (2 ∷ 0 ∷ 8 ∷ []) other
  pub budget : pressing (7 ∷ 3 ∷ 4 ∷ 9 ∷ []) loop f0 5 ≡ pressed (12 ∷ 9 ∷ 1 ∷ 2 ∷ []) (2 ∷ 5 ∷ 9 ∷ 1 ∷ 0 ∷ []) loop f0
  pub full : pressing (7 ∷ 3 ∷ 4 ∷ 1 ∷ []) ww f0 1 ≡ pressed (7 ∷ 13 ∷ 1 ∷ 3 ∷ []) (3 ∷ 0 ∷ 13 ∷ 1 ∷ 0 ∷ []) ww f0
  pub refused : pressing (7 ∷ 3 ∷ 4 ∷ 9 ∷ []) loop f0 1000001 ≡ kept 9 (7 ∷ 3 ∷ 4 ∷ 9 ∷ []) loop f0
  pub refused_on_the_right : pressing (7 ∷ 3 ∷ 4 ∷ 9 ∷ []) loop [] 5 ≡ kept 10 (7 ∷ 3 ∷ 4 ∷ 9 ∷ []) loop []
  pub fresh_words : session_words fresh ≡ 0 ∷ 0 ∷ 0 ∷ 2 ∷ []

pub record SideExamples : Type 0 where
  pub left_shorter : part_seen (show abstraction application 2 3) ≡ (0, 2)
  pub right_shorter : part_seen (show application abstraction 3 2) ≡ (1, 2)
  pub equal_lengths : part_seen (show application exchanged 3 3) ≡ (1, 3)
  pub refused : part_seen (show application abstraction 3 1) ≡ (0, 0)
