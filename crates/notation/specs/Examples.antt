-- Lines, the terms that they are, and what reading leaves of them, worked out from the rules.
use Rattle.std.specs.Prelude.{ℕ, ◌≡◌, List, [], ◌∷◌, ◌++◌, replicate}
use Rattle.std.proofs.Math.Option.{Option, some, none}
use Rattle.calculus.specs.Term.{Term, var, lam, app}
use Rattle.calculus.specs.Refusal.{WrongFree, WrongWorkspace, TooLong, WrongLine}
use Rattle.calculus.specs.Bringing.{Brought, returned}
use Rattle.notation.specs.Grammar.{Line}
use Rattle.notation.specs.Reading.{read_line}
use Rattle.calculus.specs.Theorems.{unchanged}

-- What the grammar gives a line: this term, or none.
abbrev pub Gives : (line : List ℕ) → Option Term → Type 0
Gives line (some t) = Line line t
Gives line none = (t : Term) → Line line t → ⊥

abbrev pub lines : List (List ℕ × Option Term)
lines =
    -- `\0 1`
    (92 ∷ 48 ∷ 32 ∷ 49 ∷ [], some (lam (app (var 0) (var 1))))
    -- `(\0) 1`
    ∷ (40 ∷ 92 ∷ 48 ∷ 41 ∷ 32 ∷ 49 ∷ [], some (app (lam (var 0)) (var 1)))
    -- `0 \0`
    ∷ (48 ∷ 32 ∷ 92 ∷ 48 ∷ [], some (app (var 0) (lam (var 0))))
    -- `0 \0 1`
    ∷ (48 ∷ 32 ∷ 92 ∷ 48 ∷ 32 ∷ 49 ∷ [], some (app (var 0) (lam (app (var 0) (var 1)))))
    -- `\\1`
    ∷ (92 ∷ 92 ∷ 49 ∷ [], some (lam (lam (var 1))))
    -- `((0))`
    ∷ (40 ∷ 40 ∷ 48 ∷ 41 ∷ 41 ∷ [], some (var 0))
    -- `\0 \0`
    ∷ (92 ∷ 48 ∷ 32 ∷ 92 ∷ 48 ∷ [], some (lam (app (var 0) (lam (var 0)))))
    -- `(0 \0) 1`
    ∷ (40 ∷ 48 ∷ 32 ∷ 92 ∷ 48 ∷ 41 ∷ 32 ∷ 49 ∷ [], some (app (app (var 0) (lam (var 0))) (var 1)))
    -- `4 8 9`
    ∷ (52 ∷ 32 ∷ 56 ∷ 32 ∷ 57 ∷ [], some (app (app (var 4) (var 8)) (var 9)))
    -- `0 1 2`
    ∷ (48 ∷ 32 ∷ 49 ∷ 32 ∷ 50 ∷ [], some (app (app (var 0) (var 1)) (var 2)))
    -- `0 (1 2)`
    ∷ (48 ∷ 32 ∷ 40 ∷ 49 ∷ 32 ∷ 50 ∷ 41 ∷ [], some (app (var 0) (app (var 1) (var 2))))
    -- `0 (1 2) 3`
    ∷ (48 ∷ 32 ∷ 40 ∷ 49 ∷ 32 ∷ 50 ∷ 41 ∷ 32 ∷ 51 ∷ [], some (app (app (var 0) (app (var 1) (var 2))) (var 3)))
    -- `0`
    ∷ (48 ∷ [], some (var 0))
    -- `10`
    ∷ (49 ∷ 48 ∷ [], some (var 10))
    -- `32767`
    ∷ (51 ∷ 50 ∷ 55 ∷ 54 ∷ 55 ∷ [], some (var 32767))
    -- the empty line
    ∷ ([], none)
    -- ` 0`
    ∷ (32 ∷ 48 ∷ [], none)
    -- `0 `
    ∷ (48 ∷ 32 ∷ [], none)
    -- `0  1`
    ∷ (48 ∷ 32 ∷ 32 ∷ 49 ∷ [], none)
    -- `()`
    ∷ (40 ∷ 41 ∷ [], none)
    -- `(0`
    ∷ (40 ∷ 48 ∷ [], none)
    -- `0)`
    ∷ (48 ∷ 41 ∷ [], none)
    -- `\ 0`
    ∷ (92 ∷ 32 ∷ 48 ∷ [], none)
    -- `\`
    ∷ (92 ∷ [], none)
    -- `( 0)`
    ∷ (40 ∷ 32 ∷ 48 ∷ 41 ∷ [], none)
    -- `(0 )`
    ∷ (40 ∷ 48 ∷ 32 ∷ 41 ∷ [], none)
    -- `0 \0) 1`
    ∷ (48 ∷ 32 ∷ 92 ∷ 48 ∷ 41 ∷ 32 ∷ 49 ∷ [], none)
    -- `01`
    ∷ (48 ∷ 49 ∷ [], none)
    -- `00`
    ∷ (48 ∷ 48 ∷ [], none)
    -- `32768`
    ∷ (51 ∷ 50 ∷ 55 ∷ 54 ∷ 56 ∷ [], none)
    -- `99999999999`
    ∷ (57 ∷ 57 ∷ 57 ∷ 57 ∷ 57 ∷ 57 ∷ 57 ∷ 57 ∷ 57 ∷ 57 ∷ 57 ∷ [], none)
    -- `0\0`
    ∷ (48 ∷ 92 ∷ 48 ∷ [], none)
    -- `(0)1`
    ∷ (40 ∷ 48 ∷ 41 ∷ 49 ∷ [], none)
    -- `0(1)`
    ∷ (48 ∷ 40 ∷ 49 ∷ 41 ∷ [], none)
    -- `(0)(1)`
    ∷ (40 ∷ 48 ∷ 41 ∷ 40 ∷ 49 ∷ 41 ∷ [], none)
    -- `(0)\0`
    ∷ (40 ∷ 48 ∷ 41 ∷ 92 ∷ 48 ∷ [], none)
    -- `)0(`
    ∷ (41 ∷ 48 ∷ 40 ∷ [], none)
    -- 0, a tab, 1
    ∷ (48 ∷ 9 ∷ 49 ∷ [], none)
    -- 0, a newline
    ∷ (48 ∷ 10 ∷ [], none)
    -- byte 0
    ∷ (0 ∷ [], none)
    -- byte 255
    ∷ (255 ∷ [], none)
    -- `/`
    ∷ (47 ∷ [], none)
    -- `:`
    ∷ (58 ∷ [], none)
    -- `x`
    ∷ (120 ∷ [], none)
    ∷ []

abbrev pub AllGive : List (List ℕ × Option Term) → Type 0
AllGive [] = Unit {0}
AllGive (l ∷ ls) = Gives l.0 l.1 × AllGive ls

abbrev pub GrammarExamples : Type 0
GrammarExamples = AllGive lines

-- Abstractions in front of an index, and a workspace of words that are no term's.
abbrev pub abstractions : (count : ℕ) (index : List ℕ) → List ℕ
abstractions n index = replicate n 92 ++ index

abbrev pub junk : (C : ℕ) → List ℕ
junk C = replicate C 7

-- What an accepted line leaves: its length, and the workspace.
abbrev pub holding : (len : ℕ) (workspace : List ℕ) → Brought
holding len workspace = record { answer = returned len; workspace = workspace }

pub record ReadingExamples : Type 0 where
  -- `\0 1` into 16 words
  pub term_and_zeros : read_line (92 ∷ 48 ∷ 32 ∷ 49 ∷ []) (junk 16) ≡ holding 4 (1 ∷ 2 ∷ 0 ∷ 8 ∷ replicate 12 0)
  -- the empty line, and into 15 words
  pub no_bytes : read_line [] (junk 16) ≡ unchanged (junk 16) WrongLine
  pub words_15 : read_line [] (junk 15) ≡ unchanged (junk 15) WrongWorkspace
  -- `0`, the shortest line, and into 2,049 words
  pub one_byte : read_line (48 ∷ []) (junk 16) ≡ holding 1 (0 ∷ replicate 15 0)
  pub words_2049 : read_line (48 ∷ []) (junk 2049) ≡ unchanged (junk 2049) WrongWorkspace
  -- free numbers: `255` and `256`, and under a binder `\256` and `\257`
  pub free_255 : read_line (50 ∷ 53 ∷ 53 ∷ []) (junk 16) ≡ holding 1 (2040 ∷ replicate 15 0)
  pub free_256 : read_line (50 ∷ 53 ∷ 54 ∷ []) (junk 16) ≡ unchanged (junk 16) WrongFree
  pub free_255_bound : read_line (92 ∷ 50 ∷ 53 ∷ 54 ∷ []) (junk 16) ≡ holding 2 (1 ∷ 2048 ∷ replicate 14 0)
  pub free_256_bound : read_line (92 ∷ 50 ∷ 53 ∷ 55 ∷ []) (junk 16) ≡ unchanged (junk 16) WrongFree
  -- `32767` and `32768`
  pub free_32767 : read_line (51 ∷ 50 ∷ 55 ∷ 54 ∷ 55 ∷ []) (junk 16) ≡ unchanged (junk 16) WrongFree
  pub index_32768 : read_line (51 ∷ 50 ∷ 55 ∷ 54 ∷ 56 ∷ []) (junk 16) ≡ unchanged (junk 16) WrongLine
  -- 16 and 17 words for 16
  pub fills : read_line (abstractions 15 (48 ∷ [])) (junk 16) ≡ holding 16 (replicate 15 1 ++ 0 ∷ [])
  pub one_too_long : read_line (abstractions 16 (48 ∷ [])) (junk 16) ≡ unchanged (junk 16) TooLong
  -- 17 abstractions around `273`, of the free number 256, are 18 words for 16: 6 comes before 8
  pub free_and_long : read_line (abstractions 17 (50 ∷ 55 ∷ 51 ∷ [])) (junk 16) ≡ unchanged (junk 16) WrongFree
  -- 1,024 and 1,025 bytes
  pub bytes_1024 : read_line (abstractions 1023 (48 ∷ [])) (junk 2048) ≡ holding 1024 (replicate 1023 1 ++ 0 ∷ replicate 1024 0)
  pub bytes_1025 : read_line (abstractions 1024 (48 ∷ [])) (junk 2048) ≡ unchanged (junk 2048) WrongLine
  -- 1,026 bytes of the free number 978, and 1,023 words for 16: 11 comes before 6 and 8
  pub bytes_and_free_and_long : read_line (abstractions 1022 (50 ∷ 48 ∷ 48 ∷ 48 ∷ [])) (junk 16) ≡ unchanged (junk 16) WrongLine
