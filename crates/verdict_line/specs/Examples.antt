-- What is printed for some bytes ("The verdict program"): each word that can be printed, bytes that are missing or too many, and a table's word count
-- at its limit and above it.
use Rattle.std.specs.Prelude.{ℕ, ◌/◌, ◌%◌, ◌≡◌, List, [], ◌∷◌, ◌++◌, length, replicate, take}
use Rattle.verdict_line.specs.Line.{printed}

-- The bytes of words, the lowest first.
unfoldable pub bytes_of : List ℕ → List ℕ
bytes_of [] = []
bytes_of (w ∷ ws) = w % 256 ∷ w / 256 % 256 ∷ w / 65536 % 256 ∷ w / 16777216 ∷ bytes_of ws

-- A request: budget, C and both tables.
abbrev pub asked : (budget C : ℕ) (left right : List ℕ) → List ℕ
asked budget C left right = bytes_of (budget ∷ C ∷ length left ∷ (left ++ (length right ∷ right)))

-- Tables: of f0, of f1, of \x.x, of \x.f0, of (\x.x) f0, of 2,2,1,1,8,0,8, and of W W.
abbrev pub f0 : List ℕ
f0 = 1 ∷ 1 ∷ 1 ∷ 0 ∷ 0 ∷ 0 ∷ 0 ∷ 0 ∷ []

abbrev pub f1 : List ℕ
f1 = 1 ∷ 1 ∷ 1 ∷ 0 ∷ 0 ∷ 1 ∷ 0 ∷ 0 ∷ []

abbrev pub identity : List ℕ
identity = 1 ∷ 2 ∷ 1 ∷ 0 ∷ 1 ∷ 0 ∷ 2 ∷ 0 ∷ 0 ∷ 0 ∷ 0 ∷ 0 ∷ []

abbrev pub constant : List ℕ
constant = 1 ∷ 2 ∷ 1 ∷ 0 ∷ 1 ∷ 0 ∷ 2 ∷ 0 ∷ 0 ∷ 1 ∷ 0 ∷ 0 ∷ []

abbrev pub applied : List ℕ
applied = 1 ∷ 4 ∷ 1 ∷ 0 ∷ 2 ∷ 0 ∷ 2 ∷ 0 ∷ 1 ∷ 0 ∷ 3 ∷ 4 ∷ 0 ∷ 0 ∷ 0 ∷ 0 ∷ 0 ∷ 0 ∷ 0 ∷ 0 ∷ []

abbrev pub worked : List ℕ
worked =
    1 ∷ 7 ∷ 1 ∷ 0 ∷ 2 ∷ 0 ∷ 2 ∷ 0 ∷ 2 ∷ 0 ∷ 3 ∷ 7 ∷ 1 ∷ 0 ∷ 4 ∷ 6
    ∷ 1 ∷ 0 ∷ 5 ∷ 0 ∷ 0 ∷ 1 ∷ 0 ∷ 0 ∷ 0 ∷ 0 ∷ 0 ∷ 0 ∷ 0 ∷ 1 ∷ 0 ∷ 0 ∷ []

abbrev pub ww : List ℕ
ww =
    1 ∷ 13 ∷ 1 ∷ 0 ∷ 2 ∷ 0 ∷ 2 ∷ 0 ∷ 1 ∷ 0 ∷ 3 ∷ 8 ∷ 2 ∷ 0 ∷ 4 ∷ 0 ∷ 2 ∷ 0 ∷ 5 ∷ 7 ∷ 0 ∷ 0 ∷ 0 ∷ 6 ∷ 0 ∷ 0 ∷ 0 ∷ 0
    ∷ 0 ∷ 0 ∷ 0 ∷ 0 ∷ 1 ∷ 0 ∷ 9 ∷ 0 ∷ 2 ∷ 0 ∷ 10 ∷ 0 ∷ 2 ∷ 0 ∷ 11 ∷ 13 ∷ 0 ∷ 0 ∷ 0 ∷ 12 ∷ 0 ∷ 0 ∷ 0 ∷ 0 ∷ 0 ∷ 0 ∷ 0 ∷ 0 ∷ []

pub record PrintedExamples : Type 0 where
  -- `Same 2 1 1`
  pub same : printed (asked 10 16 worked f0) ≡ 83 ∷ 97 ∷ 109 ∷ 101 ∷ 32 ∷ 50 ∷ 32 ∷ 49 ∷ 32 ∷ 49 ∷ 10 ∷ []
  -- `Different 0 1 1 0`
  pub different : printed (asked 0 16 f0 f1) ≡ 68 ∷ 105 ∷ 102 ∷ 102 ∷ 101 ∷ 114 ∷ 101 ∷ 110 ∷ 116 ∷ 32 ∷ 48 ∷ 32 ∷ 49 ∷ 32 ∷ 49 ∷ 32 ∷ 48 ∷ 10 ∷ []
  -- `Different 0 2 2 1`, of \x.x against \x.f0
  pub different-at-1 :
      printed (asked 0 16 identity constant)
      ≡ 68 ∷ 105 ∷ 102 ∷ 102 ∷ 101 ∷ 114 ∷ 101 ∷ 110 ∷ 116 ∷ 32 ∷ 48 ∷ 32 ∷ 50 ∷ 32 ∷ 50 ∷ 32 ∷ 49 ∷ 10 ∷ []
  -- `Budget 0 1 4`
  pub budget : printed (asked 0 16 f0 applied) ≡ 66 ∷ 117 ∷ 100 ∷ 103 ∷ 101 ∷ 116 ∷ 32 ∷ 48 ∷ 32 ∷ 49 ∷ 32 ∷ 52 ∷ 10 ∷ []
  -- `Full 0 13 1`
  pub full : printed (asked 1 16 ww f0) ≡ 70 ∷ 117 ∷ 108 ∷ 108 ∷ 32 ∷ 48 ∷ 32 ∷ 49 ∷ 51 ∷ 32 ∷ 49 ∷ 10 ∷ []
  -- `Refused 1` for a left table of no words, `Refused 7` for 15 words, `Refused 9` for a budget of 1,000,001
  pub refused_left : printed (asked 10 16 [] f0) ≡ 82 ∷ 101 ∷ 102 ∷ 117 ∷ 115 ∷ 101 ∷ 100 ∷ 32 ∷ 49 ∷ 10 ∷ []
  pub refused_workspace : printed (asked 10 15 f0 f0) ≡ 82 ∷ 101 ∷ 102 ∷ 117 ∷ 115 ∷ 101 ∷ 100 ∷ 32 ∷ 55 ∷ 10 ∷ []
  pub refused_budget : printed (asked 1000001 16 f0 f0) ≡ 82 ∷ 101 ∷ 102 ∷ 117 ∷ 115 ∷ 101 ∷ 100 ∷ 32 ∷ 57 ∷ 10 ∷ []
  -- `Input` for no bytes, for a byte too few and for a byte too many, before any refusal
  pub no_bytes : printed [] ≡ 73 ∷ 110 ∷ 112 ∷ 117 ∷ 116 ∷ 10 ∷ []
  pub byte_missing : printed (take 79 (asked 10 15 f0 f0)) ≡ 73 ∷ 110 ∷ 112 ∷ 117 ∷ 116 ∷ 10 ∷ []
  pub byte_surplus : printed (asked 10 15 f0 f0 ++ (0 ∷ [])) ≡ 73 ∷ 110 ∷ 112 ∷ 117 ∷ 116 ∷ 10 ∷ []
  -- a left table of 8,196 words, which is refused by 1, and of 8,197, which is `Input`
  pub count_at_limit : printed (asked 10 16 (replicate 8196 0) f0) ≡ 82 ∷ 101 ∷ 102 ∷ 117 ∷ 115 ∷ 101 ∷ 100 ∷ 32 ∷ 49 ∷ 10 ∷ []
  pub count_above : printed (asked 10 16 (replicate 8197 0) f0) ≡ 73 ∷ 110 ∷ 112 ∷ 117 ∷ 116 ∷ 10 ∷ []
