-- Which terms a workspace may hold ("Terms and words"): tags run from 1 to 255, and a branch may be the default, of tag 0, which binds nothing; arguments,
-- branches and bound counts run from 0 to 15; branch tags rise strictly within a case, so a default stands first; free numbers (indices of free variables)
-- run from 0 to 255, and numerals from 0 to 31. Each limit stands once.
--
-- `Accepted d e` says it of e under d binders: an index below d is bound; any other has the free number index minus d.
use Rattle.std.specs.Prelude.{ℕ, ◌+◌, ◌≤◌, ◌<◌, ◌≡◌, true, ◌⊎◌}
use Rattle.calculus.specs.Term.{Sort, Exp, end, branch, Branches, count, is_default}
use Rattle.calculus.specs.Everywhere.{binders, Asked, variables, Everywhere}

-- The largest tag.
abbrev pub tag_limit : ℕ
tag_limit = 255

-- The most arguments of a constructor, and the most variables that a branch binds.
abbrev pub argument_limit : ℕ
argument_limit = 15

-- The most branches of a case.
abbrev pub branch_limit : ℕ
branch_limit = 15

-- The largest free number.
abbrev pub free_limit : ℕ
free_limit = 255

-- The largest numeral.
abbrev pub numeral_limit : ℕ
numeral_limit = 31

-- The largest index of a variable in a stored table or in a line. No accepted term in a workspace has a larger one (`IndicesBounded`).
abbrev pub index_limit : ℕ
index_limit = 32767

abbrev pub IsTag : ℕ → Type 0
IsTag t = (1 ≤ t) × (t ≤ tag_limit)

-- The first branch, if there is one, has a tag above t.
abbrev pub StartsAbove : ℕ → Branches → Type 0
StartsAbove t end = Unit {0}
StartsAbove t (branch u n b bs) = t < u

-- Each branch but the last has a tag below that of the next.
abbrev pub Rising : Branches → Type 0
Rising end = Unit {0}
Rising (branch t n b bs) = StartsAbove t bs × Rising bs

-- A constructor's tag and number of arguments.
abbrev pub Tagged : (t n : ℕ) → Type 0
Tagged t n = IsTag t × (n ≤ argument_limit)

-- A branch's tag and bound count: those of the default, or those of a constructor.
abbrev pub Pattern : (t n : ℕ) → Type 0
Pattern t n = (is_default t n ≡ true) ⊎ Tagged t n

-- Under d binders the index is bound, or its free number is in range.
abbrev pub InScope : (d i : ℕ) → Type 0
InScope d i = i ≤ d + free_limit

-- Free numbers alone.
abbrev pub scope : Asked ℕ
scope = variables binders InScope

abbrev pub Scoped : {s : Sort} → ℕ → Exp s → Type 0
Scoped d e = Everywhere scope d e

abbrev pub acceptance : Asked ℕ
acceptance =
    record {
      places = binders;
      of_variable = InScope;
      of_constructor = Tagged;
      of_case = λ bs. (count bs ≤ branch_limit) × Rising bs;
      of_branch = Pattern;
      of_numeral = λ n. n ≤ numeral_limit;
    }

abbrev pub Accepted : {s : Sort} → ℕ → Exp s → Type 0
Accepted d e = Everywhere acceptance d e
