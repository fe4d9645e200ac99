-- Terms ("Terms and words"): a variable, an abstraction, an application, a constructor with its arguments, a case with a subject (its scrutinee)
-- and branches, or a numeral. Variables are de Bruijn indices from 0; a branch has a tag, a bound count and a body under that many binders, and
-- with tag 0 and bound count 0 it is the default; a numeral stands for the Church numeral.
--
-- Indices, tags, counts and numerals are any natural numbers here: the terms inside a chain have no limit. Which terms a workspace may hold is said by
-- `Accepted`.
--
-- Argument lists and branch lists are further sorts of one family of expressions, so that a definition or a law that goes through a term says
-- once what happens at every sort.
use Rattle.std.specs.Prelude.{ℕ, suc, Bool, ◌&&◌, eqb}

pub data Sort : Type 0 where
  term terms branches : Sort

pub data Exp : Sort → Type 0 where
  var : ℕ → Exp term
  lam : Exp term → Exp term
  app : Exp term → Exp term → Exp term
  con : ℕ → Exp terms → Exp term
  case : Exp term → Exp branches → Exp term
  num : ℕ → Exp term
  nil : Exp terms
  cons : Exp term → Exp terms → Exp terms
  end : Exp branches
  branch : ℕ → ℕ → Exp term → Exp branches → Exp branches

abbrev pub Term : Type 0
Term = Exp term

abbrev pub Terms : Type 0
Terms = Exp terms

abbrev pub Branches : Type 0
Branches = Exp branches

-- How many terms a list of arguments has, and how many branches a list of branches has; 0 of a term.
abbrev pub count : {s : Sort} → Exp s → ℕ
count {s = term} e = 0
count {s = terms} nil = 0
count {s = terms} (cons a xs) = suc (count xs)
count {s = branches} end = 0
count {s = branches} (branch t n b bs) = suc (count bs)

-- Whether a branch is the default.
abbrev pub is_default : (tag bound : ℕ) → Bool
is_default t n = eqb t 0 && eqb n 0
