-- A frame in one word of 32 bits: the terms to come lowest, above them the branches, the least tag and the number of binders.
use Rattle.std.specs.Prelude.{ℕ, suc, ◌/◌, ◌%◌, ◌^◌, ◌≤◌, ◌<◌, Some, None}
use Rattle.std.specs.Prelude as codeOption
use Rattle.std.proofs.Math.Option.{Option, some, none}
use Rattle.calculus.specs.Accepted.{tag_limit, argument_limit, branch_limit}
use Rattle.terms.specs.Frames.{Frame, frame}
use Rattle.terms.specs.declared.frame.Frame as codeFrame

abbrev pub terms_base : ℕ
terms_base = 16

abbrev pub branches_base : ℕ
branches_base = 16

abbrev pub least_base : ℕ
least_base = 512

-- What is left of the word for the binders.
abbrev pub depth_bound : ℕ
depth_bound = 2 ^ 32 / terms_base / branches_base / least_base

abbrev pub unpacked : ℕ → Frame
unpacked w =
    frame (w % terms_base) (w / terms_base % branches_base) (w / terms_base / branches_base / least_base) (w / terms_base / branches_base % least_base)

-- The parts of a frame keep their limits, so that one word has room for all.
pub record Packs (terms branches depth least : ℕ) : Type 0 where
  pub terms_fit : terms ≤ argument_limit
  pub branches_fit : branches ≤ branch_limit
  pub depth_fits : depth < depth_bound
  pub least_fits : least ≤ suc tag_limit

-- What a word comes to at a frame, as the code answers it.
abbrev pub entered_of : codeOption.Option codeFrame.Frame → Option Frame
entered_of None = none
entered_of (Some f) = some (unpacked f.0)
