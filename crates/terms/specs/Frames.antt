-- Frames, for a scan of words from the left: what is still to come at one level of a term, which words it allows next, and what is to come after
-- such a word.
--
-- A frame stands for a number of terms, then a number of branches whose tags rise, the first one at least `least`, all under its number of binders.
use Rattle.std.specs.Prelude.{ℕ, zero, suc, ◌+◌, ◌*◌, Bool, false, cond, not, ◌&&◌, eqb, leb}
use Rattle.std.proofs.Math.Option.{Option, some, none}
use Rattle.calculus.specs.Words.{variable_kind, case_kind, branch_kind, kind_of, payload_of, tag_of, workspace_most}
use Rattle.calculus.specs.Accepted.{argument_limit, free_limit}
use Rattle.calculus.specs.Skip.{following}
use Rattle.words.specs.Bound.{binding}
use Rattle.calculus.specs.Payload.{payload_fits}

pub record Frame : Type 0 where
  pub terms : ℕ
  pub branches : ℕ
  pub depth : ℕ
  pub least : ℕ

abbrev pub frame : (terms branches depth least : ℕ) → Frame
frame n b d l = record { terms = n; branches = b; depth = d; least = l }

-- The most binders around a word of a workspace.
abbrev pub depth_limit : ℕ
depth_limit = workspace_most * argument_limit

-- Whether nothing is still to come.
abbrev pub is_filled : Frame → Bool
is_filled f = eqb f.terms 0 && eqb f.branches 0

-- What follows a word that stands under d binders.
unfoldable pub inside_by : (depth kind payload : ℕ) → Frame
inside_by d k p = frame (cond (eqb k case_kind) 1 (following k p)) (cond (eqb k case_kind) p 0) (d + binding k p) 0

abbrev pub inside : (depth w : ℕ) → Frame
inside d w = inside_by d (kind_of w) (payload_of w)

-- Whether a word may start a term under d binders, where an index is bound or its free number in range, or a branch whose tag is at least l (the first one of
-- a case: at least 0).
unfoldable pub starts_term : (depth kind payload : ℕ) → Bool
starts_term d k p = cond (eqb k variable_kind) (leb p (d + free_limit)) (not (eqb k branch_kind) && payload_fits k p)

unfoldable pub starts_branch : (least kind payload : ℕ) → Bool
starts_branch l k p = eqb k branch_kind && (leb l (tag_of p) && payload_fits k p)

-- Whether a word may come next, by what is still to come.
abbrev pub allowed_by : (terms branches depth least kind payload : ℕ) → Bool
allowed_by (suc n) b d l k p = starts_term d k p
allowed_by zero (suc b) d l k p = starts_branch l k p
allowed_by zero zero d l k p = false

abbrev pub allowed : Frame → (w : ℕ) → Bool
allowed f w = allowed_by f.terms f.branches f.depth f.least (kind_of w) (payload_of w)

-- What is to come after the item that a word starts.
abbrev pub rest_by : (terms branches depth least payload : ℕ) → Frame
rest_by (suc n) b d l p = frame n b d l
rest_by zero (suc b) d l p = frame 0 b d (suc (tag_of p))
rest_by zero zero d l p = frame 0 0 d l

abbrev pub rest : Frame → (w : ℕ) → Frame
rest f w = rest_by f.terms f.branches f.depth f.least (payload_of w)

-- What a word comes to at a frame: it may not stand there, or it leads to the frame of what follows it.
abbrev pub entered_by : Bool → (depth w : ℕ) → Option Frame
entered_by allowed d w = cond allowed (some (inside d w)) none

abbrev pub entered : Frame → (w : ℕ) → Option Frame
entered f w = entered_by (allowed f w) f.depth w
