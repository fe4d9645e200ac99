-- Words that are put in front of the end of an array.
use Prim.Native.Nat.{ℕ, ◌≤◌}
use mathlib.Core.Path.{◌≡◌, refl, ◌∙◌, ap}
use mathlib.Core.List.{List, ◌++◌}
use native.Mathlib.Omega.{arith}
use lib.ListN.{length, take, drop}
use lib.Seq.{length-take-le, drop_at}
use Rattle.words.proofs.PlacedLaws.{taken_less}
use Rattle.words.proofs.RoomLaws.{room_of_length}
use Rattle.parser.specs.declared.Scan.{Scan}
use Rattle.std.specs.Prelude.{Some, None}
use Rattle.std.specs.Prelude as codeOption
use Rattle.parser.specs.Scan.{StepWithin, Stays, WordsStay}

-- What stands from a place on, where words were put there up to the end.
pub put-behind : (l ws : List ℕ) {after : List ℕ} (i : ℕ) → i ≤ length l → after ≡ take i l ++ ws → drop i after ≡ ws
put-behind l ws i k e = ap (drop i) e ∙ drop_at (take i l) ws i (length-take-le i l k)

-- What a step that puts nothing leaves, and a step behind one that put words before `at`.
pub stays_same : (place : Scan → ℕ) (r : codeOption.Option Scan) (l : List ℕ) → Stays place r l l
stays_same place None l = refl
stays_same place (Some s) l = refl

pub words_stay : (D at : ℕ) (before between after : List ℕ) (r : codeOption.Option Scan) → StepWithin D at r → take at between ≡ take at before
    → length after ≡ length before → Stays (λ t. t.at) r between after → WordsStay r before after
words_stay D at before between after None w e l s = room_of_length l
words_stay D at before between after (Some t) w e l s = s ∙ taken_less between before t.at at w.at e

pub within_more : (D R R' : ℕ) (r : codeOption.Option Scan) → R ≤ R' → StepWithin D R r → StepWithin D R' r
within_more D R R' None h w = tt
within_more D R R' (Some s) h w = record { at = omega (arith, w.at); top = w.top; place = w.place }
