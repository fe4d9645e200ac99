-- What judging comes to: the refusal that a check meets, what later checks come to, and the words read.
use Prim.Native.Nat.{ℕ, ◌≤◌}
use mathlib.Core.Path.{◌≡◌, refl, sym, ap, ◌∙◌}
use mathlib.Core.Bool.{Bool}
use mathlib.Core.List.{List}
use mathlib.Core.Option.{Option, some, none, none-ne-some}
use native.Mathlib.Omega.{arith}
use lib.ListN.{length, replicate, length-replicate}
use lib.Seq.{slice}
use Rattle.calculus.specs.Refusal.{Refusal}
use Rattle.calculus.specs.Bringing.{Result, refused, returned, first_met}
use Rattle.words.specs.Placed.{Placed}
use Rattle.words.specs.Room.{Room}
use Rattle.words.proofs.PlacedLaws.{placed_length, placed_start}
use Rattle.words.proofs.RoomLaws.{room_of_length, room_length}
use Rattle.storage.specs.Records.{Table}
use Rattle.records.specs.Counting.{room_most}
use Rattle.transcription.specs.Reading.{term_words}
use Rattle.tables.specs.Judging.{unless, Judged}

never : ◌≡◌ {A = ℕ} 0 1 → ⊥
never e = omega arith

-- What an answer tells of the checks.
pub unless_refused : (met : Option Refusal) (n : ℕ) (why : Refusal) → refused why ≡ unless met n → met ≡ some why
unless_refused (some met) n why e = let same : met ≡ why = cc in ap some same
unless_refused none n why e = absurd (never (cc))

pub unless_returned : (met : Option Refusal) (n l : ℕ) → returned l ≡ unless met n → (met ≡ none) × (l ≡ n)
unless_returned (some met) n l e = absurd (never (cc))
unless_returned none n l e = let same : l ≡ n = cc in (refl, same)

-- The room is lent with zeros.
pub room_zeros : {room : List ℕ} → room ≡ replicate room_most 0 → length room ≡ room_most
room_zeros e = ap length e ∙ length-replicate {A = ℕ} room_most 0

module _ {T : Table} {checks : List (Refusal × Bool)} {before after : List ℕ} where
  pub judged_met : (why : Refusal) → first_met checks ≡ some why → Room before after → Judged T checks before (refused why) after
  judged_met why e left =
      record {
        answers = sym (ap (λ o. unless o T.n) e);
        reads = λ q. absurd (none-ne-some why (sym q ∙ e));
        room = left;
      }

  pub judged-read : {end : ℕ} → length (term_words T T.root) ≡ T.n → T.n ≤ length before → first_met checks ≡ none
      → Placed before 0 (term_words T T.root) after end → Judged T checks before (returned end) after
  judged-read {end} whole fits e p =
      let ends : end ≡ T.n = omega (arith, p.position, whole) in
      record {
        answers = ap returned ends ∙ sym (ap (λ o. unless o T.n) e);
        reads = λ _. ap (λ n. slice 0 n after) (sym ends) ∙ placed_start (omega (arith, whole, fits)) p;
        room = room_of_length (placed_length p);
      }

  pub judged_later : {later : List (Refusal × Bool)} {between : List ℕ} {answer : Result} → first_met checks ≡ first_met later → Room before between
      → Judged T later between answer after → Judged T checks before answer after
  judged_later e left j =
      record {
        answers = j.answers ∙ ap (λ o. unless o T.n) (sym e);
        reads = λ q. j.reads (sym e ∙ q);
        room = room_of_length (room_length j.room ∙ room_length left);
      }
