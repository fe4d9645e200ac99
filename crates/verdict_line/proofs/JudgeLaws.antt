-- A request in workspaces that are the first words of longer arrays: what loading left there, and the line that it comes to.
use Prim.Native.Nat.{ℕ, ◌≤◌}
use mathlib.Core.Path.{◌≡◌, sym, ◌∙◌, ap}
use mathlib.Core.List.{List, ◌++◌}
use mathlib.Core.Option.{some}
use native.Mathlib.Omega.{arith}
use lib.ListN.{length, take, drop, replicate, length-append, length-replicate}
use lib.Seq.{length-take-le, take_at}
use Rattle.press.specs.declared.answer.Pressed.{Pressed}
use Rattle.press.specs.declared.state.Session.{Session}
use Rattle.claim.specs.State.{fresh}
use Rattle.claim.specs.Press.{press}
use Rattle.press.specs.Types.{answer_of, session_of, memory_of, call_of, pressed_of}
use Rattle.calculus.specs.Refusal.{number}
use Rattle.words.specs.declared.refusal.Refusal.{Refusal}
use Rattle.words.specs.Types.{refusal_of}
use Rattle.std.specs.Prelude.{Result, Ok, Err}
use Rattle.storage.specs.Load.{load}
use Rattle.words.specs.Types.{brought_of}
use Rattle.request.specs.Request.{Request}
use Rattle.verdict_text.specs.Line.{refuses}
use Rattle.verdict_line.specs.Line.{line_of, loaded_left, loaded_right, judged}
use Rattle.verdict_line.specs.Judge.{lent_most}
use Rattle.words.proofs.RoomLaws.{take-replicate}

-- An array as it is at first.
abbrev array : List ℕ
array = replicate lent_most 0

module _ (n : ℕ) (h : n ≤ lent_most) where
  pub lent_length : n ≡ length (take n array)
  lent_length = sym (length-take-le n array (rw length-replicate h))

  -- The first n words of an array whose first n words became `ws`.
  module _ (ws : List ℕ) (same : length ws ≡ length (take n array)) where
    pub again_fits : n ≤ length (ws ++ drop n array)
    again_fits = rw length-append (omega (arith, same, lent_length))

    pub again : take n (ws ++ drop n array) ≡ ws
    again = take_at ws (drop n array) n (same ∙ sym lent_length)

    pub again_length : n ≡ length (take n (ws ++ drop n array))
    again_length = lent_length ∙ sym same ∙ sym (ap length again)

  module _ (budget : ℕ) (left right : List ℕ) where
    abbrev asked : Request
    asked = record { budget = budget; C = n; left = left; right = right }

    -- Loading into the first n words is loading into n zeros.
    loads : (table ws : List ℕ) {a b : Result ℕ Refusal} → a ≡ b → brought_of a ws ≡ load table (take n array) → brought_of b ws ≡ load table (replicate n 0)
    loads table ws e q = ap (λ x. brought_of x ws) (sym e) ∙ q ∙ ap (load table) (take-replicate 0 n lent_most h)

    module _ (ws : List ℕ) {a : Result ℕ Refusal} (loaded : brought_of a ws ≡ load left (take n array)) where
      pub refused_left : {why : Refusal} → a ≡ Err why → refuses (number (refusal_of why)) ≡ judged (some asked)
      refused_left e = ap (λ q. loaded_left asked q.workspace q.answer) (loads left ws e loaded)

      after_left : {l : ℕ} → a ≡ Ok l
          → loaded_right n budget ws l (load right (replicate n 0)).workspace (load right (replicate n 0)).answer ≡ judged (some asked)
      after_left e = ap (λ q. loaded_left asked q.workspace q.answer) (loads left ws e loaded)

      module _ {l : ℕ} (l-is : a ≡ Ok l) (vs : List ℕ) {b : Result ℕ Refusal} (loaded-right : brought_of b vs ≡ load right (take n array)) where
        pub refused_right : {why : Refusal} → b ≡ Err why → refuses (number (refusal_of why)) ≡ judged (some asked)
        refused_right e = ap (λ q. loaded_right n budget ws l q.workspace q.answer) (loads right vs e loaded-right) ∙ after_left l-is

        -- The press on both arrays' first words.
        pub pressed_line : {r : ℕ} → b ≡ Ok r → length ws ≡ length (take n array) → length vs ≡ length (take n array)
            → (s : Session) → session_of s ≡ fresh → (p : Pressed) (ws' vs' scratch : List ℕ)
            → pressed_of p ws' vs' scratch
            ≡ press (memory_of (take n (ws ++ drop n array)) (take n (vs ++ drop n array)) s) (call_of (take n array) l r budget)
            → line_of (answer_of p.answer) ≡ judged (some asked)
        pressed_line {r} r-is same same' s s-is p ws' vs' scratch e =
            ap (λ q. line_of q.answer) e
            ∙ ap (λ x. line_of (press (record { left = x; right = take n (vs ++ drop n array); session = session_of s }) (call_of (take n array) l r budget)).answer) (again ws same)
            ∙ ap (λ x. line_of (press (record { left = ws; right = x; session = session_of s }) (call_of (take n array) l r budget)).answer) (again vs same')
            ∙ ap (λ x. line_of (press (record { left = ws; right = vs; session = x }) (call_of (take n array) l r budget)).answer) s-is
            ∙ ap (λ x. line_of (press (record { left = ws; right = vs; session = fresh }) (call_of x l r budget)).answer) (take-replicate 0 n lent_most h)
            ∙ ap (λ q. loaded_right n budget ws l q.workspace q.answer) (loads right vs r-is loaded-right)
            ∙ after_left l-is
