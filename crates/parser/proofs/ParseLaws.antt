-- The loop of line_words.
use Prim.Native.Nat.{ℕ, zero, suc, ◌+◌, ◌-◌, ◌≤◌, ◌<◌}
use mathlib.Core.Path.{◌≡◌, ◌∙◌}
use mathlib.Core.List.{List, [], ◌∷◌, reverse}
use mathlib.Core.Option.{some, none, bind}
use native.Mathlib.Omega.{arith}
use lib.ListN.{length, drop, get_or, length-drop, drop_of_length-le}
use lib.Seq.{drop-cons}
use Rattle.std.proofs.lemmas.List.{get_or-reverse, get_or_default}
use Rattle.calculus.proofs.All.{all_some}
use Rattle.parser.specs.declared.Place as codePlace
use Rattle.parser.specs.declared.Place.TheVariants as place
use Rattle.parser.specs.declared.Scan.{Scan}
use Rattle.notation.specs.Reader.{sign, apply, State, Begun, settle, step, scan, finish, line_words}
use Rattle.notation.specs.Grammar.{line_most}
use Rattle.parser.specs.Scan.{state_at, state_of, room_most, Within, Ahead, Parses}
use Rattle.notation.proofs.Bounded.{tally, load, scan-load}

load_at : (p : codePlace.Place) (n : ℕ) (ns ws : List ℕ) → n + tally ns + length ws ≤ load (state_at p n ns ws)
load_at place.Wanted n ns ws = omega arith
load_at (place.Number v p) n ns ws = omega arith
load_at place.Begun n ns ws = omega arith

tally_length : (ns : List ℕ) → length ns ≤ tally ns
tally_length [] = omega arith
tally_length (n ∷ ns) = omega (arith, tally_length ns)

-- The invariant: the scan of the last k bytes is the state that is kept, and both arrays have their room.
pub record Parsing (line : List ℕ) (k : ℕ) (s : Scan) (stack out : List ℕ) : Type 0 where
  pub stack_full : length stack ≡ room_most
  pub out_full : length out ≡ room_most
  pub short : length line ≤ line_most
  pub within : Within room_most room_most s
  pub scanned : scan (drop (length line - k) line) ≡ some (state_of s stack out)

-- Words, counts and open parentheses together are no more than the bytes that are read.
module _ {line : List ℕ} {k : ℕ} {s : Scan} {stack out : List ℕ} (v : Parsing line k s stack out) where
  loaded : s.count + (room_most - s.top) + (room_most - s.at) ≤ length line - (length line - k)
  loaded =
      let h = all_some (rw v.scanned at (scan-load (drop (length line - k) line))) in
      omega (
        arith,
        h,
        load_at s.place s.count (drop s.top stack) (drop s.at out),
        tally_length (drop s.top stack),
        length-drop s.top stack,
        length-drop s.at out,
        length-drop (length line - k) line,
        v.stack_full,
        v.out_full,
      )

  pub parsing_count : s.count < s.at
  parsing_count = omega (arith, loaded, v.within.at, v.short)

  pub parsing_room : k < length line → Ahead s
  parsing_room g =
      record {
        words = omega (arith, loaded, v.within.at, v.within.top, v.short);
        depth = omega (arith, loaded, v.within.at, v.within.top, v.short);
      }

pub parsing_starts : (line stack out : List ℕ) → Parses line stack out
    → Parsing line 0 (record { at = room_most; top = room_most; count = 0; place = place.Wanted }) stack out
unfolding scan
parsing_starts line stack out p =
    let none_left : length line ≤ length line - 0 = omega arith in
    let none_open : length stack ≤ room_most = omega (arith, p.stack_full) in
    let no_word : length out ≤ room_most = omega (arith, p.out_full) in
    record {
      stack_full = p.stack_full;
      out_full = p.out_full;
      short = p.short;
      within = record { at = omega arith; top = omega arith; place = tt };
      scanned = rw (drop_of_length-le line none_left, drop_of_length-le stack none_open, drop_of_length-le out no_word);
    }

-- The byte in front of the last k, as the walk from the end gives it.
front_byte : (line : List ℕ) (k b : ℕ) → k < length line → b ≡ get_or (reverse line) k b → b ≡ get_or line (length line - 1 - k) 0
front_byte line k b h e =
    let inside : length line - 1 - k < length line = omega arith in
    e ∙ get_or-reverse line k b h ∙ get_or_default line (length line - 1 - k) b 0 inside

pub scan_byte : (line : List ℕ) (k b : ℕ) {σ : State} → k < length line → b ≡ get_or (reverse line) k b → scan (drop (length line - k) line) ≡ some σ
    → scan (drop (length line - (k + 1)) line) ≡ step (sign b) σ
unfolding scan bind
scan_byte line k b {σ} h e q =
    let this : length line - (k + 1) ≡ length line - 1 - k = omega arith in
    let next : suc (length line - 1 - k) ≡ length line - k = omega arith in
    let inside : length line - 1 - k < length line = omega arith in
    let behind : scan (drop (suc (length line - 1 - k)) line) ≡ some σ = rw next q in
    rw (this, drop-cons line (length line - 1 - k) 0 inside, behind, ← front_byte line k b h e)

-- All bytes are read.
pub scan_all : (line : List ℕ) (k : ℕ) {σ : State} → k ≡ length line → scan (drop (length line - k) line) ≡ some σ → scan line ≡ some σ
scan_all line k e q = let none_left : length line - k ≡ 0 = omega arith in rw none_left at q

-- A byte that refuses makes the whole line none.
none_behind : (line : List ℕ) (i : ℕ) → scan (drop i line) ≡ none → scan line ≡ none
unfolding scan bind
none_behind line zero q = q
none_behind [] (suc i) q = q
none_behind (b ∷ line) (suc i) q = rw (none_behind line i q)

pub line_words_none : (line : List ℕ) (i : ℕ) → scan (drop i line) ≡ none → none ≡ line_words line
unfolding line_words bind
line_words_none line i q = rw (none_behind line i q)

pub line_words_unsettled : (line : List ℕ) {σ : State} → scan line ≡ some σ → none ≡ settle σ → none ≡ line_words line
unfolding line_words bind
line_words_unsettled line q e = rw (q, ← e)

pub line_words_settled : (line : List ℕ) {σ : State} {b : Begun} → scan line ≡ some σ → some b ≡ settle σ
    → finish b.stack (apply b.count b.words) ≡ line_words line
unfolding line_words bind
line_words_settled line q e = rw (q, ← e)

pub finish_open : (top : ℕ) (stack ws : List ℕ) → top < length stack → none ≡ finish (drop top stack) ws
unfolding finish
finish_open top stack ws h = rw (drop-cons stack top 0 h)

pub finish-closed : (top : ℕ) (stack ws : List ℕ) → length stack ≤ top → some ws ≡ finish (drop top stack) ws
unfolding finish
finish-closed top stack ws h = rw (drop_of_length-le stack h)
