-- Reading a list item by item, and parts of arrays of equal words.
use Prim.Native.Nat.{ℕ, zero, suc, ◌-◌, ◌≤◌, ◌<◌, min}
use native.Mathlib.Omega.{arith}
use mathlib.Core.Path.{◌≡◌, refl, sym, ◌∙◌, ap}
use mathlib.Core.Bool.{true, false}
use mathlib.Core.List.{List, ◌++◌}
use lib.Dec.{eqb}
use lib.ListN.{length, take, drop, replicate, length-append, length-replicate}
use lib.Seq.{take_at, length-take-le}
use Rattle.words.proofs.RoomLaws.{take-replicate}
use Rattle.vector_text.specs.Text.{nowhere, after}
use Rattle.vector_text.specs.Lists.{comma, Listed, with_more, items}

-- So many words of an array of equal ones.
module _ (a k m n : ℕ) (is : n ≡ min k m) where
  pub lent_words : take n (replicate m a) ≡ replicate (min k m) a
  lent_words = rw is (take-replicate a (min k m) m (omega arith))

  pub lent_length : n ≡ length (take n (replicate m a))
  lent_length = sym (length-take-le n (replicate m a) (rw length-replicate (omega arith)))

  -- What a call leaves of them is lent again.
  pub lent_again : (new : List ℕ) → length new ≡ length (take n (replicate m a))
      → (n ≤ length (new ++ drop n (replicate m a))) × (n ≡ length (take n (new ++ drop n (replicate m a)))) × (take n (new ++ drop n (replicate m a)) ≡ new)
  lent_again new same =
      let len : length new ≡ n = same ∙ sym lent_length in
      let back = take_at new (drop n (replicate m a)) n len in
      (rw length-append (omega arith), sym (ap length back ∙ len), back)

-- Items until no comma follows.
module _ (text : List ℕ) (l m : Listed) (is : m ≡ with_more text l) where
  pub items_last : (turns : ℕ) → 0 < turns → eqb (after text m.next comma) nowhere ≡ true → items turns text l ≡ m
  unfolding items
  items_last zero h e = absurd (omega arith)
  items_last (suc k) h e = rw (← is, e)

  pub items-next : (turns : ℕ) → 0 < turns → eqb (after text m.next comma) nowhere ≡ false
      → items turns text l ≡ items (turns - 1) text (record { words = m.words; count = m.count; next = after text m.next comma })
  unfolding items
  items-next zero h e = absurd (omega arith)
  items-next (suc k) h e =
      let down : suc k - 1 ≡ k = omega arith in
      rw (down, ← is, e)

pub items-end : (text : List ℕ) (l : Listed) (turns : ℕ) → turns ≤ 0 → items turns text l ≡ l
unfolding items
items-end text l zero h = refl
items-end text l (suc k) h = absurd (omega arith)
