-- Stores into a slice, element by element.
use Prim.Native.Nat.{ℕ, suc, ◌+◌, ◌≤◌, ◌<◌}
use mathlib.Core.Path.{◌≡◌, sym, ◌∙◌, ap}
use mathlib.Core.List.{List, ◌++◌}
use native.Mathlib.Numerals.{add-one}
use native.Mathlib.Omega.{arith}
use lib.ListN.{length, get_or, take, drop, set, length-append}
use lib.Seq.{sets, drop-cons, take_at}

-- A turn of a loop that stores `work` in order: the store of element i leaves the work from i + 1 on.
pub store_next : (work l : List ℕ) (i o : ℕ) {next v : ℕ} → i < length work → v ≡ get_or work i 0 → next ≡ suc o
    → sets (set l o v) next (drop (i + 1) work) ≡ sets l o (drop i work)
store_next work l i o h e f = rw (drop-cons work i 0 h, e, f, add-one)

-- A list's first part, by its length.
pub front_fits : (p q : List ℕ) {n : ℕ} → length p ≡ n → n ≤ length (p ++ q)
front_fits p q e = omega (arith, length-append p q)

pub front_length : (p q : List ℕ) (n : ℕ) → length p ≡ n → n ≡ length (take n (p ++ q))
front_length p q n e = sym (ap length (take_at p q n e) ∙ e)
