-- Which term the bytes of a line are ("Lines"). The grammar is a relation between bytes and terms, one constructor for each of its clauses: no
-- reader, no position and no order of reading stands in it. An abstraction's body needs no clause that says how far it reaches: an abstraction is
-- the last item of its term, so it ends where its term ends, at the end of the line or before the parenthesis that closes around it.
use Rattle.std.specs.Prelude.{ℕ, ◌+◌, ◌*◌, ◌≤◌, List, [], ◌∷◌, ◌++◌}
use Rattle.calculus.specs.Term.{Term, var, lam, app}
use Rattle.calculus.specs.Accepted.{index_limit}

-- The bytes of the notation, as ASCII. The digits are the ten bytes from that of 0 on.
abbrev pub space : ℕ
space = 32

abbrev pub opening : ℕ
opening = 40

abbrev pub closing : ℕ
closing = 41

abbrev pub zero_digit : ℕ
zero_digit = 48

abbrev pub backslash : ℕ
backslash = 92

-- Decimal digits: their bytes, what one more digit in front of them is worth (1, 10, 100 and so on), and the number that they are.
pub data Digits : (bytes : List ℕ) (worth number : ℕ) → Type 0 where
  no_digit : Digits [] 1 0
  digit : {d p n : ℕ} {bs : List ℕ} → d ≤ 9 → Digits bs p n → Digits ((zero_digit + d) ∷ bs) (p * 10) (d * p + n)

-- "An index has no leading zero except 0 itself and is at most 32,767 .."
pub data Index : (bytes : List ℕ) (index : ℕ) → Type 0 where
  zero_itself : Index (zero_digit ∷ []) 0
  no_leading_zero : {d p n : ℕ} {bs : List ℕ} → 1 ≤ d → d ≤ 9 → Digits bs p n → d * p + n ≤ index_limit
      → Index ((zero_digit + d) ∷ bs) (d * p + n)

-- What bytes are: one item, or the items of a term, one or more.
pub data Category : Type 0 where
  item items : Category

-- Where they may stand: at any place among the items of a term, or as its last item only.
pub data Place : Type 0 where
  anywhere last : Place

-- `Spells c p bs t` says that the bytes bs are of the category c, may stand at the place p, and are the term t.
pub data Spells : Category → Place → (bytes : List ℕ) → Term → Type 0 where
  -- "An item is an index, a term in parentheses or, as the last item only, an abstraction .."
  index : {p : Place} {bs : List ℕ} {i : ℕ} → Index bs i → Spells item p bs (var i)
  parentheses : {p : Place} {bs : List ℕ} {t : Term} → Spells items last bs t → Spells item p (opening ∷ (bs ++ (closing ∷ []))) t
  abstraction : {bs : List ℕ} {b : Term} → Spells items last bs b → Spells item last (backslash ∷ bs) (lam b)
  -- "juxtaposition is application and groups to the left ..", "A space stands exactly between two items of an application and nowhere else .."
  one : {p : Place} {bs : List ℕ} {t : Term} → Spells item p bs t → Spells items p bs t
  applied : {p : Place} {bs cs : List ℕ} {f a : Term} → Spells items anywhere bs f → Spells item p cs a
      → Spells items p (bs ++ (space ∷ cs)) (app f a)

-- The bytes of a line, of whatever length, are the term t.
abbrev pub Line : (bytes : List ℕ) → Term → Type 0
Line = Spells items last

-- The fewest and the most bytes of a line that is read.
abbrev pub line_least : ℕ
line_least = 1

abbrev pub line_most : ℕ
line_most = 1024
