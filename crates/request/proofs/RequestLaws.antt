-- The request that bytes are, by where its parts stand.
use Prim.Native.Nat.{ℕ, zero, suc, ◌+◌, ◌*◌, ◌-◌, ◌/◌, ◌%◌, ◌≤◌, ◌<◌}
use mathlib.Core.Path.{◌≡◌, refl, sym, ◌∙◌, ap, ap₂, subst}
use mathlib.Core.Bool.{Bool, true, false, cond, ◌&&◌, and-false, and-eq-true_iff}
use mathlib.Core.List.{List}
use mathlib.Core.Option.{Option, some, none, bind}
use native.Mathlib.Omega.{arith}
use native.Mathlib.Decide.{dec_lt}
use lib.Dec.{leb, eqb}
use lib.ListN.{length, take, drop}
use lib.Seq.{take_all, length-take-le}
use borrow.Author.Tests.{leb-true, leb-false, le-leb, lt-leb, eq-eqb, ne_eqb}
use Rattle.request.specs.declared.Table.{Table}
use Rattle.std.specs.Prelude.{Some, None}
use Rattle.std.specs.Prelude as code_option
use Rattle.text.specs.Bytes.{word_bytes, words_of}
use Rattle.text.specs.Decode.{word_at, words_from}
use Rattle.request.specs.Request.{Request, table_limit, input_most, counted, complete, request_of, request}
use Rattle.request.specs.Parse.{end, table_at, words_of_table, Stands}
use Rattle.text.proofs.DecodeLaws.{length-words_from, take-words_from, drop-words_from, words_of_whole, words_of_part}

-- What is made of the table, if it is there.
abbrev pub with : {A : Type 0} → code_option.Option Table → (Table → Option A) → Option A
with (Some t) k = k t
with None k = none

-- What holds of a table that is there.
pub record There (bytes : List ℕ) (at : ℕ) (t : Table) : Type 0 where
  pub behind : t.at ≡ at + word_bytes
  pub counts : t.words ≡ word_at bytes at
  pub stands : Stands bytes t

same-table : (b : Bool) (t u : Table) → cond b (Some t) None ≡ Some u → (b ≡ true) × (t ≡ u)
same-table true t u e = (refl, cc)
same-table false t u e = cc

pub there : (bytes : List ℕ) (at : ℕ) {t : Table} → table_at bytes at ≡ Some t → There bytes at t
unfolding table_at
there bytes at {t} e =
    let s = same-table _ _ t e in
    let later = (and-eq-true_iff _ _).0 ((and-eq-true_iff (leb (at + word_bytes) (length bytes)) _).0 s.0).1 in
    subst (There bytes at) s.1
    (record {
      behind = refl;
      counts = refl;
      stands = record { few = leb-true _ _ later.0; inside = leb-true _ _ later.1 };
    })

-- No table stands where its count or its words run past the end, or its count is above the limit; else one does.
pub count_missing : (bytes : List ℕ) (at : ℕ) → length bytes < at + word_bytes → table_at bytes at ≡ None
unfolding table_at
count_missing bytes at h = rw (lt-leb (at + word_bytes) (length bytes) h)

pub too_many : (bytes : List ℕ) (at : ℕ) → table_limit < word_at bytes at → table_at bytes at ≡ None
unfolding table_at
too_many bytes at h = rw (lt-leb (word_at bytes at) table_limit h, and-false)

pub words_missing : (bytes : List ℕ) (at : ℕ) → length bytes < at + word_bytes + word_bytes * word_at bytes at → table_at bytes at ≡ None
unfolding table_at
words_missing bytes at h = rw (lt-leb (at + word_bytes + word_bytes * word_at bytes at) (length bytes) h, and-false, and-false)

abbrev table_behind : List ℕ → ℕ → Table
table_behind bytes at = record { at = at + word_bytes; words = word_at bytes at }

pub stands_there : (bytes : List ℕ) (at : ℕ) → Stands bytes (table_behind bytes at) → table_at bytes at ≡ Some (table_behind bytes at)
unfolding table_at
stands_there bytes at s =
    rw (
      le-leb (at + word_bytes) (length bytes) (omega (arith, s.inside)),
      le-leb (word_at bytes at) table_limit s.few,
      le-leb (end (table_behind bytes at)) (length bytes) s.inside,
    )

-- A table behind its count, among the words that are left.
counted-at : {A : Type 0} (j : ℕ) (bytes : List ℕ) (at : ℕ) (k : List ℕ → List ℕ → Option A) → length bytes ≡ at + word_bytes * j
    → counted (words_from j bytes at) k
    ≡ with (table_at bytes at) (λ t. k (words_of_table bytes t) (words_from (j - (1 + t.words)) bytes (end t)))
unfolding words_from
counted-at zero bytes at k e = rw (count_missing bytes at (omega arith))
counted-at {A} (suc j) bytes at k e =
    let w = word_at bytes at in
    go (leb w table_limit) (leb w j) refl refl
  where
    go : (few fit : Bool) → leb (word_at bytes at) table_limit ≡ few → leb (word_at bytes at) j ≡ fit
        → cond
        (leb (word_at bytes at) table_limit && leb (word_at bytes at) (length (words_from j bytes (at + word_bytes))))
        (k (take (word_at bytes at) (words_from j bytes (at + word_bytes))) (drop (word_at bytes at) (words_from j bytes (at + word_bytes))))
        none
        ≡ with {A = A} (table_at bytes at) (λ t. k (words_of_table bytes t) (words_from (suc j - (1 + t.words)) bytes (end t)))
    go false fit p q = rw (p, too_many bytes at (leb-false _ _ p))
    go true false p q =
        let h : length bytes < at + word_bytes + word_bytes * word_at bytes at = omega (arith, leb-false (word_at bytes at) j q) in
        rw (p, length-words_from, q, words_missing bytes at h)
    go true true p q =
        let h : word_at bytes at ≤ j = leb-true _ _ q in
        let f : j - word_at bytes at ≡ suc j - (1 + word_at bytes at) = omega arith in
        rw (p, length-words_from, q, stands_there bytes at (record { few = leb-true _ _ p; inside = omega arith }))
        (ap₂ k (take-words_from _ j bytes (at + word_bytes) h)
        (drop-words_from _ j bytes (at + word_bytes) h ∙ ap (λ i. words_from i bytes (end (table_behind bytes at))) f))

-- What the bytes ask, by where budget, C and the two tables stand.
abbrev pub parts_at : List ℕ → (left right : Table) → Request
parts_at bytes left right =
    record { budget = word_at bytes 0; C = word_at bytes word_bytes; left = words_of_table bytes left; right = words_of_table bytes right }

abbrev pub right_at : List ℕ → (left right : Table) → Option Request
right_at bytes left right = cond (eqb (end right) (length bytes)) (some (parts_at bytes left right)) none

abbrev pub left_at : List ℕ → (left : Table) → Option Request
left_at bytes left = with (table_at bytes (end left)) (right_at bytes left)

abbrev pub left_count : ℕ
left_count = word_bytes + word_bytes

-- Nothing stands behind the right table where it ends with the bytes.
complete-at : (n budget C : ℕ) (left right : List ℕ) (bytes : List ℕ) (at : ℕ) → length bytes ≡ at + word_bytes * n
    → complete budget C left right (words_from n bytes at)
    ≡ cond (eqb at (length bytes)) (some (record { budget = budget; C = C; left = left; right = right })) none
unfolding words_from
complete-at zero budget C left right bytes at e = rw (eq-eqb at (length bytes) (omega arith))
complete-at (suc n) budget C left right bytes at e = rw (ne_eqb at (length bytes) (λ same. omega arith))

-- Words of a request: what follows budget and C.
words_at : (n : ℕ) (bytes : List ℕ) → length bytes ≡ left_count + word_bytes * n
    → counted (words_from n bytes left_count) (λ left rest. counted rest (complete (word_at bytes 0) (word_at bytes word_bytes) left))
    ≡ with (table_at bytes left_count) (left_at bytes)
words_at n bytes e = counted-at n bytes left_count _ e ∙ left (table_at bytes left_count) refl
  where
    right : (l : Table) (k : ℕ) → length bytes ≡ end l + word_bytes * k → (f : code_option.Option Table) → table_at bytes (end l) ≡ f
        → with f (λ r. complete (word_at bytes 0) (word_at bytes word_bytes) (words_of_table bytes l) (words_of_table bytes r) (words_from (k - (1 + r.words)) bytes (end r)))
        ≡ with f (right_at bytes l)
    right l k d (Some r) g =
        let t = there bytes (end l) g in
        complete-at (k - (1 + r.words)) _ _ _ _ bytes (end r) (omega (arith, t.behind, t.stands.inside))
    right l k d None g = refl

    left : (f : code_option.Option Table) → table_at bytes left_count ≡ f
        → with f (λ t. counted (words_from (n - (1 + t.words)) bytes (end t)) (complete (word_at bytes 0) (word_at bytes word_bytes) (words_of_table bytes t)))
        ≡ with f (left_at bytes)
    left (Some l) g =
        let t = there bytes left_count g in
        let d : length bytes ≡ end l + word_bytes * (n - (1 + l.words)) = omega (arith, t.behind, t.stands.inside) in
        counted-at (n - (1 + l.words)) bytes (end l) _ d ∙ right l (n - (1 + l.words)) d (table_at bytes (end l)) refl
    left None g = refl

-- The request that bytes are, by where its parts stand.
pub request-at : (bytes : List ℕ) → request bytes ≡ with (table_at bytes left_count) (left_at bytes)
unfolding request bind words_from
request-at bytes = split (length bytes % word_bytes) (length bytes / word_bytes) (omega arith) refl
  where
    whole : (n : ℕ) → length bytes ≡ word_bytes * n → bind (words_of bytes) request_of ≡ with (table_at bytes left_count) (left_at bytes)
    whole zero e = rw (words_of_whole bytes 0 e, count_missing bytes left_count (omega arith))
    whole (suc zero) e = rw (words_of_whole bytes 1 e, count_missing bytes left_count (omega arith))
    whole (suc (suc n)) e = rw (words_of_whole bytes (suc (suc n)) e) (words_at n bytes (omega arith))

    -- The parts of a request take whole words.
    right : (l : Table) → There bytes left_count l → 0 < length bytes % word_bytes → (f : code_option.Option Table) → table_at bytes (end l) ≡ f → none ≡ with f (right_at bytes l)
    right l t h (Some r) g =
        let u = there bytes (end l) g in
        rw (ne_eqb (end r) (length bytes) (λ same. omega (arith, t.behind, u.behind)))
    right l t h None g = refl

    left : 0 < length bytes % word_bytes → (f : code_option.Option Table) → table_at bytes left_count ≡ f → none ≡ with f (left_at bytes)
    left h (Some l) g = right l (there bytes left_count g) h (table_at bytes (end l)) refl
    left h None g = refl

    split : (r n : ℕ) → length bytes ≡ word_bytes * n + r → length bytes % word_bytes ≡ r → bind (words_of bytes) request_of ≡ with (table_at bytes left_count) (left_at bytes)
    split zero n e f = whole n (omega arith)
    split (suc r) n e f = rw (words_of_part bytes (omega arith)) (left (omega arith) (table_at bytes left_count) refl)

-- What each answer of the two searches makes of the bytes.
pub no_left : (bytes : List ℕ) → table_at bytes left_count ≡ None → none ≡ request bytes
no_left bytes e = sym (request-at bytes ∙ rw e)

module _ (bytes : List ℕ) {l : Table} (e : table_at bytes left_count ≡ Some l) where
  pub no_right : table_at bytes (end l) ≡ None → none ≡ request bytes
  no_right f = sym (request-at bytes ∙ rw (e, f))

  pub surplus : {r : Table} → table_at bytes (end l) ≡ Some r → (end r ≡ length bytes → ⊥) → none ≡ request bytes
  surplus f g = sym (request-at bytes ∙ rw (e, f, ne_eqb _ _ g))

  pub asked : {r : Table} → table_at bytes (end l) ≡ Some r → end r ≡ length bytes → some (parts_at bytes l r) ≡ request bytes
  asked f g = sym (request-at bytes ∙ rw (e, f, eq-eqb _ _ g))

-- Bytes beyond what a request can have are none, so the first byte beyond shows as much as all of them.
too_long : (bytes : List ℕ) → input_most < length bytes → request bytes ≡ none
too_long bytes h = request-at bytes ∙ left (table_at bytes left_count) refl
  where
    right : (l : Table) → There bytes left_count l → (f : code_option.Option Table) → table_at bytes (end l) ≡ f → with f (right_at bytes l) ≡ none
    right l t (Some r) g =
        let u = there bytes (end l) g in
        rw (ne_eqb (end r) (length bytes) (λ same. omega (arith, t.behind, t.stands.few, u.behind, u.stands.few)))
    right l t None g = refl

    left : (f : code_option.Option Table) → table_at bytes left_count ≡ f → with f (left_at bytes) ≡ none
    left (Some l) g = right l (there bytes left_count g) (table_at bytes (end l)) refl
    left None g = refl

pub read_enough : (bytes : List ℕ) → request (take (suc input_most) bytes) ≡ request bytes
read_enough bytes = go (dec_lt input_most (length bytes))
  where
    go : Dec (input_most < length bytes) → request (take (suc input_most) bytes) ≡ request bytes
    go (yes h) =
        too_long (take (suc input_most) bytes) (rw (length-take-le (suc input_most) bytes h) (omega arith)) ∙ sym (too_long bytes h)
    go (no h) = rw (take_all (suc input_most) bytes (omega arith))
