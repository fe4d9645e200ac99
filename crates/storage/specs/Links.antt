-- Refusal 4 ("Numbers for refused calls"): the two link rules.
use Rattle.std.specs.Prelude.{ℕ, ◌+◌, Bool, cond, not, ◌&&◌, ◌||◌, leb, ltb, eqb}
use Rattle.storage.specs.Records.{Table, everyOf, sum_of}

-- Refusal 4: a link other than 0 is not above its own record's index or is above n, or a record is not named by exactly one link.
abbrev pub link_fits : (n own link : ℕ) → Bool
link_fits n i l = eqb l 0 || (ltb i l && leb l n)

abbrev pub naming : (link i : ℕ) → ℕ
naming l i = cond (eqb l i) 1 0

-- How many links name record i, the root's link included.
unfoldable pub namings : Table → ℕ → ℕ
namings T i = naming T.root i + sum_of T.n (λ j. naming (T.at j).first i + naming (T.at j).next i)

abbrev pub links_fit : Table → ℕ → Bool
links_fit T i = link_fits T.n i (T.at i).first && link_fits T.n i (T.at i).next

unfoldable pub wrong_link : Table → Bool
wrong_link T = not (everyOf T.n (links_fit T) && everyOf T.n (λ i. eqb (namings T i) 1))
