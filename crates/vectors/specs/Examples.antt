-- What some bytes read as: a keyword that is there and one that is cut off, a number at its limit and above it, a setting and its default, a list that fits
-- and one that does not, the table of a chain, a comment and a line that is cut off. And which lines pass: a right one of each sort, and beside it lines that
-- expect one thing else; answers, sessions and lent words beside those that a line may expect.
use Rattle.std.specs.Prelude.{ℕ, ◌≡◌, Bool, true, false, List, [], ◌∷◌, ◌++◌, replicate}
use Rattle.calculus.specs.Rounds.{Same, Different, Budget, Full}
use Rattle.calculus.specs.Refusal.{WrongLength, NoTerm}
use Rattle.claim.specs.State.{Session, fresh}
use Rattle.claim.specs.Answer.{Answer, refused, shown}
use Rattle.calculus.specs.Bringing as bring
use Rattle.vector_text.specs.Text.{nowhere, after, number_at, setting_at}
use Rattle.text.specs.Names.{load_name, line_name, import_name, write_name, export_name, show_name, left_name, same_name, different_name, refusal_name}
use Rattle.vectors.specs.Keywords.{pair_word, press_word}
use Rattle.vectors.specs.Keywords.{at_word, gives_word, writes_word}
use Rattle.vector_text.specs.Lists.{list_at}
use Rattle.vectors.specs.Answers.{is_session, is_shown, is_refused}
use Rattle.vectors.specs.Pair.{junk, Lent, lent_at, Stage, refused_after, counted_after}
use Rattle.vectors.specs.Stored.{chain, written_as, loaded_as}
use Rattle.vectors.specs.Typed.{read_as}
use Rattle.vectors.specs.Encoded.{is_encoding, imported_as, exported_as}
use Rattle.vectors.specs.Vector.{nothing, counted, passes, share_of}

-- ` press 5`
abbrev pub pressed : List ℕ
pressed = 32 ∷ 112 ∷ 114 ∷ 101 ∷ 115 ∷ 115 ∷ 32 ∷ 53 ∷ []

-- ` pres`
abbrev pub cut : List ℕ
cut = 32 ∷ 112 ∷ 114 ∷ 101 ∷ 115 ∷ []

-- `16 4294967295`
abbrev pub largest : List ℕ
largest = 49 ∷ 54 ∷ 32 ∷ 52 ∷ 50 ∷ 57 ∷ 52 ∷ 57 ∷ 54 ∷ 55 ∷ 50 ∷ 57 ∷ 53 ∷ []

-- `4294967296`
abbrev pub above : List ℕ
above = 52 ∷ 50 ∷ 57 ∷ 52 ∷ 57 ∷ 54 ∷ 55 ∷ 50 ∷ 57 ∷ 54 ∷ []

-- `left 3`
abbrev pub given : List ℕ
given = 108 ∷ 101 ∷ 102 ∷ 116 ∷ 32 ∷ 51 ∷ []

-- `3*8,0`
abbrev pub list : List ℕ
list = 51 ∷ 42 ∷ 56 ∷ 44 ∷ 48 ∷ []

pub record ReadExamples : Type 0 where
  pub keyword : after pressed 0 press_word ≡ 6
  pub keyword_cut : after cut 0 press_word ≡ nowhere
  pub keyword_nowhere : after pressed nowhere press_word ≡ nowhere
  pub number_largest : number_at largest 2 ≡ record { value = 4294967295; next = 13 }
  pub number_above : number_at above 0 ≡ record { value = 0; next = nowhere }
  pub number_none : number_at list 3 ≡ record { value = 0; next = nowhere }
  pub number_behind_a_space : number_at (32 ∷ 53 ∷ []) 0 ≡ record { value = 5; next = 2 }
  pub number_behind_two : number_at (32 ∷ 32 ∷ 53 ∷ []) 0 ≡ record { value = 0; next = nowhere }
  pub setting : setting_at given 0 left_name 9 ≡ record { value = 3; next = 6 }
  pub setting_default : setting_at list 0 left_name 9 ≡ record { value = 9; next = 0 }
  pub list_fits : list_at list 0 (replicate 5 7) ≡ record { words = 8 ∷ 8 ∷ 8 ∷ 0 ∷ 7 ∷ []; count = 4; next = 5 }
  pub list_over : list_at list 0 (replicate 3 7) ≡ record { words = 8 ∷ 8 ∷ 8 ∷ []; count = 0; next = nowhere }
  pub list_empty : list_at (45 ∷ []) 0 (replicate 2 7) ≡ record { words = 7 ∷ 7 ∷ []; count = 0; next = 1 }
  -- \x.f5 as a table
  pub chain_of_two : chain 2 6 12 ≡ 1 ∷ 2 ∷ 1 ∷ 0 ∷ 1 ∷ 0 ∷ 2 ∷ 0 ∷ 0 ∷ 6 ∷ 0 ∷ 0 ∷ []
  pub comment : share_of (35 ∷ 120 ∷ []) true ≡ nothing
  pub cut_off : share_of pressed false ≡ counted false

-- A keyword behind a space, ` -`, and the numbers ` 0`, ` 1`, ` 8`, ` 16`.
abbrev pub spaced : List ℕ → List ℕ
spaced word = 32 ∷ word

abbrev pub nothing_given : List ℕ
nothing_given = 32 ∷ 45 ∷ []

abbrev pub n0 : List ℕ
n0 = 32 ∷ 48 ∷ []

abbrev pub n1 : List ℕ
n1 = 32 ∷ 49 ∷ []

abbrev pub n8 : List ℕ
n8 = 32 ∷ 56 ∷ []

abbrev pub n16 : List ℕ
n16 = 32 ∷ 49 ∷ 54 ∷ []

-- `pair 16 0 8`, and with it a press of budget 0 that should answer a verdict with a number spent and two terms.
abbrev pub pairing : List ℕ
pairing = pair_word ++ (n16 ++ (n0 ++ n8))

abbrev pub pressing : (verdict spent left right : List ℕ) → List ℕ
pressing v s l r = pairing ++ (spaced press_word ++ (n0 ++ (spaced v ++ (s ++ (l ++ r)))))

-- ` 1,0` and ` 1,8`; and `pair 16 1,0 1,8 press 0 Different 0`, then what is expected of the position, then ` 1,0 1,8`
abbrev pub identity : List ℕ
identity = 32 ∷ 49 ∷ 44 ∷ 48 ∷ []

abbrev pub constant : List ℕ
constant = 32 ∷ 49 ∷ 44 ∷ 56 ∷ []

abbrev pub parting : (position : List ℕ) → List ℕ
parting p =
    pair_word
    ++ (n16 ++ (identity ++ (constant ++ (spaced press_word ++ (n0 ++ (spaced different_name ++ (n0 ++ (p ++ (identity ++ constant)))))))))

-- `pair 16 0 8 left 0 press 0 Refused `
abbrev pub refusing : List ℕ
refusing = pairing ++ (spaced left_name ++ (n0 ++ (spaced press_word ++ (n0 ++ spaced refusal_name))))

-- ` 1,1,1,0,0,v,0,0` with a digit for v, `load 16 1,1,1,0,0,0,0,0` and `load 16 -`
abbrev pub table_with : (digit : ℕ) → List ℕ
table_with v = 32 ∷ 49 ∷ 44 ∷ 49 ∷ 44 ∷ 49 ∷ 44 ∷ 48 ∷ 44 ∷ 48 ∷ 44 ∷ v ∷ 44 ∷ 48 ∷ 44 ∷ 48 ∷ []

abbrev pub loading : List ℕ
loading = load_name ++ (n16 ++ table_with 48)

abbrev pub loading_nothing : List ℕ
loading_nothing = load_name ++ (n16 ++ nothing_given)

-- `line 16`, and with it the bytes of `\0`, 304 in place of the byte 48 of `0`, and no bytes
abbrev pub lining : List ℕ
lining = line_name ++ n16

abbrev pub reading_identity : List ℕ
reading_identity = lining ++ (32 ∷ 57 ∷ 50 ∷ 44 ∷ 52 ∷ 56 ∷ [])

abbrev pub reading_above : List ℕ
reading_above = lining ++ (32 ∷ 51 ∷ 48 ∷ 52 ∷ [])

abbrev pub reading_nothing : List ℕ
reading_nothing = lining ++ nothing_given

-- ` Refused 11`
abbrev pub outside : List ℕ
outside = spaced refusal_name ++ (32 ∷ 49 ∷ 49 ∷ [])

-- The numbers ` 2`, ` 4`, ` 12` and ` 32`.
abbrev pub n2 : List ℕ
n2 = 32 ∷ 50 ∷ []

abbrev pub n4 : List ℕ
n4 = 32 ∷ 52 ∷ []

abbrev pub n12 : List ℕ
n12 = 32 ∷ 49 ∷ 50 ∷ []

abbrev pub n32 : List ℕ
n32 = 32 ∷ 51 ∷ 50 ∷ []

-- `import 16 4`, and with it the byte of the encoding of `\0`, and a byte whose first four bits end early
abbrev pub importing : List ℕ
importing = import_name ++ (n16 ++ n4)

abbrev pub importing_identity : List ℕ
importing_identity = importing ++ n32

abbrev pub importing_part : List ℕ
importing_part = importing ++ n0

-- `export 16 1,0 2 1`, and `export 16 0 1 1`, of a term that is not closed
abbrev pub exporting_identity : List ℕ
exporting_identity = export_name ++ (n16 ++ (identity ++ (n2 ++ n1)))

abbrev pub exporting_free : List ℕ
exporting_free = export_name ++ (n16 ++ (n0 ++ (n1 ++ n1)))

-- `import 16 4 288`: 256 more than the byte of the encoding of `\0`
abbrev pub importing_above : List ℕ
importing_above = importing ++ (32 ∷ 50 ∷ 56 ∷ 56 ∷ [])

-- `write 16 0 1 8`
abbrev pub writing : List ℕ
writing = write_name ++ (n16 ++ (n0 ++ (n1 ++ n8)))

-- A press's answer.
abbrev pub answered : Answer
answered = shown (record { verdict = Different; spent = 3; left = 1; right = 2; position = 4 })

-- Whether workspaces of the terms 0 and 8 with a word behind each, and a scratch of two words, are as ` 0 8` says where junk was lent.
abbrev pub lent_of : (behindLeft behindRight first last : ℕ) → Bool
lent_of behindLeft behindRight first last =
    (lent_at (n0 ++ n8) 0 (0 ∷ behindLeft ∷ []) (8 ∷ behindRight ∷ []) junk (first ∷ last ∷ []) junk).equal

-- Where a line goes on after a refusal with the number 1 and after that answer, by whether the lent words are as they should be, and the session.
abbrev pub renewed : Session
renewed = record { total = 3; left = 1; right = 2; verdict = Different }

abbrev pub stage : Stage
stage = record { at = 0; terms = 0; left = 1; right = 2; tail = junk; session = fresh }

abbrev pub lent_as : Bool → Lent
lent_as equal = record { equal = equal; left = 1; right = 2; next = 9 }

abbrev pub refused_stage : Bool → Session → ℕ
refused_stage equal session = (refused_after n1 0 (lent_as equal) (refused WrongLength) session stage).at

abbrev pub counted_stage : Bool → Session → ℕ
counted_stage equal session = (counted_after Different 3 4 0 (lent_as equal) answered session stage).at

-- Whether ` Refused 1` holds of a loading, a reading, an importing, an exporting and a writing that were refused so and left this word in what was lent.
abbrev pub unloaded_from : ℕ → Bool
unloaded_from w = loaded_as (spaced refusal_name ++ n1) 0 [] (record { answer = bring.refused WrongLength; workspace = w ∷ [] })

abbrev pub unread_from : ℕ → Bool
unread_from w = read_as (spaced refusal_name ++ n1) 0 (record { answer = bring.refused WrongLength; workspace = w ∷ [] })

abbrev pub unimported_from : ℕ → Bool
unimported_from w = imported_as (spaced refusal_name ++ n1) 0 0 [] (record { answer = bring.refused WrongLength; workspace = w ∷ [] })

abbrev pub unexported_from : ℕ → Bool
unexported_from w = exported_as (spaced refusal_name ++ n1) 0 (record { answer = bring.refused WrongLength; bytes = w ∷ [] })

abbrev pub unwritten_from : ℕ → Bool
unwritten_from w = (written_as (spaced refusal_name ++ n1) 0 [] 0 (record { answer = bring.refused WrongLength; table = w ∷ [] })).holds

-- Whether an exporting that returned this bit count and left these bytes is as ` writes 4 32` says, and is the encoding of 4 bits and the byte 32 again.
abbrev pub written_from : (count : ℕ) (bytes : List ℕ) → Bool
written_from count bytes =
    exported_as (spaced writes_word ++ (32 ∷ 52 ∷ 32 ∷ 51 ∷ 50 ∷ [])) 0 (record { answer = bring.returned count; bytes = bytes })

abbrev pub again_from : (count : ℕ) (bytes : List ℕ) → Bool
again_from count bytes = is_encoding 4 (32 ∷ []) (record { answer = bring.returned count; bytes = bytes })

pub record PassingExamples : Type 0 where
  pub pressed_right : passes (pressing different_name n0 n0 n8) ≡ true
  pub other_verdict : passes (pressing same_name n0 n0 n8) ≡ false
  pub other_spent : passes (pressing different_name n1 n0 n8) ≡ false
  pub other_left : passes (pressing different_name n0 n8 n8) ≡ false
  pub other_right : passes (pressing different_name n0 n0 n0) ≡ false
  pub no_left : passes (pressing different_name n0 nothing_given n8) ≡ false
  pub surplus : passes (pressing different_name n0 n0 n8 ++ n0) ≡ false
  pub position_right : passes (parting (spaced at_word ++ n1)) ≡ true
  pub other_position : passes (parting (spaced at_word ++ n0)) ≡ false
  pub no_position : passes (parting []) ≡ false
  pub no_number_of_a_position : passes (parting (spaced at_word)) ≡ false
  pub refused_right : passes (refusing ++ (32 ∷ 49 ∷ 48 ∷ [])) ≡ true
  pub other_refusal : passes (refusing ++ n8) ≡ false
  pub shown_right : passes (pairing ++ (spaced show_name ++ n8)) ≡ true
  pub other_shown : passes (pairing ++ (spaced show_name ++ n0)) ≡ false
  pub nothing_shown : passes (pairing ++ (spaced show_name ++ nothing_given)) ≡ false
  pub loaded-right : passes (loading ++ (spaced gives_word ++ n0)) ≡ true
  pub other_loaded : passes (loading ++ (spaced gives_word ++ n8)) ≡ false
  pub nothing_loaded : passes (loading ++ (spaced gives_word ++ nothing_given)) ≡ false
  pub surplus_loaded : passes (loading ++ (spaced gives_word ++ (n0 ++ n0))) ≡ false
  pub unloaded_right : passes (loading_nothing ++ (spaced refusal_name ++ n1)) ≡ true
  pub other_unloaded : passes (loading_nothing ++ (spaced refusal_name ++ n8)) ≡ false
  pub surplus_unloaded : passes (loading_nothing ++ (spaced refusal_name ++ (n1 ++ n0))) ≡ false
  pub read_right : passes (reading_identity ++ (spaced gives_word ++ identity)) ≡ true
  pub other_read : passes (reading_identity ++ (spaced gives_word ++ constant)) ≡ false
  pub fewer_read : passes (reading_identity ++ (spaced gives_word ++ n1)) ≡ false
  pub nothing_read : passes (reading_identity ++ (spaced gives_word ++ nothing_given)) ≡ false
  pub surplus_read : passes (reading_identity ++ (spaced gives_word ++ (identity ++ n0))) ≡ false
  pub unread_right : passes (reading_nothing ++ outside) ≡ true
  pub other_unread : passes (reading_nothing ++ (spaced refusal_name ++ n1)) ≡ false
  pub surplus_unread : passes (reading_nothing ++ (outside ++ n0)) ≡ false
  pub not_unread : passes (reading_identity ++ outside) ≡ false
  pub above_read : passes (reading_above ++ (spaced gives_word ++ n0)) ≡ false
  pub above_unread : passes (reading_above ++ outside) ≡ false
  pub imported_right : passes (importing_identity ++ (spaced gives_word ++ identity)) ≡ true
  pub other_imported : passes (importing_identity ++ (spaced gives_word ++ constant)) ≡ false
  pub fewer_imported : passes (importing_identity ++ (spaced gives_word ++ n1)) ≡ false
  pub nothing_imported : passes (importing_identity ++ (spaced gives_word ++ nothing_given)) ≡ false
  pub surplus_imported : passes (importing_identity ++ (spaced gives_word ++ (identity ++ n0))) ≡ false
  pub unimported_right : passes (importing_part ++ (spaced refusal_name ++ n12)) ≡ true
  pub other_unimported : passes (importing_part ++ (spaced refusal_name ++ n1)) ≡ false
  pub surplus_unimported : passes (importing_part ++ (spaced refusal_name ++ (n12 ++ n0))) ≡ false
  pub not_unimported : passes (importing_identity ++ (spaced refusal_name ++ n12)) ≡ false
  pub exported_right : passes (exporting_identity ++ (spaced writes_word ++ (n4 ++ n32))) ≡ true
  pub other_count : passes (exporting_identity ++ (spaced writes_word ++ (n8 ++ n32))) ≡ false
  pub other_exported : passes (exporting_identity ++ (spaced writes_word ++ (n4 ++ n16))) ≡ false
  pub nothing_exported : passes (exporting_identity ++ (spaced writes_word ++ (n4 ++ nothing_given))) ≡ false
  pub surplus_exported : passes (exporting_identity ++ (spaced writes_word ++ (n4 ++ (n32 ++ n0)))) ≡ false
  pub unexported_right : passes (exporting_free ++ (spaced refusal_name ++ (32 ∷ 49 ∷ 51 ∷ []))) ≡ true
  pub other_unexported : passes (exporting_free ++ (spaced refusal_name ++ n1)) ≡ false
  pub not_unexported : passes (exporting_identity ++ (spaced refusal_name ++ (32 ∷ 49 ∷ 51 ∷ []))) ≡ false
  pub above_imported : passes (importing_above ++ (spaced gives_word ++ identity)) ≡ false
  pub above_unimported : passes (importing_above ++ (spaced refusal_name ++ n12)) ≡ false
  pub written_right : passes (writing ++ (spaced writes_word ++ table_with 48)) ≡ true
  pub other_written : passes (writing ++ (spaced writes_word ++ table_with 56)) ≡ false
  pub surplus_written : passes (writing ++ (spaced writes_word ++ (table_with 48 ++ n0))) ≡ false
  pub no_keyword : passes pressed ≡ false
  pub session : is_session fresh 0 0 0 Budget ≡ true
  pub session_total : is_session fresh 1 0 0 Budget ≡ false
  pub session_left : is_session fresh 0 1 0 Budget ≡ false
  pub session_right : is_session fresh 0 0 1 Budget ≡ false
  pub session_verdict : is_session fresh 0 0 0 Full ≡ false
  pub answer : is_shown answered Different 3 1 2 4 ≡ true
  pub answer_spent : is_shown answered Different 4 1 2 4 ≡ false
  pub answer_left : is_shown answered Different 3 2 2 4 ≡ false
  pub answer_right : is_shown answered Different 3 1 1 4 ≡ false
  pub answer_position : is_shown answered Different 3 1 2 0 ≡ false
  pub answer_verdict : is_shown answered Same 3 1 2 4 ≡ false
  pub answer_refused : is_shown (refused NoTerm) Different 3 1 2 4 ≡ false
  pub not_refused : is_refused answered 10 ≡ false
  pub lent : lent_of 7 7 7 7 ≡ true
  pub lent_left : lent_of 0 7 7 7 ≡ false
  pub lent_right : lent_of 7 0 7 7 ≡ false
  pub lent_scratch : lent_of 7 7 0 7 ≡ false
  pub lent_last : lent_of 7 7 7 0 ≡ false
  pub refused_kept : refused_stage true fresh ≡ 2
  pub refused_words : refused_stage false fresh ≡ nowhere
  pub refused_session : refused_stage true renewed ≡ nowhere
  pub counted_renewed : counted_stage true renewed ≡ 9
  pub counted_words : counted_stage false renewed ≡ nowhere
  pub counted_session : counted_stage true fresh ≡ nowhere
  pub unloaded_kept : unloaded_from junk ≡ true
  pub unloaded_changed : unloaded_from 0 ≡ false
  pub unread_kept : unread_from junk ≡ true
  pub unread_changed : unread_from 0 ≡ false
  pub unimported_kept : unimported_from junk ≡ true
  pub unimported_changed : unimported_from 0 ≡ false
  pub encoding_written : written_from 4 (32 ∷ []) ≡ true
  pub encoding_count : written_from 5 (32 ∷ []) ≡ false
  pub encoding_byte : written_from 4 (33 ∷ []) ≡ false
  pub encoding_longer : written_from 4 (32 ∷ 0 ∷ []) ≡ false
  pub encoding_missing : written_from 4 [] ≡ false
  pub encoding_again : again_from 4 (32 ∷ []) ≡ true
  pub encoding_again_count : again_from 5 (32 ∷ []) ≡ false
  pub encoding_again_byte : again_from 4 (33 ∷ []) ≡ false
  pub encoding_again_missing : again_from 4 [] ≡ false
  pub unexported_kept : unexported_from junk ≡ true
  pub unexported_changed : unexported_from 0 ≡ false
  pub unwritten_kept : unwritten_from junk ≡ true
  pub unwritten_changed : unwritten_from 0 ≡ false
