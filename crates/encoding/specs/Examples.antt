-- Bits of terms, bits in bytes, and what importing and exporting do with encodings, worked out from the rules. Each refusal is met with everything else
-- right, and any two refusals of a call are met together.
use Rattle.std.specs.Prelude.{ℕ, ◌≡◌, Bool, true, false, List, [], ◌∷◌, ◌++◌, replicate}
use Rattle.std.proofs.Math.Option.{some, none}
use Rattle.calculus.specs.Term.{var, lam, app}
use Rattle.calculus.specs.Refusal.{WrongWorkspace, TooLong, NoTerm, WrongBits, NoCombinator}
use Rattle.calculus.specs.Bringing.{refused, returned, Brought}
use Rattle.encoding.specs.Bits.{bits}
use Rattle.encoding.specs.Bytes.{unpacked, packed}
use Rattle.encoding.specs.Decoding.{words_in, decode}
use Rattle.encoding.specs.Import.{import}
use Rattle.encoding.specs.Export.{Exported, export}
use Rattle.calculus.specs.Theorems.{unchanged}
use Rattle.encoding.specs.Theorems.{bytes_kept}

-- The bits 0 and 1.
abbrev pub o : Bool
o = false

abbrev pub l : Bool
l = true

pub record BitsExamples : Type 0 where
  pub index_0 : bits (var 0) ≡ l ∷ o ∷ []
  pub index_1 : bits (var 1) ≡ l ∷ l ∷ o ∷ []
  pub index_2 : bits (var 2) ≡ l ∷ l ∷ l ∷ o ∷ []
  pub identity : bits (lam (var 0)) ≡ o ∷ o ∷ l ∷ o ∷ []
  -- K is \\1
  pub k : bits (lam (lam (var 1))) ≡ o ∷ o ∷ o ∷ o ∷ l ∷ l ∷ o ∷ []
  -- S is \\\2 0 (1 0)
  pub s : bits (lam (lam (lam (app (app (var 2) (var 0)) (app (var 1) (var 0))))))
      ≡ o ∷ o ∷ o ∷ o ∷ o ∷ o ∷ o ∷ l ∷ o ∷ l ∷ l ∷ l ∷ l ∷ o ∷ l ∷ o ∷ o ∷ l ∷ l ∷ l ∷ o ∷ l ∷ o ∷ []
  -- the identity applied to K, and K to the identity
  pub identity_of_k : bits (app (lam (var 0)) (lam (lam (var 1)))) ≡ o ∷ l ∷ o ∷ o ∷ l ∷ o ∷ o ∷ o ∷ o ∷ o ∷ l ∷ l ∷ o ∷ []
  pub k_of_identity : bits (app (lam (lam (var 1))) (lam (var 0))) ≡ o ∷ l ∷ o ∷ o ∷ o ∷ o ∷ l ∷ l ∷ o ∷ o ∷ o ∷ l ∷ o ∷ []

pub record BytesExamples : Type 0 where
  pub byte_1 : unpacked (1 ∷ []) ≡ o ∷ o ∷ o ∷ o ∷ o ∷ o ∷ o ∷ l ∷ []
  pub byte_32 : unpacked (32 ∷ []) ≡ o ∷ o ∷ l ∷ o ∷ o ∷ o ∷ o ∷ o ∷ []
  pub byte_255 : unpacked (255 ∷ []) ≡ l ∷ l ∷ l ∷ l ∷ l ∷ l ∷ l ∷ l ∷ []
  pub bytes_in_order : unpacked (128 ∷ 3 ∷ []) ≡ l ∷ o ∷ o ∷ o ∷ o ∷ o ∷ o ∷ o ∷ o ∷ o ∷ o ∷ o ∷ o ∷ o ∷ l ∷ l ∷ []
  pub no_bytes : unpacked [] ≡ []
  pub zeros_in_the_byte : packed 1 (o ∷ o ∷ l ∷ o ∷ []) ≡ 32 ∷ []
  pub zeros_in_later_bytes : packed 3 (o ∷ o ∷ l ∷ o ∷ []) ≡ 32 ∷ 0 ∷ 0 ∷ []
  pub whole_byte : packed 2 (o ∷ o ∷ o ∷ o ∷ o ∷ o ∷ l ∷ o ∷ []) ≡ 2 ∷ 0 ∷ []
  pub ninth_bit : packed 2 (l ∷ o ∷ o ∷ o ∷ o ∷ o ∷ o ∷ l ∷ l ∷ []) ≡ 129 ∷ 128 ∷ []
  pub only_zeros : packed 2 [] ≡ 0 ∷ 0 ∷ []
  pub ones : packed 1 (l ∷ l ∷ l ∷ l ∷ l ∷ l ∷ l ∷ l ∷ []) ≡ 255 ∷ []

pub record DecodingExamples : Type 0 where
  pub index_0 : decode (l ∷ o ∷ []) ≡ some (var 0)
  pub index_2 : decode (l ∷ l ∷ l ∷ o ∷ []) ≡ some (var 2)
  pub identity : decode (o ∷ o ∷ l ∷ o ∷ []) ≡ some (lam (var 0))
  pub two_indices : decode (o ∷ l ∷ l ∷ o ∷ l ∷ l ∷ o ∷ []) ≡ some (app (var 0) (var 1))
  pub application_first : decode (o ∷ l ∷ o ∷ o ∷ l ∷ o ∷ l ∷ o ∷ []) ≡ some (app (lam (var 0)) (var 0))
  pub abstraction_first : decode (o ∷ o ∷ o ∷ l ∷ l ∷ o ∷ l ∷ o ∷ []) ≡ some (lam (app (var 0) (var 0)))
  -- bits that end early
  pub nothing : decode [] ≡ none
  pub half_a_sign : decode (o ∷ []) ≡ none
  pub no_body : decode (o ∷ o ∷ []) ≡ none
  pub no_function : decode (o ∷ l ∷ []) ≡ none
  pub no_argument : decode (o ∷ l ∷ l ∷ o ∷ []) ≡ none
  pub one : decode (l ∷ []) ≡ none
  pub two_ones : decode (l ∷ l ∷ []) ≡ none
  pub half_a_body : decode (o ∷ o ∷ o ∷ []) ≡ none
  pub ones_in_the_body : decode (o ∷ o ∷ l ∷ []) ≡ none
  pub half_an_argument : decode (o ∷ l ∷ l ∷ o ∷ o ∷ []) ≡ none
  pub ones_in_the_argument : decode (o ∷ l ∷ l ∷ o ∷ l ∷ []) ≡ none
  -- bits that are left over
  pub zero_left_over : decode (o ∷ o ∷ l ∷ o ∷ o ∷ []) ≡ none
  pub one_left_over : decode (o ∷ o ∷ l ∷ o ∷ l ∷ []) ≡ none
  pub term_left_over : decode (o ∷ o ∷ l ∷ o ∷ l ∷ o ∷ []) ≡ none
  -- no words of bits that end early: before a term, in a run, after a lone 0
  pub no_words_of_nothing : words_in [] 0 1 ≡ none
  pub no_words_of_a_run : words_in (l ∷ []) 0 1 ≡ none
  pub no_words_of_half_a_sign : words_in (o ∷ []) 0 1 ≡ none

-- Bytes or words that are no term's.
abbrev pub junk : (count : ℕ) → List ℕ
junk n = replicate n 7

-- What an accepted encoding leaves: the length of the term, and the workspace.
abbrev pub holding : (len : ℕ) (workspace : List ℕ) → Brought
holding len workspace = record { answer = returned len; workspace = workspace }

pub record ImportExamples : Type 0 where
  -- the identity, 4 bits, and with bytes after it
  pub identity : import (32 ∷ []) 4 (junk 16) ≡ holding 2 (1 ∷ 0 ∷ replicate 14 0)
  pub zero_bytes_after : import (32 ∷ 0 ∷ 0 ∷ []) 4 (junk 16) ≡ holding 2 (1 ∷ 0 ∷ replicate 14 0)
  -- K, S, the identity applied to K; \\\0 that ends with its byte, and \\\1 that ends one bit later
  pub k : import (12 ∷ []) 7 (junk 16) ≡ holding 3 (1 ∷ 1 ∷ 8 ∷ replicate 13 0)
  pub s : import (1 ∷ 122 ∷ 116 ∷ []) 23 (junk 16) ≡ holding 10 (1 ∷ 1 ∷ 1 ∷ 2 ∷ 2 ∷ 16 ∷ 0 ∷ 2 ∷ 8 ∷ 0 ∷ replicate 6 0)
  pub identity_of_k : import (72 ∷ 48 ∷ []) 13 (junk 16) ≡ holding 6 (2 ∷ 1 ∷ 0 ∷ 1 ∷ 1 ∷ 8 ∷ replicate 10 0)
  pub whole_byte : import (2 ∷ []) 8 (junk 16) ≡ holding 4 (1 ∷ 1 ∷ 1 ∷ 0 ∷ replicate 12 0)
  pub one_bit_in_a_byte : import (3 ∷ 0 ∷ []) 9 (junk 16) ≡ holding 4 (1 ∷ 1 ∷ 1 ∷ 8 ∷ replicate 12 0)
  -- bits that end early, or are left over
  pub count_one_less : import (32 ∷ []) 3 (junk 16) ≡ record { answer = refused WrongBits; workspace = junk 16 }
  pub count_one_more : import (32 ∷ []) 5 (junk 16) ≡ unchanged (junk 16) WrongBits
  pub count_of_all_bits : import (32 ∷ []) 8 (junk 16) ≡ unchanged (junk 16) WrongBits
  pub no_bits : import (0 ∷ []) 0 (junk 16) ≡ unchanged (junk 16) WrongBits
  pub no_bits_of_no_bytes : import [] 0 (junk 16) ≡ unchanged (junk 16) WrongBits
  -- the identity with the lowest bit first
  pub lowest_bit_first : import (4 ∷ []) 4 (junk 16) ≡ unchanged (junk 16) WrongBits
  -- a 1 past the count: right behind it, in the last bit of its byte, in the first and the last bit of a later byte, with and without bytes of 0 after it
  pub padding_first_bit : import (40 ∷ []) 4 (junk 16) ≡ unchanged (junk 16) WrongBits
  pub padding_last_bit : import (33 ∷ []) 4 (junk 16) ≡ unchanged (junk 16) WrongBits
  pub padding_own_byte_of_two : import (33 ∷ 0 ∷ []) 4 (junk 16) ≡ unchanged (junk 16) WrongBits
  pub padding_next_byte : import (32 ∷ 128 ∷ []) 4 (junk 16) ≡ unchanged (junk 16) WrongBits
  pub padding_between : import (32 ∷ 128 ∷ 0 ∷ []) 4 (junk 16) ≡ unchanged (junk 16) WrongBits
  pub padding_last_byte : import (32 ∷ 0 ∷ 1 ∷ []) 4 (junk 16) ≡ unchanged (junk 16) WrongBits
  pub padding_far_behind : import (32 ∷ replicate 8 0 ++ 1 ∷ []) 4 (junk 16) ≡ unchanged (junk 16) WrongBits
  -- a count past the bytes, where the lent bits are a term, a term but for its last 0, zeros, and none
  pub count_past_a_term : import (2 ∷ []) 9 (junk 16) ≡ unchanged (junk 16) WrongBits
  pub count_past_a_missing_zero : import (3 ∷ []) 9 (junk 16) ≡ unchanged (junk 16) WrongBits
  pub count_past_zeros : import (0 ∷ []) 9 (junk 16) ≡ unchanged (junk 16) WrongBits
  pub count_past_no_bytes : import [] 1 (junk 16) ≡ unchanged (junk 16) WrongBits
  -- the lengths of a workspace
  pub words_15 : import (32 ∷ []) 4 (junk 15) ≡ unchanged (junk 15) WrongWorkspace
  pub words_2048 : import (32 ∷ []) 4 (junk 2048) ≡ holding 2 (1 ∷ 0 ∷ replicate 2046 0)
  pub words_2049 : import (32 ∷ []) 4 (junk 2049) ≡ unchanged (junk 2049) WrongWorkspace
  -- 15 and 16 abstractions around 0 are 16 and 17 words
  pub fills : import (0 ∷ 0 ∷ 0 ∷ 2 ∷ []) 32 (junk 16) ≡ holding 16 (replicate 15 1 ++ 0 ∷ [])
  pub one_too_long : import (0 ∷ 0 ∷ 0 ∷ 0 ∷ 128 ∷ []) 34 (junk 16) ≡ unchanged (junk 16) TooLong
  pub one_word_more : import (0 ∷ 0 ∷ 0 ∷ 0 ∷ 128 ∷ []) 34 (junk 17) ≡ holding 17 (replicate 16 1 ++ 0 ∷ [])
  -- the variable 0; \1; \\2 and \\\2; (\0) 0 and 0 (\0); the variables 303 and 32,768
  pub open_alone : import (128 ∷ []) 2 (junk 16) ≡ unchanged (junk 16) NoCombinator
  pub open_under_one : import (48 ∷ []) 5 (junk 16) ≡ unchanged (junk 16) NoCombinator
  pub open_under_two : import (14 ∷ []) 8 (junk 16) ≡ unchanged (junk 16) NoCombinator
  pub bound_under_three : import (3 ∷ 128 ∷ []) 10 (junk 16) ≡ holding 4 (1 ∷ 1 ∷ 1 ∷ 16 ∷ replicate 12 0)
  pub open_argument : import (74 ∷ []) 8 (junk 16) ≡ unchanged (junk 16) NoCombinator
  pub open_function : import (98 ∷ []) 8 (junk 16) ≡ unchanged (junk 16) NoCombinator
  pub open_by_many : import (replicate 38 255 ++ 0 ∷ []) 305 (junk 16) ≡ unchanged (junk 16) NoCombinator
  pub open_32768 : import (replicate 4096 255 ++ 128 ∷ []) 32770 (junk 16) ≡ unchanged (junk 16) NoCombinator
  -- runs of 63, 64 and 65 ones, under as many abstractions and, of 64, under one fewer
  pub ones_63 : import (replicate 15 0 ++ 3 ∷ replicate 7 255 ++ 248 ∷ []) 190 (junk 66) ≡ holding 64 (replicate 63 1 ++ 496 ∷ 0 ∷ 0 ∷ [])
  pub ones_64 : import (replicate 16 0 ++ replicate 8 255 ++ 0 ∷ []) 193 (junk 66) ≡ holding 65 (replicate 64 1 ++ 504 ∷ 0 ∷ [])
  pub ones_65 : import (replicate 16 0 ++ 63 ∷ replicate 7 255 ++ 224 ∷ []) 196 (junk 66) ≡ holding 66 (replicate 65 1 ++ 512 ∷ [])
  pub ones_64_open : import (replicate 15 0 ++ 3 ∷ replicate 7 255 ++ 252 ∷ []) 191 (junk 66) ≡ unchanged (junk 66) NoCombinator
  -- 2,047 abstractions around the largest index that they bind
  pub largest_bound : import (replicate 511 0 ++ 3 ∷ replicate 255 255 ++ 248 ∷ []) 6142 (junk 2048) ≡ holding 2048 (replicate 2047 1 ++ 16368 ∷ [])
  -- 7 before 12, 8 and 13
  pub words_15_no_bits : import [] 0 (junk 15) ≡ unchanged (junk 15) WrongWorkspace
  pub words_15_too_long : import (0 ∷ 0 ∷ 0 ∷ 0 ∷ 128 ∷ []) 34 (junk 15) ≡ unchanged (junk 15) WrongWorkspace
  pub words_15_open : import (128 ∷ []) 2 (junk 15) ≡ unchanged (junk 15) WrongWorkspace
  -- 12, by the padding, by the count and by the bits, before 8 and 13: 16 and 19 abstractions around 0, the variables 0 and 6, 32 abstractions
  pub padding_too_long : import (0 ∷ 0 ∷ 0 ∷ 0 ∷ 129 ∷ []) 34 (junk 16) ≡ unchanged (junk 16) WrongBits
  pub padding_open : import (129 ∷ []) 2 (junk 16) ≡ unchanged (junk 16) WrongBits
  pub count_past_too_long : import (0 ∷ 0 ∷ 0 ∷ 0 ∷ 2 ∷ []) 41 (junk 16) ≡ unchanged (junk 16) WrongBits
  pub count_past_open : import (254 ∷ []) 9 (junk 16) ≡ unchanged (junk 16) WrongBits
  pub early_too_long : import (replicate 8 0) 64 (junk 16) ≡ unchanged (junk 16) WrongBits
  pub left_over_too_long : import (0 ∷ 0 ∷ 0 ∷ 0 ∷ 128 ∷ []) 35 (junk 16) ≡ unchanged (junk 16) WrongBits
  pub left_over_open : import (128 ∷ []) 3 (junk 16) ≡ unchanged (junk 16) WrongBits
  -- 8 before 13: 16 abstractions around 16
  pub too_long_open : import (0 ∷ 0 ∷ 0 ∷ 0 ∷ 255 ∷ 255 ∷ 128 ∷ []) 50 (junk 16) ≡ unchanged (junk 16) TooLong

-- What an export that is not refused leaves: the bit count, and the bytes.
abbrev pub encoded : (count : ℕ) (bytes : List ℕ) → Exported
encoded count bytes = record { answer = returned count; bytes = bytes }

pub record ExportExamples : Type 0 where
  -- the identity; with bytes and words after it
  pub identity : export (1 ∷ 0 ∷ replicate 14 0) 2 (junk 1) ≡ encoded 4 (32 ∷ [])
  pub zero_bytes_after : export (1 ∷ 0 ∷ replicate 14 0) 2 (junk 3) ≡ encoded 4 (32 ∷ 0 ∷ 0 ∷ [])
  pub words_after : export (1 ∷ 0 ∷ junk 14) 2 (junk 1) ≡ encoded 4 (32 ∷ [])
  -- K, S, the identity applied to K
  pub k : export (1 ∷ 1 ∷ 8 ∷ junk 13) 3 (junk 1) ≡ encoded 7 (12 ∷ [])
  pub s : export (1 ∷ 1 ∷ 1 ∷ 2 ∷ 2 ∷ 16 ∷ 0 ∷ 2 ∷ 8 ∷ 0 ∷ junk 6) 10 (junk 3) ≡ encoded 23 (1 ∷ 122 ∷ 116 ∷ [])
  pub identity_of_k : export (2 ∷ 1 ∷ 0 ∷ 1 ∷ 1 ∷ 8 ∷ junk 10) 6 (junk 2) ≡ encoded 13 (72 ∷ 48 ∷ [])
  -- \\\0 is 8 bits, \\\1 is 9
  pub bits_8 : export (1 ∷ 1 ∷ 1 ∷ 0 ∷ junk 12) 4 (junk 1) ≡ encoded 8 (2 ∷ [])
  pub bits_8_no_bytes : export (1 ∷ 1 ∷ 1 ∷ 0 ∷ junk 12) 4 [] ≡ bytes_kept [] TooLong
  pub bits_8_two_bytes : export (1 ∷ 1 ∷ 1 ∷ 0 ∷ junk 12) 4 (junk 2) ≡ encoded 8 (2 ∷ 0 ∷ [])
  pub bits_9 : export (1 ∷ 1 ∷ 1 ∷ 8 ∷ junk 12) 4 (junk 2) ≡ encoded 9 (3 ∷ 0 ∷ [])
  pub bits_9_one_byte : export (1 ∷ 1 ∷ 1 ∷ 8 ∷ junk 12) 4 (junk 1) ≡ record { answer = refused TooLong; bytes = junk 1 }
  pub no_bytes : export (1 ∷ 0 ∷ junk 14) 2 [] ≡ bytes_kept [] TooLong
  -- runs of 64 and 65 ones
  pub ones_64 : export (replicate 64 1 ++ 504 ∷ []) 65 (junk 25) ≡ encoded 193 (replicate 16 0 ++ replicate 8 255 ++ 0 ∷ [])
  pub ones_65 : export (replicate 65 1 ++ 512 ∷ []) 66 (junk 25) ≡ encoded 196 (replicate 16 0 ++ 63 ∷ replicate 7 255 ++ 224 ∷ [])
  -- 2,047 abstractions around the largest index that they bind, in 768 bytes and one fewer
  pub largest_bound : export (replicate 2047 1 ++ 16368 ∷ []) 2048 (junk 768) ≡ encoded 6142 (replicate 511 0 ++ 3 ∷ replicate 255 255 ++ 248 ∷ [])
  pub largest_bound_one_byte_less : export (replicate 2047 1 ++ 16368 ∷ []) 2048 (junk 767) ≡ bytes_kept (junk 767) TooLong
  -- the lengths of a workspace
  pub words_15 : export (1 ∷ 0 ∷ junk 13) 2 (junk 1) ≡ bytes_kept (junk 1) WrongWorkspace
  pub words_2048 : export (1 ∷ 0 ∷ junk 2046) 2 (junk 1) ≡ encoded 4 (32 ∷ [])
  pub words_2049 : export (1 ∷ 0 ∷ junk 2047) 2 (junk 1) ≡ bytes_kept (junk 1) WrongWorkspace
  -- lengths of the identity, and of 15 abstractions around 0, that fill the workspace
  pub length_0 : export (1 ∷ 0 ∷ junk 14) 0 (junk 1) ≡ bytes_kept (junk 1) NoTerm
  pub length_one_less : export (1 ∷ 0 ∷ junk 14) 1 (junk 1) ≡ bytes_kept (junk 1) NoTerm
  pub length_one_more : export (1 ∷ 0 ∷ replicate 14 0) 3 (junk 1) ≡ bytes_kept (junk 1) NoTerm
  pub length_C : export (replicate 15 1 ++ 0 ∷ []) 16 (junk 4) ≡ encoded 32 (0 ∷ 0 ∷ 0 ∷ 2 ∷ [])
  pub length_past_C : export (replicate 15 1 ++ 0 ∷ []) 17 (junk 4) ≡ bytes_kept (junk 4) NoTerm
  -- a constructor, a case and a numeral; each under an abstraction, as a function and as an argument
  pub constructor_alone : export (131 ∷ junk 15) 1 (junk 4) ≡ bytes_kept (junk 4) NoCombinator
  pub constructor_of_identity : export (139 ∷ 1 ∷ 0 ∷ junk 13) 3 (junk 4) ≡ bytes_kept (junk 4) NoCombinator
  pub constructor_inside : export (1 ∷ 131 ∷ junk 14) 2 (junk 4) ≡ bytes_kept (junk 4) NoCombinator
  pub constructor_applied : export (2 ∷ 131 ∷ 1 ∷ 0 ∷ junk 12) 4 (junk 4) ≡ bytes_kept (junk 4) NoCombinator
  pub constructor_as_argument : export (2 ∷ 1 ∷ 0 ∷ 131 ∷ junk 12) 4 (junk 4) ≡ bytes_kept (junk 4) NoCombinator
  pub case_alone : export (4 ∷ 1 ∷ 0 ∷ junk 13) 3 (junk 4) ≡ bytes_kept (junk 4) NoCombinator
  pub case_with_a_branch : export (12 ∷ 1 ∷ 0 ∷ 133 ∷ 1 ∷ 0 ∷ junk 10) 6 (junk 4) ≡ bytes_kept (junk 4) NoCombinator
  pub case_inside : export (1 ∷ 4 ∷ 0 ∷ junk 13) 3 (junk 4) ≡ bytes_kept (junk 4) NoCombinator
  pub case_applied : export (2 ∷ 4 ∷ 1 ∷ 0 ∷ 1 ∷ 0 ∷ junk 10) 6 (junk 4) ≡ bytes_kept (junk 4) NoCombinator
  pub case_as_argument : export (2 ∷ 1 ∷ 0 ∷ 4 ∷ 1 ∷ 0 ∷ junk 10) 6 (junk 4) ≡ bytes_kept (junk 4) NoCombinator
  pub numeral_alone : export (6 ∷ junk 15) 1 (junk 4) ≡ bytes_kept (junk 4) NoCombinator
  pub numeral_inside : export (1 ∷ 14 ∷ junk 14) 2 (junk 4) ≡ bytes_kept (junk 4) NoCombinator
  pub numeral_applied : export (2 ∷ 14 ∷ 1 ∷ 0 ∷ junk 12) 4 (junk 4) ≡ bytes_kept (junk 4) NoCombinator
  pub numeral_as_argument : export (2 ∷ 1 ∷ 0 ∷ 254 ∷ junk 12) 4 (junk 4) ≡ bytes_kept (junk 4) NoCombinator
  -- free variables, and as many binders as bind one
  pub open_alone : export (0 ∷ junk 15) 1 (junk 4) ≡ bytes_kept (junk 4) NoCombinator
  pub open_by_255 : export (2040 ∷ junk 15) 1 (junk 64) ≡ bytes_kept (junk 64) NoCombinator
  pub open_under_one : export (1 ∷ 8 ∷ junk 14) 2 (junk 4) ≡ bytes_kept (junk 4) NoCombinator
  pub open_under_two : export (1 ∷ 1 ∷ 16 ∷ junk 13) 3 (junk 4) ≡ bytes_kept (junk 4) NoCombinator
  pub bound_under_three : export (1 ∷ 1 ∷ 1 ∷ 16 ∷ junk 12) 4 (junk 2) ≡ encoded 10 (3 ∷ 128 ∷ [])
  pub open_argument : export (2 ∷ 1 ∷ 0 ∷ 0 ∷ junk 12) 4 (junk 4) ≡ bytes_kept (junk 4) NoCombinator
  pub open_function : export (2 ∷ 0 ∷ 1 ∷ 0 ∷ junk 12) 4 (junk 4) ≡ bytes_kept (junk 4) NoCombinator
  -- 7 before 10, 13 and 8
  pub words_15_length_0 : export (1 ∷ 0 ∷ junk 13) 0 (junk 1) ≡ bytes_kept (junk 1) WrongWorkspace
  pub words_15_open : export (0 ∷ junk 14) 1 (junk 1) ≡ bytes_kept (junk 1) WrongWorkspace
  pub words_15_no_bytes : export (1 ∷ 0 ∷ junk 13) 2 [] ≡ bytes_kept [] WrongWorkspace
  -- 10 before 13 (the variable of free number 256, the numeral 32) and before 8
  pub free_256 : export (2048 ∷ junk 15) 1 (junk 64) ≡ bytes_kept (junk 64) NoTerm
  pub numeral_32 : export (262 ∷ junk 15) 1 (junk 4) ≡ bytes_kept (junk 4) NoTerm
  pub length_0_no_bytes : export (1 ∷ 0 ∷ junk 14) 0 [] ≡ bytes_kept [] NoTerm
  -- 13 before 8
  pub open_no_bytes : export (0 ∷ junk 15) 1 [] ≡ bytes_kept [] NoCombinator
  pub constructor_no_bytes : export (2 ∷ 1 ∷ 0 ∷ 131 ∷ junk 12) 4 [] ≡ bytes_kept [] NoCombinator
