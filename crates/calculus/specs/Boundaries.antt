-- The edges of the rounds, of the position that is shown, of the word rules, of the case rule and of closed terms, each with the neighbour that just
-- passes, and the order of arguments: what the starred bench pairs do not touch.
use Rattle.std.specs.Prelude.{◌≡◌, ℕ, List, [], ◌∷◌, ◌++◌}
use Rattle.std.proofs.Math.Option.{some, none, map}
use Rattle.calculus.specs.Term.{var, lam, con, nil, cons, end, branch}
use Rattle.calculus.specs.Words.{words}
use Rattle.calculus.specs.Read.{read}
use Rattle.calculus.specs.Contraction.{select}
use Rattle.calculus.specs.Comparison.{equal, differ, compare_words}
use Rattle.calculus.specs.Rounds.{Same, Different, Budget, Full}
use Rattle.calculus.specs.Theorems.{Closed}
use Rattle.calculus.specs.Bench.{contracted, judged, shown, loop}

-- W W ("Bench pairs"): 13 words, whose contractum has 20.
abbrev pub ww : List ℕ
ww = 2 ∷ 1 ∷ 2 ∷ 2 ∷ 0 ∷ 0 ∷ 0 ∷ 1 ∷ 2 ∷ 2 ∷ 0 ∷ 0 ∷ 0 ∷ []

pub record Boundaries : Type 0 where
  pub both_move_within_budget : judged (2 ∷ 1 ∷ 0 ∷ 0 ∷ []) (2 ∷ 1 ∷ 0 ∷ 8 ∷ []) 16 2 ≡ some (shown Different 2 1 1 0)
  pub both_move_one_short : judged (2 ∷ 1 ∷ 0 ∷ 0 ∷ []) (2 ∷ 1 ∷ 0 ∷ 8 ∷ []) 16 1 ≡ some (shown Budget 0 4 4 0)
  pub right_alone_moves : judged (8 ∷ []) (2 ∷ 1 ∷ 0 ∷ 0 ∷ []) 16 1 ≡ some (shown Different 1 1 1 0)
  pub budget_before_full : judged ww (0 ∷ []) 16 0 ≡ some (shown Budget 0 13 1 0)
  pub full : judged ww (0 ∷ []) 16 1 ≡ some (shown Full 0 13 1 0)
  pub next_term_of_C_words : judged ww (0 ∷ []) 20 1 ≡ some (shown Budget 1 20 1 0)
  pub left_too_long : judged ww (2 ∷ 1 ∷ 0 ∷ 0 ∷ []) 16 2 ≡ some (shown Full 0 13 4 0)
  pub right_too_long : judged (2 ∷ 1 ∷ 0 ∷ 0 ∷ []) ww 16 2 ≡ some (shown Full 0 4 13 0)
  pub right_too_long_one_short : judged (2 ∷ 1 ∷ 0 ∷ 0 ∷ []) ww 16 1 ≡ some (shown Budget 0 4 13 0)
  pub right_alone_too_long : judged (0 ∷ []) ww 16 1 ≡ some (shown Full 0 1 13 0)
  pub differ_at_the_last_word_of_the_shorter : judged (2 ∷ 0 ∷ 8 ∷ []) (2 ∷ 0 ∷ 2 ∷ 8 ∷ 8 ∷ []) 16 0 ≡ some (shown Different 0 3 5 2)
  pub differ_before_a_second_difference : judged (2 ∷ 0 ∷ 8 ∷ []) (2 ∷ 8 ∷ 0 ∷ []) 16 0 ≡ some (shown Different 0 3 3 1)
  pub position_of_the_current_terms : judged (2 ∷ 1 ∷ 2 ∷ 0 ∷ 16 ∷ 0 ∷ []) (2 ∷ 0 ∷ 16 ∷ []) 16 1 ≡ some (shown Different 1 3 3 2)
  pub no_position_with_same : judged (2 ∷ 0 ∷ 8 ∷ []) (2 ∷ 0 ∷ 8 ∷ []) 16 0 ≡ some (shown Same 0 3 3 0)
  pub no_position_with_budget : judged (2 ∷ 0 ∷ 2 ∷ 1 ∷ 0 ∷ 0 ∷ []) (2 ∷ 0 ∷ 8 ∷ []) 16 0 ≡ some (shown Budget 0 6 3 0)
  pub no_position_with_full : judged (2 ∷ 0 ∷ ww) (2 ∷ 0 ∷ 8 ∷ []) 16 1 ≡ some (shown Full 0 15 3 0)
  pub no_words_compared : compare_words [] [] ≡ equal
  pub equal_words_compared : compare_words (0 ∷ 8 ∷ []) (0 ∷ 8 ∷ []) ≡ equal
  pub left_is_the_start : compare_words (0 ∷ []) (0 ∷ 8 ∷ []) ≡ differ 1
  pub right_is_the_start : compare_words (0 ∷ 8 ∷ []) (0 ∷ []) ≡ differ 1
  pub free_255 : map words (read (2040 ∷ [])) ≡ some (2040 ∷ [])
  pub free_256 : read (2048 ∷ []) ≡ none
  pub tag_1 : map words (read (131 ∷ [])) ≡ some (131 ∷ [])
  pub tag_0 : read (3 ∷ []) ≡ none
  pub tag_255 : map words (read (32643 ∷ [])) ≡ some (32643 ∷ [])
  pub tag_256 : read (32771 ∷ []) ≡ none
  pub branch_tag_255 : map words (read (12 ∷ 0 ∷ 32645 ∷ 0 ∷ [])) ≡ some (12 ∷ 0 ∷ 32645 ∷ 0 ∷ [])
  pub branch_tag_256 : read (12 ∷ 0 ∷ 32773 ∷ 0 ∷ []) ≡ none
  pub arguments_15 : map words (read (251 ∷ 0 ∷ 0 ∷ 0 ∷ 0 ∷ 0 ∷ 0 ∷ 0 ∷ 0 ∷ 0 ∷ 0 ∷ 0 ∷ 0 ∷ 0 ∷ 0 ∷ 0 ∷ [])) ≡ some (251 ∷ 0 ∷ 0 ∷ 0 ∷ 0 ∷ 0 ∷ 0 ∷ 0 ∷ 0 ∷ 0 ∷ 0 ∷ 0 ∷ 0 ∷ 0 ∷ 0 ∷ 0 ∷ [])
  pub bound_15 : map words (read (12 ∷ 0 ∷ 253 ∷ 2160 ∷ [])) ≡ some (12 ∷ 0 ∷ 253 ∷ 2160 ∷ [])
  pub bound_15_free_256 : read (12 ∷ 0 ∷ 253 ∷ 2168 ∷ []) ≡ none
  pub branches_15 : map words (read (124 ∷ 0 ∷ 133 ∷ 0 ∷ 261 ∷ 0 ∷ 389 ∷ 0 ∷ 517 ∷ 0 ∷ 645 ∷ 0 ∷ 773 ∷ 0 ∷ 901 ∷ 0 ∷ 1029 ∷ 0 ∷ 1157 ∷ 0 ∷ 1285 ∷ 0 ∷ 1413 ∷ 0 ∷ 1541 ∷ 0 ∷ 1669 ∷ 0 ∷ 1797 ∷ 0 ∷ 1925 ∷ 0 ∷ [])) ≡ some (124 ∷ 0 ∷ 133 ∷ 0 ∷ 261 ∷ 0 ∷ 389 ∷ 0 ∷ 517 ∷ 0 ∷ 645 ∷ 0 ∷ 773 ∷ 0 ∷ 901 ∷ 0 ∷ 1029 ∷ 0 ∷ 1157 ∷ 0 ∷ 1285 ∷ 0 ∷ 1413 ∷ 0 ∷ 1541 ∷ 0 ∷ 1669 ∷ 0 ∷ 1797 ∷ 0 ∷ 1925 ∷ 0 ∷ [])
  pub branches_16 : read (132 ∷ 0 ∷ 133 ∷ 0 ∷ 261 ∷ 0 ∷ 389 ∷ 0 ∷ 517 ∷ 0 ∷ 645 ∷ 0 ∷ 773 ∷ 0 ∷ 901 ∷ 0 ∷ 1029 ∷ 0 ∷ 1157 ∷ 0 ∷ 1285 ∷ 0 ∷ 1413 ∷ 0 ∷ 1541 ∷ 0 ∷ 1669 ∷ 0 ∷ 1797 ∷ 0 ∷ 1925 ∷ 0 ∷ 2053 ∷ 0 ∷ []) ≡ none
  pub default_read : map words (read (12 ∷ 0 ∷ 5 ∷ 0 ∷ [])) ≡ some (12 ∷ 0 ∷ 5 ∷ 0 ∷ [])
  pub branch_tag_0_bound_1 : read (12 ∷ 0 ∷ 13 ∷ 0 ∷ []) ≡ none
  pub branch_tag_0_bound_15 : read (12 ∷ 0 ∷ 125 ∷ 0 ∷ []) ≡ none
  pub tag_0_with_an_argument : read (11 ∷ 0 ∷ []) ≡ none
  pub tag_0_with_15_arguments : read (123 ∷ 0 ∷ 0 ∷ 0 ∷ 0 ∷ 0 ∷ 0 ∷ 0 ∷ 0 ∷ 0 ∷ 0 ∷ 0 ∷ 0 ∷ 0 ∷ 0 ∷ 0 ∷ []) ≡ none
  pub tag_0_before_a_default : read (12 ∷ 3 ∷ 5 ∷ 0 ∷ []) ≡ none
  pub default_first : map words (read (20 ∷ 0 ∷ 5 ∷ 0 ∷ 133 ∷ 0 ∷ [])) ≡ some (20 ∷ 0 ∷ 5 ∷ 0 ∷ 133 ∷ 0 ∷ [])
  pub default_second : read (20 ∷ 0 ∷ 133 ∷ 0 ∷ 5 ∷ 0 ∷ []) ≡ none
  pub two_defaults : read (20 ∷ 0 ∷ 5 ∷ 0 ∷ 5 ∷ 0 ∷ []) ≡ none
  pub default_and_14 : map words (read (124 ∷ 0 ∷ 5 ∷ 0 ∷ 133 ∷ 0 ∷ 261 ∷ 0 ∷ 389 ∷ 0 ∷ 517 ∷ 0 ∷ 645 ∷ 0 ∷ 773 ∷ 0 ∷ 901 ∷ 0 ∷ 1029 ∷ 0 ∷ 1157 ∷ 0 ∷ 1285 ∷ 0 ∷ 1413 ∷ 0 ∷ 1541 ∷ 0 ∷ 1669 ∷ 0 ∷ 1797 ∷ 0 ∷ [])) ≡ some (124 ∷ 0 ∷ 5 ∷ 0 ∷ 133 ∷ 0 ∷ 261 ∷ 0 ∷ 389 ∷ 0 ∷ 517 ∷ 0 ∷ 645 ∷ 0 ∷ 773 ∷ 0 ∷ 901 ∷ 0 ∷ 1029 ∷ 0 ∷ 1157 ∷ 0 ∷ 1285 ∷ 0 ∷ 1413 ∷ 0 ∷ 1541 ∷ 0 ∷ 1669 ∷ 0 ∷ 1797 ∷ 0 ∷ [])
  pub default_and_15 : read (132 ∷ 0 ∷ 5 ∷ 0 ∷ 133 ∷ 0 ∷ 261 ∷ 0 ∷ 389 ∷ 0 ∷ 517 ∷ 0 ∷ 645 ∷ 0 ∷ 773 ∷ 0 ∷ 901 ∷ 0 ∷ 1029 ∷ 0 ∷ 1157 ∷ 0 ∷ 1285 ∷ 0 ∷ 1413 ∷ 0 ∷ 1541 ∷ 0 ∷ 1669 ∷ 0 ∷ 1797 ∷ 0 ∷ 1925 ∷ 0 ∷ []) ≡ none
  pub default_free_255 : map words (read (12 ∷ 0 ∷ 5 ∷ 2040 ∷ [])) ≡ some (12 ∷ 0 ∷ 5 ∷ 2040 ∷ [])
  pub default_free_256 : read (12 ∷ 0 ∷ 5 ∷ 2048 ∷ []) ≡ none
  pub tags_equal : read (20 ∷ 0 ∷ 133 ∷ 0 ∷ 133 ∷ 0 ∷ []) ≡ none
  pub tags_rising : map words (read (28 ∷ 0 ∷ 133 ∷ 0 ∷ 261 ∷ 0 ∷ 389 ∷ 0 ∷ [])) ≡ some (28 ∷ 0 ∷ 133 ∷ 0 ∷ 261 ∷ 0 ∷ 389 ∷ 0 ∷ [])
  pub tags_fall_after_rise : read (28 ∷ 0 ∷ 133 ∷ 0 ∷ 389 ∷ 0 ∷ 261 ∷ 0 ∷ []) ≡ none
  pub abstraction_free_255 : map words (read (1 ∷ 2048 ∷ [])) ≡ some (1 ∷ 2048 ∷ [])
  pub abstraction_free_256 : read (1 ∷ 2056 ∷ []) ≡ none
  pub branch_in_abstraction_free_255 : map words (read (1 ∷ 12 ∷ 0 ∷ 141 ∷ 2056 ∷ [])) ≡ some (1 ∷ 12 ∷ 0 ∷ 141 ∷ 2056 ∷ [])
  pub branch_in_abstraction_free_256 : read (1 ∷ 12 ∷ 0 ∷ 141 ∷ 2064 ∷ []) ≡ none
  pub tag_selects : contracted (20 ∷ 259 ∷ 133 ∷ 0 ∷ 261 ∷ 8 ∷ []) ≡ some (some (8 ∷ []))
  pub tag_missing : contracted (12 ∷ 259 ∷ 133 ∷ 0 ∷ []) ≡ some none
  pub case_argument_raised : contracted (12 ∷ 139 ∷ 0 ∷ 141 ∷ 1 ∷ 8 ∷ []) ≡ some (some (1 ∷ 8 ∷ []))
  pub case_index_lowered : contracted (12 ∷ 147 ∷ 0 ∷ 8 ∷ 149 ∷ 32 ∷ []) ≡ some (some (16 ∷ []))
  pub arguments_3_in_order : words (con 1 (cons (var 5) (cons (var 6) (cons (var 7) nil)))) ≡ 155 ∷ 40 ∷ 48 ∷ 56 ∷ []
  pub case_arguments_3 : contracted (12 ∷ 155 ∷ 40 ∷ 48 ∷ 56 ∷ 157 ∷ 291 ∷ 0 ∷ 8 ∷ 16 ∷ 24 ∷ []) ≡ some (some (291 ∷ 56 ∷ 48 ∷ 40 ∷ 0 ∷ []))
  pub arguments_15_in_order : words (con 1 (cons (var 1) (cons (var 2) (cons (var 3) (cons (var 4) (cons (var 5) (cons (var 6) (cons (var 7) (cons (var 8) (cons (var 9) (cons (var 10) (cons (var 11) (cons (var 12) (cons (var 13) (cons (var 14) (cons (var 15) nil)))))))))))))))) ≡ 251 ∷ 8 ∷ 16 ∷ 24 ∷ 32 ∷ 40 ∷ 48 ∷ 56 ∷ 64 ∷ 72 ∷ 80 ∷ 88 ∷ 96 ∷ 104 ∷ 112 ∷ 120 ∷ []
  pub case_arguments_15 : contracted (12 ∷ 251 ∷ 8 ∷ 16 ∷ 24 ∷ 32 ∷ 40 ∷ 48 ∷ 56 ∷ 64 ∷ 72 ∷ 80 ∷ 88 ∷ 96 ∷ 104 ∷ 112 ∷ 120 ∷ 253 ∷ 379 ∷ 0 ∷ 8 ∷ 16 ∷ 24 ∷ 32 ∷ 40 ∷ 48 ∷ 56 ∷ 64 ∷ 72 ∷ 80 ∷ 88 ∷ 96 ∷ 104 ∷ 112 ∷ []) ≡ some (some (379 ∷ 120 ∷ 112 ∷ 104 ∷ 96 ∷ 88 ∷ 80 ∷ 72 ∷ 64 ∷ 56 ∷ 48 ∷ 40 ∷ 32 ∷ 24 ∷ 16 ∷ 8 ∷ []))
  pub constructor_applied : contracted (2 ∷ 131 ∷ 0 ∷ []) ≡ some none
  pub redex_in_later_argument : contracted (147 ∷ 8 ∷ 2 ∷ 1 ∷ 0 ∷ 0 ∷ []) ≡ some (some (147 ∷ 8 ∷ 0 ∷ []))
  pub redex_in_subject : contracted (12 ∷ 2 ∷ 1 ∷ 0 ∷ 0 ∷ 133 ∷ 8 ∷ []) ≡ some (some (12 ∷ 0 ∷ 133 ∷ 8 ∷ []))
  pub redex_in_later_branch : contracted (20 ∷ 0 ∷ 133 ∷ 8 ∷ 261 ∷ 2 ∷ 1 ∷ 0 ∷ 0 ∷ []) ≡ some (some (20 ∷ 0 ∷ 133 ∷ 8 ∷ 261 ∷ 0 ∷ []))
  pub default_taken : contracted (12 ∷ 131 ∷ 5 ∷ 0 ∷ []) ≡ some (some (0 ∷ []))
  pub default_for_another_tag : contracted (20 ∷ 259 ∷ 5 ∷ 0 ∷ 133 ∷ 8 ∷ []) ≡ some (some (0 ∷ []))
  pub default_for_a_lower_tag : contracted (20 ∷ 131 ∷ 5 ∷ 0 ∷ 261 ∷ 8 ∷ []) ≡ some (some (0 ∷ []))
  pub listed_tag_beside_a_default : contracted (20 ∷ 131 ∷ 5 ∷ 0 ∷ 133 ∷ 8 ∷ []) ≡ some (some (8 ∷ []))
  pub fewer_arguments_beside_a_default : contracted (20 ∷ 131 ∷ 5 ∷ 0 ∷ 141 ∷ 8 ∷ []) ≡ some none
  pub more_arguments_beside_a_default : contracted (20 ∷ 139 ∷ 0 ∷ 5 ∷ 0 ∷ 133 ∷ 8 ∷ []) ≡ some none
  pub default_drops_arguments : contracted (12 ∷ 147 ∷ 8 ∷ 16 ∷ 5 ∷ 24 ∷ []) ≡ some (some (24 ∷ []))
  pub default_lowers_nothing : contracted (1 ∷ 12 ∷ 139 ∷ 0 ∷ 5 ∷ 8 ∷ []) ≡ some (some (1 ∷ 8 ∷ []))
  pub default_before_an_endless_argument : contracted (12 ∷ 139 ∷ (loop ++ (5 ∷ 0 ∷ []))) ≡ some (some (0 ∷ []))
  pub no_default_for_a_variable : contracted (12 ∷ 8 ∷ 5 ∷ 0 ∷ []) ≡ some none
  pub no_default_for_an_abstraction : contracted (12 ∷ 1 ∷ 0 ∷ 5 ∷ 0 ∷ []) ≡ some none
  pub no_default_for_an_application : contracted (12 ∷ 2 ∷ 131 ∷ 0 ∷ 5 ∷ 0 ∷ []) ≡ some none
  pub no_default_for_a_case : contracted (12 ∷ 4 ∷ 131 ∷ 5 ∷ 0 ∷ []) ≡ some none
  pub no_default_for_a_numeral : contracted (12 ∷ 6 ∷ 5 ∷ 0 ∷ []) ≡ some (some (12 ∷ 1 ∷ 1 ∷ 0 ∷ 5 ∷ 0 ∷ []))
  pub redex_in_default_first : contracted (20 ∷ 0 ∷ 5 ∷ 2 ∷ 1 ∷ 0 ∷ 8 ∷ 133 ∷ 2 ∷ 1 ∷ 0 ∷ 16 ∷ []) ≡ some (some (20 ∷ 0 ∷ 5 ∷ 8 ∷ 133 ∷ 2 ∷ 1 ∷ 0 ∷ 16 ∷ []))
  pub argument_put_into_a_default : contracted (2 ∷ 1 ∷ 12 ∷ 8 ∷ 5 ∷ 0 ∷ 40 ∷ []) ≡ some (some (12 ∷ 0 ∷ 5 ∷ 40 ∷ []))
  pub default_against_its_body : judged (12 ∷ 139 ∷ 0 ∷ 5 ∷ 8 ∷ []) (8 ∷ []) 16 1 ≡ some (shown Same 1 1 1 0)
  pub stuck_beside_a_default : judged (20 ∷ 139 ∷ 0 ∷ 5 ∷ 8 ∷ 133 ∷ 0 ∷ []) (8 ∷ []) 16 1 ≡ some (shown Different 0 7 1 0)
  -- Branches that no workspace holds.
  pub default_in_second_place : select 2 nil (branch 1 0 (var 0) (branch 0 0 (var 1) end)) ≡ some (var 1)
  pub listed_before_a_later_default : select 1 nil (branch 1 0 (var 0) (branch 0 0 (var 1) end)) ≡ some (var 0)
  pub first_of_two_defaults : select 1 nil (branch 0 0 (var 0) (branch 0 0 (var 1) end)) ≡ some (var 0)
  pub first_of_equal_tags : select 1 nil (branch 1 0 (var 0) (branch 1 0 (var 1) end)) ≡ some (var 0)
  pub first_of_equal_tags_is_stuck : select 1 nil (branch 0 0 (var 2) (branch 1 1 (var 0) (branch 1 0 (var 1) end))) ≡ none
  pub tag_0_that_binds : select 0 (cons (var 3) nil) (branch 0 0 (var 1) (branch 0 1 (var 0) end)) ≡ some (var 3)
  pub tag_0_that_binds_is_no_default : select 1 nil (branch 0 1 (var 0) end) ≡ none
  pub tag_0_takes_the_default : select 0 (cons (var 3) nil) (branch 0 0 (var 1) end) ≡ some (var 1)
  -- Numerals.
  pub numeral_0 : contracted (6 ∷ []) ≡ some (some (1 ∷ 1 ∷ 0 ∷ []))
  pub numeral_2 : contracted (22 ∷ []) ≡ some (some (1 ∷ 1 ∷ 2 ∷ 8 ∷ 2 ∷ 8 ∷ 0 ∷ []))
  pub numeral_31 : map words (read (254 ∷ [])) ≡ some (254 ∷ [])
  pub numeral_32 : read (262 ∷ []) ≡ none
  pub no_kind_7 : read (7 ∷ []) ≡ none
  pub numeral_applied : contracted (2 ∷ 14 ∷ 0 ∷ []) ≡ some (some (2 ∷ 1 ∷ 1 ∷ 2 ∷ 8 ∷ 0 ∷ 0 ∷ []))
  pub numeral_as_subject : contracted (12 ∷ 6 ∷ 133 ∷ 0 ∷ []) ≡ some (some (12 ∷ 1 ∷ 1 ∷ 0 ∷ 133 ∷ 0 ∷ []))
  pub numeral_in_later_branch : contracted (20 ∷ 0 ∷ 133 ∷ 8 ∷ 261 ∷ 6 ∷ []) ≡ some (some (20 ∷ 0 ∷ 133 ∷ 8 ∷ 261 ∷ 1 ∷ 1 ∷ 0 ∷ []))
  pub numeral_thrown_away : contracted (2 ∷ 1 ∷ 8 ∷ 14 ∷ []) ≡ some (some (0 ∷ []))
  pub numeral_behind_a_redex : contracted (2 ∷ 1 ∷ 14 ∷ 0 ∷ []) ≡ some (some (14 ∷ []))
  pub numeral_under_a_binder : contracted (2 ∷ 1 ∷ 1 ∷ 14 ∷ 0 ∷ []) ≡ some (some (1 ∷ 14 ∷ []))
  pub numeral_put_under_a_binder : contracted (2 ∷ 1 ∷ 1 ∷ 8 ∷ 14 ∷ []) ≡ some (some (1 ∷ 14 ∷ []))
  pub numeral_against_its_term : judged (14 ∷ []) (1 ∷ 1 ∷ 2 ∷ 8 ∷ 0 ∷ []) 16 1 ≡ some (shown Same 1 5 5 0)
  pub numeral_against_itself : judged (14 ∷ []) (14 ∷ []) 16 0 ≡ some (shown Same 0 1 1 0)
  pub numeral_is_not_normal : judged (14 ∷ []) (6 ∷ []) 16 0 ≡ some (shown Budget 0 1 1 0)
  pub numeral_of_C_words : judged (1 ∷ 54 ∷ []) (0 ∷ []) 16 1 ≡ some (shown Different 1 16 1 0)
  pub numeral_too_long : judged (62 ∷ []) (0 ∷ []) 16 1 ≡ some (shown Full 0 1 1 0)
  pub closed_under_two : Closed (lam (lam (var 1)))
  pub open_under_two : Closed (lam (lam (var 2))) → ⊥
