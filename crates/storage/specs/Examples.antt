-- Loading and writing tried on small tables. The identity's table is that of "Bench pairs"; the others are made by hand from the rules of the stored table.
use Rattle.std.specs.Prelude.{ℕ, zero, suc, ◌≡◌, true, false, List, [], ◌∷◌, ◌++◌, map, replicate}
use Rattle.std.proofs.Math.Option.{none}
use Rattle.calculus.specs.Words.{constructor_kind, case_kind}
use Rattle.calculus.specs.Refusal.{number}
use Rattle.calculus.specs.Bringing.{Result, refused, returned, Brought}
use Rattle.storage.specs.Records.{Stored, view, in_form1}
use Rattle.storage.specs.Values.{numberFits}
use Rattle.storage.specs.Meaning.{meaning}
use Rattle.storage.specs.Load.{checks, load}
use Rattle.storage.specs.PrefixOrder.{InPrefixOrder}
use Rattle.storage.specs.Write.{write}

-- A table is written by its records, the header first.
abbrev pub Four : Type 0
Four = ℕ × ℕ × ℕ × ℕ

abbrev pub table : List Four → List ℕ
table [] = []
table (r ∷ rs) = r.0 ∷ r.1 ∷ r.2 ∷ r.3 ∷ table rs

-- A workspace of 16 words, each 9; loading into it; a term of these words loaded into it.
abbrev pub fresh : List ℕ
fresh = replicate 16 9

abbrev pub loading : List Four → Brought
loading rs = load (table rs) fresh

abbrev pub holding : (len zeros : ℕ) → List ℕ → Brought
holding len zeros ws = record { answer = returned len; workspace = ws ++ replicate zeros 0 }

-- A refusal by its number, which leaves what was lent as it was.
abbrev pub Refuses : ℕ → (answer : Result) (before after : List ℕ) → Type 0
Refuses k (refused why) before after = (number why ≡ k) × (after ≡ before)
Refuses k (returned l) before after = ⊥

abbrev pub Refusing : ℕ → (table workspace : List ℕ) → Type 0
Refusing k ws workspace = Refuses k (load ws workspace).answer workspace (load ws workspace).workspace

abbrev pub Unwritten : ℕ → (workspace : List ℕ) (len : ℕ) (table : List ℕ) → Type 0
Unwritten k workspace len ws = Refuses k (write workspace len ws).answer ws (write workspace len ws).table

abbrev pub Meaningless : List Four → Type 0
Meaningless rs = meaning (view (in_form1 (table rs))) ≡ none

abbrev pub identity : List Four
identity = (1, 2, 1, 0) ∷ (1, 0, 2, 0) ∷ (0, 0, 0, 0) ∷ []

-- The identity applied to the variable 3, with the argument's record before the body's.
abbrev pub applied : List Four
applied = (1, 4, 1, 0) ∷ (2, 0, 2, 0) ∷ (1, 0, 4, 3) ∷ (0, 3, 0, 0) ∷ (0, 0, 0, 0) ∷ []

-- The case 20,139,40,133,0,269,0 in prefix order: the constructor of tag 1 with the argument 5, against a branch of tag 1 that binds none and
-- one of tag 2 that binds one.
abbrev pub inspecting : List Four
inspecting =
    (1, 7, 1, 0)
    ∷ (4, 0, 2, 0)
    ∷ (3, 1, 3, 4)
    ∷ (0, 5, 0, 0)
    ∷ (5, 16, 5, 6)
    ∷ (0, 0, 0, 0)
    ∷ (5, 33, 7, 0)
    ∷ (0, 0, 0, 0)
    ∷ []

-- The numeral 2 applied to the variable 3 and to the numeral 31: 2,2,22,24,254.
abbrev pub numerals : List Four
numerals = (1, 5, 1, 0) ∷ (2, 0, 2, 0) ∷ (2, 0, 3, 5) ∷ (6, 2, 0, 4) ∷ (0, 3, 0, 0) ∷ (6, 31, 0, 0) ∷ []

-- The records of so many abstractions around the variable 0, the first of them at index i.
abbrev pub abstractions : (i number : ℕ) → List Four
abstractions i zero = (0, 0, 0, 0) ∷ []
abstractions i (suc k) = (1, 0, suc i, 0) ∷ abstractions (suc i) k

-- The case of the variable 0 with one branch of this value.
abbrev pub branching : (value : ℕ) → List ℕ
branching v = table ((1, 4, 1, 0) ∷ (4, 0, 2, 0) ∷ (0, 0, 0, 3) ∷ (5, v, 4, 0) ∷ (0, 0, 0, 0) ∷ [])

-- The case of the variable 0 with two branches of these values.
abbrev pub branching_twice : (first second : ℕ) → List ℕ
branching_twice v w = table ((1, 6, 1, 0) ∷ (4, 0, 2, 0) ∷ (0, 0, 0, 3) ∷ (5, v, 4, 5) ∷ (0, 0, 0, 0) ∷ (5, w, 6, 0) ∷ (0, 0, 0, 0) ∷ [])

-- Each refusal with the neighbour that just passes, and any two neighbours in the order of the checks.
pub record LoadingExamples : Type 0 where
  pub order : (S : Stored) (C : ℕ) → map (λ check. number check.0) (checks S C) ≡ 7 ∷ 1 ∷ 2 ∷ 8 ∷ 3 ∷ 4 ∷ 5 ∷ 6 ∷ []
  pub identity_loads : loading identity ≡ holding 2 14 (1 ∷ 0 ∷ [])
  pub other_order_loads : loading applied ≡ holding 4 12 (2 ∷ 1 ∷ 0 ∷ 24 ∷ [])
  pub case_loads : loading inspecting ≡ holding 7 9 (20 ∷ 139 ∷ 40 ∷ 133 ∷ 0 ∷ 269 ∷ 0 ∷ [])
  pub numerals_load : loading numerals ≡ holding 5 11 (2 ∷ 2 ∷ 22 ∷ 24 ∷ 254 ∷ [])
  pub workspace_of_15 : Refusing 7 (table identity) (replicate 15 9)
  pub a_word_too_many : Refusing 1 (table identity ++ (0 ∷ [])) fresh
  pub a_word_too_few : Refusing 1 (1 ∷ 2 ∷ 1 ∷ 0 ∷ 1 ∷ 0 ∷ 2 ∷ 0 ∷ 0 ∷ 0 ∷ 0 ∷ []) fresh
  pub no_header : Refusing 1 (1 ∷ 0 ∷ 1 ∷ []) fresh
  pub no_record : Refusing 1 (table ((1, 0, 0, 0) ∷ [])) fresh
  pub records_2048 : Refusing 8 (1 ∷ 2048 ∷ 1 ∷ 0 ∷ replicate 8192 0) fresh
  pub records_2049 : Refusing 1 (1 ∷ 2049 ∷ 1 ∷ 0 ∷ replicate 8196 0) fresh
  pub form_2 : Refusing 2 (table ((2, 1, 1, 0) ∷ (0, 0, 0, 0) ∷ [])) fresh
  pub form_0 : Refusing 2 (table ((0, 1, 1, 0) ∷ (0, 0, 0, 0) ∷ [])) fresh
  pub last_header_word : Refusing 2 (table ((1, 1, 1, 1) ∷ (0, 0, 0, 0) ∷ [])) fresh
  pub root_outside : Refusing 2 (table ((1, 1, 2, 0) ∷ (0, 0, 0, 0) ∷ [])) fresh
  pub root_0 : Refusing 2 (table ((1, 1, 0, 0) ∷ (0, 0, 0, 0) ∷ [])) fresh
  pub as_long_as_workspace : loading ((1, 16, 1, 0) ∷ abstractions 1 15) ≡ holding 16 0 (replicate 15 1 ++ (0 ∷ []))
  pub longer_than_workspace : Refusing 8 (1 ∷ 17 ∷ 1 ∷ 0 ∷ replicate 68 0) fresh
  pub kind_7 : Refusing 3 (table ((1, 1, 1, 0) ∷ (7, 0, 0, 0) ∷ [])) fresh
  pub index_32767 : Refusing 6 (table ((1, 1, 1, 0) ∷ (0, 32767, 0, 0) ∷ [])) fresh
  pub index_32768 : Refusing 3 (table ((1, 1, 1, 0) ∷ (0, 32768, 0, 0) ∷ [])) fresh
  pub tag_0 : Refusing 3 (table ((1, 1, 1, 0) ∷ (3, 0, 0, 0) ∷ [])) fresh
  pub tag_1 : loading ((1, 1, 1, 0) ∷ (3, 1, 0, 0) ∷ []) ≡ holding 1 15 (131 ∷ [])
  pub tag_255 : loading ((1, 1, 1, 0) ∷ (3, 255, 0, 0) ∷ []) ≡ holding 1 15 (32643 ∷ [])
  pub tag_256 : Refusing 3 (table ((1, 1, 1, 0) ∷ (3, 256, 0, 0) ∷ [])) fresh
  pub default_loads : load (branching 0) fresh ≡ holding 4 12 (12 ∷ 0 ∷ 5 ∷ 0 ∷ [])
  pub branch_tag_0_bound_1 : Refusing 3 (branching 1) fresh
  pub branch_tag_0_bound_15 : Refusing 3 (branching 15) fresh
  pub branch_tag_1 : load (branching 16) fresh ≡ holding 4 12 (12 ∷ 0 ∷ 133 ∷ 0 ∷ [])
  pub branch_tag_255 : load (branching 4095) fresh ≡ holding 4 12 (12 ∷ 0 ∷ 32765 ∷ 0 ∷ [])
  pub branch_tag_256 : Refusing 3 (branching 4096) fresh
  pub numeral_31 : loading ((1, 1, 1, 0) ∷ (6, 31, 0, 0) ∷ []) ≡ holding 1 15 (254 ∷ [])
  pub numeral_32 : Refusing 3 (table ((1, 1, 1, 0) ∷ (6, 32, 0, 0) ∷ [])) fresh
  pub abstraction_with_value : Refusing 3 (table ((1, 2, 1, 0) ∷ (1, 1, 2, 0) ∷ (0, 0, 0, 0) ∷ [])) fresh
  pub application_with_value : Refusing 3 (table ((1, 3, 1, 0) ∷ (2, 1, 2, 0) ∷ (0, 0, 0, 3) ∷ (0, 0, 0, 0) ∷ [])) fresh
  pub case_with_value : Refusing 3 (table ((1, 2, 1, 0) ∷ (4, 1, 2, 0) ∷ (0, 0, 0, 0) ∷ [])) fresh
  pub link_to_itself : Refusing 4 (table ((1, 1, 1, 0) ∷ (1, 0, 1, 0) ∷ [])) fresh
  pub link_to_itself_alone : Refusing 4 (table ((1, 2, 1, 0) ∷ (0, 0, 0, 0) ∷ (1, 0, 2, 0) ∷ [])) fresh
  pub child_before_its_parent : Refusing 4 (table ((1, 3, 1, 0) ∷ (1, 0, 3, 0) ∷ (0, 0, 0, 0) ∷ (1, 0, 2, 0) ∷ [])) fresh
  pub next_before_its_sibling : Refusing 4 (table ((1, 3, 1, 0) ∷ (2, 0, 3, 0) ∷ (0, 0, 0, 0) ∷ (0, 0, 0, 2) ∷ [])) fresh
  pub link_outside : Refusing 4 (table ((1, 2, 1, 0) ∷ (1, 0, 3, 0) ∷ (0, 0, 0, 0) ∷ [])) fresh
  pub link_outside_alone : Refusing 4 (table ((1, 1, 1, 0) ∷ (1, 0, 2, 0) ∷ [])) fresh
  pub named_by_none : Refusing 4 (table ((1, 2, 1, 0) ∷ (0, 0, 0, 0) ∷ (0, 0, 0, 0) ∷ [])) fresh
  pub named_twice : Refusing 4 (table ((1, 3, 1, 0) ∷ (2, 0, 2, 0) ∷ (1, 0, 3, 3) ∷ (0, 0, 0, 0) ∷ [])) fresh
  pub variable_with_a_child : Refusing 5 (table ((1, 2, 1, 0) ∷ (0, 0, 2, 0) ∷ (0, 0, 0, 0) ∷ [])) fresh
  pub numeral_with_a_child : Refusing 5 (table ((1, 2, 1, 0) ∷ (6, 0, 2, 0) ∷ (0, 0, 0, 0) ∷ [])) fresh
  pub arguments_15 : numberFits constructor_kind 15 ≡ true
  pub arguments_16 : numberFits constructor_kind 16 ≡ false
  pub no_subject : numberFits case_kind 0 ≡ false
  pub no_branches : numberFits case_kind 1 ≡ true
  pub branches_15 : numberFits case_kind 16 ≡ true
  pub branches_16 : numberFits case_kind 17 ≡ false
  pub root_with_a_next : Refusing 5 (table ((1, 2, 1, 0) ∷ (0, 0, 0, 2) ∷ (0, 0, 0, 0) ∷ [])) fresh
  pub root_a_branch : Refusing 5 (table ((1, 2, 1, 0) ∷ (5, 16, 2, 0) ∷ (0, 0, 0, 0) ∷ [])) fresh
  pub equal_tags : Refusing 5 (branching_twice 16 16) fresh
  pub default_first : load (branching_twice 0 16) fresh ≡ holding 6 10 (20 ∷ 0 ∷ 5 ∷ 0 ∷ 133 ∷ 0 ∷ [])
  pub default_second : Refusing 5 (branching_twice 16 0) fresh
  pub two_defaults : Refusing 5 (branching_twice 0 0) fresh
  pub free_number_255 : loading ((1, 2, 1, 0) ∷ (1, 0, 2, 0) ∷ (0, 256, 0, 0) ∷ []) ≡ holding 2 14 (1 ∷ 2048 ∷ [])
  pub free_number_256 : Refusing 6 (table ((1, 2, 1, 0) ∷ (1, 0, 2, 0) ∷ (0, 257, 0, 0) ∷ [])) fresh
  -- Tables that meet two refusals, neighbours in the order of the checks: the earlier one is answered.
  pub workspace_before_length : Refusing 7 (1 ∷ 0 ∷ 1 ∷ []) (replicate 15 9)
  pub length_before_header : Refusing 1 (table ((2, 1, 1, 0) ∷ [])) fresh
  pub header_before_too_long : Refusing 2 (2 ∷ 17 ∷ 1 ∷ 0 ∷ replicate 68 0) fresh
  pub too_long_before_values : Refusing 8 (1 ∷ 17 ∷ 1 ∷ 0 ∷ 7 ∷ replicate 67 0) fresh
  pub values_before_links : Refusing 3 (table ((1, 1, 1, 0) ∷ (7, 0, 1, 0) ∷ [])) fresh
  pub links_before_children : Refusing 4 (table ((1, 2, 1, 0) ∷ (0, 0, 2, 5) ∷ (0, 0, 0, 0) ∷ [])) fresh
  pub children_before_free_numbers : Refusing 5 (table ((1, 2, 1, 0) ∷ (0, 256, 0, 2) ∷ (0, 0, 0, 0) ∷ [])) fresh
  pub all_values_before_links : Refusing 3 (table ((1, 2, 1, 0) ∷ (1, 0, 1, 0) ∷ (7, 0, 0, 0) ∷ [])) fresh
  pub all_links_before_children : Refusing 4 (table ((1, 3, 1, 0) ∷ (0, 0, 2, 0) ∷ (0, 0, 0, 0) ∷ (0, 0, 0, 0) ∷ [])) fresh
  pub all_children_before_free_numbers : Refusing 5 (table ((1, 3, 1, 0) ∷ (2, 0, 2, 0) ∷ (0, 256, 0, 3) ∷ (1, 0, 0, 0) ∷ [])) fresh

pub record WritingExamples : Type 0 where
  pub identity_written : write (1 ∷ 0 ∷ replicate 14 9) 2 (replicate 12 9) ≡ record { answer = returned 2; table = table identity }
  pub other_order_written_anew : write (2 ∷ 1 ∷ 0 ∷ 24 ∷ replicate 12 9) 4 (replicate 20 9)
      ≡ record { answer = returned 4; table = table ((1, 4, 1, 0) ∷ (2, 0, 2, 0) ∷ (1, 0, 3, 4) ∷ (0, 0, 0, 0) ∷ (0, 3, 0, 0) ∷ []) }
  pub case_written : write (20 ∷ 139 ∷ 40 ∷ 133 ∷ 0 ∷ 269 ∷ 0 ∷ replicate 9 9) 7 (replicate 32 9)
      ≡ record { answer = returned 7; table = table inspecting }
  pub numerals_written : write (2 ∷ 2 ∷ 22 ∷ 24 ∷ 254 ∷ replicate 11 9) 5 (replicate 24 9) ≡ record { answer = returned 5; table = table numerals }
  pub default_written : write (12 ∷ 0 ∷ 5 ∷ 0 ∷ replicate 12 9) 4 (replicate 20 9) ≡ record { answer = returned 4; table = branching 0 }
  pub write_workspace_of_15 : Unwritten 7 (replicate 15 0) 1 (replicate 8 9)
  pub write_no_term : Unwritten 10 (1 ∷ 0 ∷ replicate 14 0) 1 (replicate 8 9)
  pub write_numeral_32 : Unwritten 10 (262 ∷ replicate 15 0) 1 (replicate 8 9)
  pub write_length_0 : Unwritten 10 (1 ∷ 0 ∷ replicate 14 0) 0 (replicate 4 9)
  pub write_length_17 : Unwritten 10 (replicate 15 1 ++ (0 ∷ [])) 17 (replicate 72 9)
  pub write_table_too_long : Unwritten 1 (1 ∷ 0 ∷ replicate 14 0) 2 (replicate 16 9)
  pub write_table_too_short : Unwritten 1 (1 ∷ 0 ∷ replicate 14 0) 2 (replicate 11 9)
  pub write_workspace_before_term : Unwritten 7 (replicate 15 1) 1 (replicate 8 9)
  pub write_term_before_length : Unwritten 10 (1 ∷ 0 ∷ replicate 14 0) 1 (replicate 7 9)

-- Refused tables that mean no term: a value where there should be 0, too many children, a branch. And prefix order, kept and broken.
pub record MeaningExamples : Type 0 where
  pub abstraction_with_value_means_none : Meaningless ((1, 2, 1, 0) ∷ (1, 1, 2, 0) ∷ (0, 0, 0, 0) ∷ [])
  pub application_with_value_means_none : Meaningless ((1, 3, 1, 0) ∷ (2, 1, 2, 0) ∷ (0, 0, 0, 3) ∷ (0, 0, 0, 0) ∷ [])
  pub case_with_value_means_none : Meaningless ((1, 2, 1, 0) ∷ (4, 1, 2, 0) ∷ (0, 0, 0, 0) ∷ [])
  pub child_of_a_variable_means_none : Meaningless ((1, 2, 1, 0) ∷ (0, 0, 2, 0) ∷ (0, 0, 0, 0) ∷ [])
  pub child_of_a_numeral_means_none : Meaningless ((1, 2, 1, 0) ∷ (6, 0, 2, 0) ∷ (0, 0, 0, 0) ∷ [])
  pub two_bodies_mean_none : Meaningless ((1, 3, 1, 0) ∷ (1, 0, 2, 0) ∷ (0, 0, 0, 3) ∷ (0, 0, 0, 0) ∷ [])
  pub three_parts_mean_none : Meaningless ((1, 4, 1, 0) ∷ (2, 0, 2, 0) ∷ (0, 0, 0, 3) ∷ (0, 0, 0, 4) ∷ (0, 0, 0, 0) ∷ [])
  pub branch_means_none : Meaningless ((1, 2, 1, 0) ∷ (5, 16, 2, 0) ∷ (0, 0, 0, 0) ∷ [])
  pub in_order : InPrefixOrder (view (in_form1 (table identity)))
  -- The body's record, the fourth, should stand third.
  pub not_in_order : InPrefixOrder (view (in_form1 (table applied))) → ⊥
