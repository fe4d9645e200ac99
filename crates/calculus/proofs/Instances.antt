-- The instances hold: contractions by their rules, the rest by computation.
use Prim.Native.Nat.{ℕ}
use mathlib.Core.Path.{◌≡◌, refl, ap}
use mathlib.Core.List.{[], ◌∷◌}
use mathlib.Core.Logic.Dec
use mathlib.Core.Logic.{inl, inr}
use mathlib.Core.Option.{bind, or_else}
use native.Mathlib.Decide.{dec_le, dec_lt}
use native.Mathlib.Omega.{arith}
use Rattle.calculus.specs.Decide.{both₃, is_tag?, starts_above?, rising?, everywhere?, tagged?, accepted?}
use Rattle.calculus.specs.Read.{take_term, take_terms, take_branches, read_lam, read_app, read_con, read_case, read_branch, item, items, one_term, read}
use Rattle.calculus.specs.Step.{first_step}
use Rattle.calculus.specs.Leftmost.{leftmost}
use Rattle.calculus.specs.Contraction.{by_beta, at_beta, at_case, at_numeral, in_body, in-argument}
use Rattle.calculus.specs.Relation.{stop, step, alone, link}
use Rattle.calculus.specs.Instances.{Instances, inner_redex, inner_contracted}
use Rattle.calculus.specs.Accepted.{Accepted}
use Rattle.calculus.specs.Term.{var}
use Rattle.calculus.specs.Words.{size}
use Rattle.calculus.specs.Conversion.{Normal}
use Rattle.calculus.proofs.ReadLaws.{read_accepted}
use Rattle.calculus.proofs.LeftmostLaws.{leftmost_none}

inner_accepted : Accepted 0 inner_redex
unfolding read items item take_term take_terms take_branches read_lam read_app read_con read_case read_branch one_term accepted? everywhere? tagged? both₃ is_tag? starts_above? rising? Dec.and dec_le dec_lt bind or_else
inner_accepted = read_accepted (1 ∷ 2 ∷ 0 ∷ 2 ∷ 1 ∷ 0 ∷ 8 ∷ []) refl

contracted_accepted : Accepted 0 inner_contracted
unfolding read items item take_term take_terms take_branches read_lam read_app read_con read_case read_branch one_term accepted? everywhere? tagged? both₃ is_tag? starts_above? rising? Dec.and dec_le dec_lt bind or_else
contracted_accepted = read_accepted (1 ∷ 2 ∷ 0 ∷ 8 ∷ []) refl

f1_normal : Normal (var 1)
unfolding first_step leftmost
f1_normal = (leftmost_none (var 1)).0 refl

pub instances : Instances
instances =
    record {
      packable = (omega arith, (tt, tt));
      packable_numeral = tt;
      starts_alike = refl;
      moves_up = refl;
      moves_down = refl;
      moves_to_0 = refl;
      between = refl;
      rising = (omega arith, (tt, tt));
      contracts_by_beta = at_beta;
      contracts_by_case = at_case refl;
      contracts_by_default = at_case refl;
      contracts_by_numeral = at_numeral;
      contracts_inside = in_body (in-argument at_beta);
      contracts_by_numeral_32 = at_numeral;
      lies_before = omega arith;
      accepted = inner_accepted;
      accepted_short = omega arith;
      other_accepted = contracted_accepted;
      unequal = λ e. let z : ◌≡◌ {A = ℕ} 7 4 = ap size e in omega arith;
      differ_at_the_redex = refl;
      normal = f1_normal;
      reaches_itself = stop;
      joins_itself = alone;
      contracts_once = (0, by_beta, at_beta);
      reaches_by_one = step (0, by_beta, at_beta) stop;
      joined = link (inl (0, by_beta, at_beta)) (link (inr (0, by_beta, at_beta)) alone);
    }
