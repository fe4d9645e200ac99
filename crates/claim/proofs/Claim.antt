-- Demand 3: the claim about every list of presses.
use Rattle.claim.specs.Presses.{history}
use Rattle.claim.specs.Claim.{EveryListOfPresses}
use Rattle.claim.proofs.PressLaws.{stands_first}
use Rattle.claim.proofs.PressesLaws.{reached_by, replies_answered, each_leaves, all_refused, in-one-go}
use Rattle.claim.proofs.Settled.{stopped_by, settled_stays, settled_on_first_terms, settled_agree, settled_same, settled_different, settled_first_difference, settled_no_position}

pub every_list_of_presses : EveryListOfPresses
every_list_of_presses C t u start lh rh calls =
    let reached = reached_by lh rh calls in
    let stands = stands_first start lh rh in
    record {
      replies = replies_answered stands calls;
      leaves = each_leaves stands calls;
      all_refused = all_refused reached;
      in-one-go = λ B. in-one-go (history start calls) B reached;
      stays = λ a e. settled_stays lh rh (stopped_by lh rh calls e);
      on_first_terms = λ a e. settled_on_first_terms (stopped_by lh rh calls e);
      agree = λ a e d C' start' calls' lh' rh' a' e' d'.
          settled_agree (stopped_by lh rh calls e) (stopped_by lh' rh' calls' e') d d';
      same = λ a e. settled_same (stopped_by lh rh calls e);
      different = λ a e. settled_different (stopped_by lh rh calls e);
      first_difference = λ a e. settled_first_difference (stopped_by lh rh calls e) lh rh;
      no_position = λ a e. settled_no_position (stopped_by lh rh calls e);
    }
