-- What a walk of rounds, by any question, keeps and reaches.
use Prim.Native.Nat.{ℕ}
use Rattle.calculus.specs.Term.{Term}
use Rattle.calculus.specs.Accepted.{Accepted}
use Rattle.calculus.specs.Relation.{stop, step}
use Rattle.calculus.specs.Conversion.{Reaches}
use Rattle.calculus.specs.Rounds.{Question}
use Rattle.calculus.proofs.Rewriting.{star-append}
use Rattle.calculus.proofs.LeftmostLaws.{leftmost_contracts}
use Rattle.calculus.proofs.AcceptedLaws.{leftmost_keeps_accepted}
use Rattle.calculus.proofs.RoundsLaws.{Walk, walk_keeps}

pub walk_accepted : {early : Question} {C s : ℕ} {t u t' u' : Term} → Walk early C s t u t' u' → (Accepted 0 t → Accepted 0 t') × (Accepted 0 u → Accepted 0 u')
walk_accepted {early} w = walk_keeps early {P = Accepted 0} (λ t t' e f. leftmost_keeps_accepted 0 t t' e) w

walk_reaches : {early : Question} {C s : ℕ} {t u t' u' : Term} → Walk early C s t u t' u' → (x : Term)
    → (Reaches x t → Reaches x t') × (Reaches x u → Reaches x u')
walk_reaches {early} w x = walk_keeps early {P = Reaches x} (λ t t' e f h. star-append h (step (leftmost_contracts t t' e) stop)) w

-- Contractions reach the terms at the end of a walk from those at its start.
pub reached : {early : Question} {C s : ℕ} {t u t' u' : Term} → Walk early C s t u t' u' → Reaches t t' × Reaches u u'
reached {t = t} {u = u} w = ((walk_reaches w t).0 stop, (walk_reaches w u).1 stop)
