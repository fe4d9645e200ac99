-- The contraction in place: the contractum waits in the scratch while the words behind the redex move, and then takes its place.
use Prim.Native.Nat.{ℕ, suc, ◌+◌, ◌-◌, ◌≤◌}
use mathlib.Core.Path.{◌≡◌, refl, sym, ◌∙◌, ap, ap₂}
use mathlib.Core.List.{List, [], ◌∷◌, ◌++◌}
use native.Mathlib.Omega.{arith}
use lib.ListN.{length, drop, set, length-append}
use lib.Seq.{sets, sets-eq, length-sets, slice, length-slice}
use Rattle.calculus.specs.Words.{words, size}
use Rattle.words.specs.Placed.{Placed, Copies}
use Rattle.words.proofs.PlacedLaws.{sets-append, placed_length, placed_start}
use Rattle.substitution.specs.Results.{Substitutes}
use Rattle.substitution.specs.declared.Body.{Body}
use Rattle.redex.specs.declared.Redex.{Redex}
use Rattle.redex.specs.Next.{next, next_from}
use Rattle.redex.specs.Plan.{contractum, Substituting, Puttable}
use Rattle.redex.proofs.NextLaws.{start, next_splits, next-size}
use Rattle.step.specs.Contract.{Fits, HasRoom, Contracted}
use Rattle.step.proofs.TailLaws.{set-sets}

-- A body with its arguments may be substituted.
pub substitutes : {ws put scratch room : List ℕ} {b : Body} → Substituting ws b → Fits put scratch room
    → Substitutes ws b.start b.stop b.args b.after b.count room
substitutes p f =
    record {
      substitutable = p.substitutable;
      from = p.from;
      to = p.to;
      after_is = p.after_is;
      enough = omega (arith, p.small, f.room_fits);
    }

-- Words put before other words that were put.
sets_before : (us vs l : List ℕ) (i j : ℕ) → i + length us ≤ j → sets (sets l j vs) i us ≡ sets (sets l i us) j vs
sets_before [] vs l i j h = refl
sets_before (u ∷ us) vs l i j h =
    ap (λ m. sets m (suc i) us) (set-sets vs l i j u (omega arith)) ∙ sets_before us vs (set l i u) (suc i) j (omega arith)

module _ {ws scratch room : List ℕ} {n : ℕ} {r : Redex} (h : HasRoom ws n r scratch room) where
  abbrev rest : List ℕ
  rest = slice r.end n ws

  -- The next term is as long as its parts.
  pub lengths : size (next ws n r.at) ≡ r.at + (length (contractum ws r) + (n - r.end))
  lengths =
      let p = h.plan in
      omega (
        arith,
        next-size p.redex,
        ap length p.rest,
        length-append (contractum ws r) rest,
        length-slice r.end n ws (start p.redex).within,
      )

  pub puttable : Puttable ws r.rule
  puttable = h.plan.puttable

  pub contractum_fits : Fits (contractum ws r) scratch room
  contractum_fits = record { scratch_fits = omega (arith, lengths, h.plan.length_is, h.scratch_fits); room_fits = h.room_fits }

  module _ {scratch' : List ℕ} {put : ℕ} (gathered : Placed scratch 0 (contractum ws r) scratch' put) where
    pub tail_fits : Copies ws r.end n ws (r.at + put)
    tail_fits =
        record {
          ordered = h.plan.ends;
          within = (start h.plan.redex).within;
          fits = omega (arith, lengths, h.plan.length_is, h.fits, gathered.position);
        }

    module _ {ws₁ : List ℕ} (moved : ws₁ ≡ sets ws (r.at + put) rest) where
      same_length : length ws₁ ≡ length ws
      same_length = ap length moved ∙ length-sets ws (r.at + put) rest

      pub back_fits : Copies scratch' 0 put ws₁ r.at
      back_fits =
          record {
            ordered = omega arith;
            within = omega (arith, gathered.position, contractum_fits.scratch_fits, placed_length gathered);
            fits = omega (arith, lengths, h.plan.length_is, h.fits, gathered.position, same_length);
          }

      put_back : sets ws₁ r.at (contractum ws r) ≡ words (next ws n r.at) ++ drop (size (next ws n r.at)) ws
      put_back =
          let p = h.plan in
          let e : r.at + put ≡ r.at + length (contractum ws r) = omega (arith, gathered.position) in
          ap (λ l. sets l r.at (contractum ws r)) (moved ∙ ap (λ k. sets ws k rest) e)
          ∙ sets_before (contractum ws r) rest ws r.at (r.at + length (contractum ws r)) (omega arith)
          ∙ sym (sets-append (contractum ws r) rest ws r.at)
          ∙ ap (sets ws r.at) (sym p.rest)
          ∙ sets-eq (next_from ws n r.at) ws r.at (omega (arith, next-size p.redex, p.length_is, h.fits))
          ∙ ap₂ (λ xs k. xs ++ drop k ws) (sym (next_splits p.redex)) (sym (next-size p.redex))

      pub contracted : {ws₂ : List ℕ} {k : ℕ} → Placed ws₁ r.at (slice 0 put scratch') ws₂ k → Contracted ws n r scratch r.length ws₂ scratch'
      contracted w =
          record {
            returned = h.plan.length_is;
            workspace = w.slice ∙ ap (sets ws₁ r.at) (placed_start (omega (arith, contractum_fits.scratch_fits)) gathered) ∙ put_back;
            written = gathered.slice;
          }
