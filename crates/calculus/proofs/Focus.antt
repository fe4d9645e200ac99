-- A contraction of a term that can be packed, whose indices are bounded and whose numerals have an entry, in its words: the redex is such a term too,
-- and contracts at its own first word.
use Prim.Native.Nat.{ℕ}
use mathlib.Core.Path.{◌≡◌}
use mathlib.Core.List.{List, ◌++◌}
use mathlib.Core.Option.{some}
use lib.ListN.{length}
use Rattle.calculus.specs.Term.{Sort, Exp, Term}
use Rattle.calculus.specs.Words.{words}
use Rattle.calculus.specs.Everywhere.{Asked}
use Rattle.calculus.specs.Contraction.{Rule, Contracts}
use Rattle.calculus.specs.Position.{contract_at}
use Rattle.calculus.specs.Theorems.{counted, Packable, within, IndicesWithin}
use Rattle.calculus.proofs.WordLaws.{in_library, InLibrary}
use Rattle.calculus.proofs.Site.{site}
use Rattle.calculus.proofs.PositionLaws.{contracts_contract_at}

pub record Focus (limit : ℕ) (ws vs : List ℕ) (p : ℕ) : Type 0 where
  pub redex : Term
  pub contractum : Term
  pub before : List ℕ
  pub after : List ℕ
  pub from : ws ≡ before ++ (words redex ++ after)
  pub to : vs ≡ before ++ (words contractum ++ after)
  pub position : length before ≡ p
  pub contracts : contract_at 0 redex ≡ some contractum
  pub packable : Packable redex
  pub indices : IndicesWithin limit redex
  pub numerals : InLibrary redex

data Property : Type 0 where
  of_counts of_indices of_numerals : Property

abbrev asks : ℕ → Property → Asked (Unit {0})
asks limit of_counts = counted
asks limit of_indices = within limit
asks limit of_numerals = in_library

pub focus : {s : Sort} {p : ℕ} {r : Rule} {e g : Exp s} (limit : ℕ) → Contracts s p r e g → Packable e → IndicesWithin limit e → InLibrary e
    → Focus limit (words e) (words g) p
focus limit c h i l =
    let f = site (asks limit) c in
    record {
      redex = f.redex;
      contractum = f.contractum;
      before = f.before;
      after = f.after;
      from = f.from;
      to = f.to;
      position = f.position;
      contracts = contracts_contract_at f.contracts;
      packable = f.asked of_counts h;
      indices = f.asked of_indices i;
      numerals = f.asked of_numerals l;
    }
