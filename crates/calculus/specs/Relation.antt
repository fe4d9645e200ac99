-- Closures and normal forms of any relation (abstract rewriting).
use Rattle.std.specs.Prelude.{◌⊎◌}

module _ {A : Type 0} (R : A → A → Type 0) where
  -- None or more steps, one after the other, lead from the first to the second: the reflexive transitive closure.
  pub data Star : A → A → Type 0 where
    stop : {a : A} → Star a a
    step : {a b c : A} → R a b → Star b c → Star a c

  -- A conversion sequence: neighbours are one step apart, in either direction; an element alone joins itself.
  pub data Chain : A → A → Type 0 where
    alone : {a : A} → Chain a a
    link : {a b c : A} → (R a b ⊎ R b a) → Chain b c → Chain a c

  -- No step is possible.
  abbrev pub NormalForm : A → Type 0
  NormalForm a = (b : A) → R a b → ⊥
