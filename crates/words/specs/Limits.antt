-- A limit that the code's numbers keep.
use Rattle.std.specs.Prelude.{ℕ, ◌/◌, ◌^◌}
use Rattle.calculus.specs.Words.{kind_base}

-- The payloads of a word of 32 bits are below this number.
abbrev pub payload_bound : ℕ
payload_bound = 2 ^ 32 / kind_base
