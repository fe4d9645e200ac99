-- Runs of ones.
use Rattle.std.specs.Prelude.{ℕ, suc, ◌^◌, Bool, true, false, List, [], ◌∷◌}

-- The bits of a window, the machine word by which runs are measured.
abbrev pub window_bits : ℕ
window_bits = 64

-- The code's positions of bits are below this number.
abbrev pub position_bound : ℕ
position_bound = 2 ^ 64

-- How many ones stand in a row at the start.
abbrev pub run : List Bool → ℕ
run [] = 0
run (true ∷ bs) = suc (run bs)
run (false ∷ bs) = 0
