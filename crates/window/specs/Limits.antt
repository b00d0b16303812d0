-- How much of a file is held or told at most. Assumes nothing.
use Rattle.std.specs.Prelude.{ℕ, ◌-◌, ◌^◌}

-- the bytes that a window holds
abbrev pub window_bytes : ℕ
window_bytes = 32768

-- the largest offset: the largest number of 64 bits
abbrev pub most_offset : ℕ
most_offset = 2 ^ 64 - 1
