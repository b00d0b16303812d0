-- How much a file may have. Assumes nothing.
use Rattle.std.specs.Prelude.{ℕ}

-- the remarks of a file
abbrev pub most_remarks : ℕ
most_remarks = 4096
