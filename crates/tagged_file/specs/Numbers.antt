-- Numbers in the content of a record: the high byte first, and a byte past the end counts 0. Assumes nothing.
use Rattle.std.specs.Prelude.{ℕ, ◌+◌, ◌*◌, List, slice_index}

-- the byte at a place
abbrev pub byte_at : List ℕ → ℕ → ℕ
byte_at bs i = slice_index bs i

-- the two bytes from a place on, as one number
abbrev pub two_at : List ℕ → ℕ → ℕ
two_at bs i = byte_at bs i * 256 + byte_at bs (i + 1)

-- the four bytes from a place on, as one number
abbrev pub four_at : List ℕ → ℕ → ℕ
four_at bs i = two_at bs i * 65536 + two_at bs (i + 2)
