-- The published table: which bit stands for a regime and a quarter. Assumes nothing.
use Rattle.std.specs.Prelude.{ℕ, ◌+◌, ◌*◌, ◌/◌, ◌%◌, ◌^◌, Bool, cond, List, length, ◌==◌, slice_index}
use Rattle.calendar.specs.Calendars.{last_regime}

-- the quarter hours of 366 days
abbrev pub table_quarters : ℕ
table_quarters = 35136

-- the bytes of one regime's row, eight quarters to a byte
abbrev pub row_bytes : ℕ
row_bytes = 4392

-- the bytes of a table: a row for each regime in turn
abbrev pub table_bytes : ℕ
table_bytes = (last_regime + 1) * row_bytes

-- bytes of any other length have no quarter
abbrev pub table_span : List ℕ → ℕ
table_span bytes = cond (length bytes == table_bytes) table_quarters 0

-- a quarter is bit quarter mod 8, lowest first, of byte quarter / 8 of its regime's row; a 1 means above zero
abbrev pub table_above : List ℕ → ℕ → ℕ → Bool
table_above bytes regime quarter = slice_index bytes (regime * row_bytes + quarter / 8) / 2 ^ (quarter % 8) % 2 == 1
