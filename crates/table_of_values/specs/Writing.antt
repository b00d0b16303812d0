-- A value calendar written as a published table. Assumes nothing.
use Rattle.std.specs.Prelude.{◌≡◌, ℕ, ◌+◌, ◌/◌, ◌%◌, ◌^◌, ◌<◌, ◌≤◌, Bool, ◌&&◌, List, length, ◌==◌, nat_lt}
use Rattle.calendar.specs.Calendars.{last_regime}
use Rattle.calendar.specs.Tables.{table_quarters, table_bytes, table_above}
use Rattle.calendar.specs.declared.value_calendar.ValueCalendar.{Ghosts as Calendar}

module _ {C : Type 0} (calendar : Calendar C) (c : C) where
  -- whether the calendar has the pair above zero; past its span it has none
  abbrev pub marked : ℕ → ℕ → Bool
  marked regime quarter = nat_lt quarter (calendar.span c) && calendar.above c regime quarter

  -- a byte that has a 1 for each of the eight quarters from the first on that is above zero, lowest first
  abbrev pub Marks : ℕ → ℕ → ℕ → Type 0
  Marks regime first byte = (bit : ℕ) → bit < 8 → (byte / 2 ^ bit % 2 == 1) ≡ marked regime (first + bit)

  -- a published table that has exactly the calendar's pairs above zero
  pub record Table (bytes : List ℕ) : Type 0 where
    pub long : length bytes ≡ table_bytes
    pub same : (regime quarter : ℕ) → regime ≤ last_regime → quarter < table_quarters → table_above bytes regime quarter ≡ marked regime quarter
