-- The published table of a text with prices. Assumes nothing.
use Rattle.std.specs.Prelude.{◌≡◌, ℕ, ◌<◌, ◌≤◌, true, not, ◌&&◌, List, length, Ok, Err, Result, nat_lt, slice_index}
use Rattle.calendar.specs.Calendars.{last_regime}
use Rattle.calendar.specs.Tables.{table_bytes, table_quarters, table_above}
use Rattle.price_rule.specs.Prices.{is_year, zero_valued}
use Rattle.price_text.specs.Texts.{Told, told, TextRead}
use Rattle.price_text.specs.declared.problem.Problem.{Problem}

-- a table that has a quarter above zero exactly if it has a price and is not zero-valued by the run length of its regime
pub record TableOf (t : Told) (table : List ℕ) : Type 0 where
  pub long : length table ≡ table_bytes
  pub same : (regime quarter : ℕ) → regime ≤ last_regime → quarter < table_quarters
      → table_above table regime quarter ≡ (nat_lt quarter (length t.prices) && not (zero_valued t.prices (slice_index t.lengths regime) quarter))

-- the table of a text that tells a year's prices, or why the text tells none
abbrev pub Published : List ℕ → Result (List ℕ) Problem → Type 0
Published text (Ok table) = (t : Told) × (told text ≡ Ok t) × (is_year (length t.prices) ≡ true) × TableOf t table
Published text (Err problem) = TextRead text (Err problem)
