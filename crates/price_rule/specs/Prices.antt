-- Which quarters are zero-valued by their prices, in hundredths of a euro per MWh. Assumes nothing.
use Rattle.std.specs.Prelude.{ℕ, zero, suc, ◌+◌, ◌<◌, ◌≤◌, Bool, true, false, cond, ◌&&◌, ◌||◌, List, length, ℤ, pos, ◌<ℤ◌, ◌==◌, int_lt, nat_lt, slice_index_or}

-- the quarter hours of 365 and of 366 days
abbrev pub common_year : ℕ
common_year = 35040

abbrev pub leap_year : ℕ
leap_year = 35136

-- as many prices as a year has quarter hours
abbrev pub is_year : ℕ → Bool
is_year count = count == common_year || count == leap_year

-- prices of any other number have no quarter
abbrev pub price_span : List ℤ → ℕ
price_span prices = cond (is_year (length prices)) (length prices) 0

-- whether the price of a quarter is negative; past the last price there is none
abbrev pub negative : List ℤ → ℕ → Bool
negative prices quarter = int_lt (slice_index_or prices quarter (pos 0)) (pos 0)

-- whether so many prices from the start on are all negative
abbrev pub negative_run : List ℤ → ℕ → ℕ → Bool
negative_run prices start zero = true
negative_run prices start (suc count) = negative prices (start + count) && negative_run prices start count

-- whether a run of that length which starts below the bound is negative and contains the quarter
abbrev pub in_run_from_below : List ℤ → ℕ → ℕ → ℕ → Bool
in_run_from_below prices run quarter zero = false
in_run_from_below prices run quarter (suc start) =
    (nat_lt quarter (start + run) && negative_run prices start run) || in_run_from_below prices run quarter start

-- a quarter is zero-valued if some negative run of the run length contains it, so never if that is 0
abbrev pub zero_valued : List ℤ → ℕ → ℕ → Bool
zero_valued prices run quarter = in_run_from_below prices run quarter (suc quarter)

-- an unbroken run of negative prices, at least as long as the run length, that contains the quarter
pub record RunAround (prices : List ℤ) (run quarter : ℕ) : Type 0 where
  pub start : ℕ
  pub end : ℕ
  pub begun : start ≤ quarter
  pub unended : quarter < end
  pub inside : end ≤ length prices
  pub some : 1 ≤ run
  pub long : start + run ≤ end
  pub unbroken : (k : ℕ) → start ≤ k → k < end → slice_index_or prices k (pos 0) <ℤ pos 0
