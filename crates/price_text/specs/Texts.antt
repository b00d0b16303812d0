-- A year's prices as a text: a line with the run lengths, and then a line for each price. Assumes nothing.
use Rattle.std.specs.Prelude.{◌≡◌, ℕ, ◌+◌, true, false, List, [], ◌∷◌, length, ℤ, Ok, Err, vec_items, Result, Vec}
use Rattle.std.specs.declared.alloc.Global.{Global}
use Rattle.price_rule.specs.Prices.{is_year}
use Rattle.price_line.specs.declared.flaw.Flaw.{Flaw}
use Rattle.price_line.specs.declared.flaw.Flaw.TheVariants.{NoRunLengths}
use Rattle.price_text.specs.declared.problem.LineProblem.{LineProblem}
use Rattle.price_text.specs.declared.problem.Problem.{Problem}
use Rattle.price_text.specs.declared.problem.Problem.TheVariants.{Line, NoYear, NoMemory}
use Rattle.price_text.specs.declared.text.PriceText.{PriceText}
use Rattle.price_text.specs.Lines.{lines_read}
use Rattle.price_line.specs.Prices.{price_of}
use Rattle.price_line.specs.RunLengths.{run_lengths_of}

abbrev pub problem : ℕ → Flaw → LineProblem
problem number flaw = record { number = number; flaw = flaw }

-- the price of the line with this number, in front of those of the lines after it
abbrev pub price_then : ℕ → Result ℤ Flaw → Result (List ℤ) LineProblem → Result (List ℤ) LineProblem
price_then number (Err flaw) others = Err (problem number flaw)
price_then number (Ok price) (Ok others) = Ok (price ∷ others)
price_then number (Ok price) (Err later) = Err later

-- the prices of lines, the first of which has this number; or the first line that spells none
abbrev pub prices_of : ℕ → List (List ℕ) → Result (List ℤ) LineProblem
prices_of number [] = Ok []
prices_of number (line ∷ lines) = price_then number (price_of line) (prices_of (number + 1) lines)

-- what reading the lines after the first comes to, unless memory is wanting
abbrev pub PricesRead : List ℕ → Result (Vec ℤ Global) Problem → Type 0
PricesRead text (Ok prices) = prices_of 2 (lines_read text) ≡ Ok (vec_items prices)
PricesRead text (Err (Line p)) = prices_of 2 (lines_read text) ≡ Err p
PricesRead text (Err (NoYear last)) = ⊥
PricesRead text (Err NoMemory) = Unit {0}

-- what a text tells: a run length for each regime, and prices
pub record Told : Type 0 where
  pub lengths : List ℕ
  pub prices : List ℤ

abbrev pub lengths_then : Result (List ℕ) Flaw → Result (List ℤ) LineProblem → Result Told LineProblem
lengths_then (Err flaw) prices = Err (problem 1 flaw)
lengths_then (Ok lengths) (Ok prices) = Ok (record { lengths = lengths; prices = prices })
lengths_then (Ok lengths) (Err later) = Err later

abbrev pub told_by : List (List ℕ) → Result Told LineProblem
told_by [] = Err (problem 1 NoRunLengths)
told_by (line ∷ lines) = lengths_then (run_lengths_of line) (prices_of 2 lines)

-- what a text tells, or the first of its lines that is flawed
abbrev pub told : List ℕ → Result Told LineProblem
told text = told_by (lines_read text)

-- what reading a text comes to, unless memory is wanting
abbrev pub TextRead : List ℕ → Result PriceText Problem → Type 0
TextRead text (Ok read) = (told text ≡ Ok (record { lengths = read.run_lengths; prices = vec_items read.prices })) × (is_year (length (vec_items read.prices)) ≡ true)
TextRead text (Err (Line p)) = told text ≡ Err p
TextRead text (Err (NoYear last)) = (t : Told) × (told text ≡ Ok t) × (last ≡ length t.prices + 1) × (is_year (length t.prices) ≡ false)
TextRead text (Err NoMemory) = Unit {0}
