-- The years that can be settled, and their quarter hours. Assumes nothing.
use Rattle.std.specs.Prelude.{ℕ, ◌%◌, Bool, cond, ◌&&◌, ◌==◌, nat_le}

abbrev pub settleable : ℕ → Bool
settleable year = nat_le 2025 year && nat_le year 2099

-- 366 days of 96 quarter hours if four divides the year, otherwise 365
abbrev pub quarters_in : ℕ → ℕ
quarters_in year = cond (year % 4 == 0) 35136 35040
