-- The text of a statement, line by line. Assumes nothing.
use Rattle.std.specs.Prelude.{ℕ, List, ◌++◌, codes, decimal}
use Rattle.std.specs.List.{flat_map}
use Rattle.figures.specs.Text.{draw_text, feed_in_text, plant_text, contract_text, standing_text, as_line}
use Rattle.statement.specs.declared.Statement.{Statement}
use Rattle.statement.specs.Lines.{plant_lines, contract_lines}

abbrev pub year_line : Statement → List ℕ
year_line s =
    codes "year " ++ (decimal s.year ++ (codes " option " ++ (decimal s.option ++ (codes " quarters " ++ (decimal s.quarters
    ++ (codes " " ++ as_line (standing_text s.standing)))))))

-- the year, the draw, the feed-in, and a line for each plant and each contract
abbrev pub statement_text : Statement → List ℕ
statement_text s =
    year_line s ++ (as_line (draw_text s.totals.draw) ++ (as_line (feed_in_text s.totals.feed_in)
    ++ (flat_map (λ p. as_line (plant_text p)) (plant_lines s) ++ flat_map (λ c. as_line (contract_text c)) (contract_lines s))))
