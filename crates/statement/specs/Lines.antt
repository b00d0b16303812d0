-- The lines of a statement that count, and a statement that says nothing yet. Assumes nothing.
use Rattle.std.specs.Prelude.{min, List, take, replicate}
use Rattle.figures.specs.declared.lines.ContractLine.{ContractLine}
use Rattle.figures.specs.declared.lines.PlantLine.{PlantLine}
use Rattle.figures.specs.declared.lines.Standing.TheVariants.{Interim}
use Rattle.figures.specs.Blank.{no_draw, no_plant_line, no_contract_line}
use Rattle.statement.specs.declared.Statement.{Statement}

-- a line for each plant, in the order of adding; there are at most eight
abbrev pub plant_lines : Statement → List PlantLine
plant_lines s = take (min s.plant_count 8) s.plants

-- a line for each contract, in the order of beginning; there are at most four
abbrev pub contract_lines : Statement → List ContractLine
contract_lines s = take (min s.contract_count 4) s.contracts

abbrev pub blank : Statement
blank = record {
  year = 0;
  option = 0;
  quarters = 0;
  standing = Interim;
  totals = record { draw = no_draw; feed_in = record { feed_in = 0; base = 0; nettable = 0; unassigned = 0; unused = 0 } };
  plants = replicate 8 no_plant_line;
  plant_count = 0;
  contracts = replicate 4 no_contract_line;
  contract_count = 0;
}
