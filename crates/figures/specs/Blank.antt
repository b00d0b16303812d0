-- Lines that say nothing. Assumes nothing.
use Rattle.figures.specs.declared.lines.ContractLine.{ContractLine}
use Rattle.figures.specs.declared.lines.DrawFigures.{DrawFigures}
use Rattle.figures.specs.declared.lines.PlantLine.{PlantLine}

abbrev pub no_draw : DrawFigures
no_draw = record { draw = 0; netted = 0; levied = 0 }

abbrev pub no_plant_line : PlantLine
no_plant_line = record { place = 0; portion = 0; marked = 0; valued = 0; unvalued = 0 }

abbrev pub no_contract_line : ContractLine
no_contract_line = record { number = 0; draw = no_draw }
