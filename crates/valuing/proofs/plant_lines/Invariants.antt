use Rattle.valuing.specs.Valued.{plant_row}
use Rattle.figures.specs.Blank.{no_plant_line}
use Rattle.valuing.proofs.Filling.{Filled}
use Rattle.valuing.proofs.plant_lines.Given as goal

abbrev pub invariant-loop-place : goal.invariant-loop-place
invariant-loop-place g l = Filled (plant_row g.O.SettlementOption l.option l.register) no_plant_line 8 l.place l.lines
