use Rattle.std.proofs.Common.{take}
use Rattle.std.specs.List.{flat_map}
use Rattle.std.specs.Fmt.{IsPlainFormatter, HasWritten}
use Rattle.figures.specs.Text.{as_line, plant_text, contract_text}
use Rattle.statement.proofs.text.StatementDisplay.fmt.Given as goal

abbrev pub invariant-loop-plant : goal.invariant-loop-plant
invariant-loop-plant g l = IsPlainFormatter l.initial.f → HasWritten g.W.Write.write_str_gives l.initial.f (flat_map (λ p. as_line (plant_text p)) (take l.plant-index l.plant-items)) l.f

abbrev pub invariant-loop-contract : goal.invariant-loop-contract
invariant-loop-contract g l = IsPlainFormatter l.initial.f → HasWritten g.W.Write.write_str_gives l.initial.f (flat_map (λ c. as_line (contract_text c)) (take l.contract-index l.contract-items)) l.f
