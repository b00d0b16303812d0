use Rattle.account.specs.Statements.{contract_row}
use Rattle.figures.specs.Blank.{no_contract_line}
use Rattle.valuing.proofs.Filling.{Filled}
use Rattle.account.proofs.settling.contract_lines.Given as goal

abbrev pub invariant-loop-place : goal.invariant-loop-place
invariant-loop-place l = Filled (contract_row l.netted l.ledger) no_contract_line 4 l.place l.lines
