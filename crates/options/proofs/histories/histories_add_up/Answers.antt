use Rattle.options.proofs.Led.{added_up}
use Rattle.options.proofs.histories.histories_add_up.Goals as goal

pub returns : goal.returns
returns g c = λ power h o l. added_up g.O.SettlementOption g.met.O.SettlementOption.adds l
