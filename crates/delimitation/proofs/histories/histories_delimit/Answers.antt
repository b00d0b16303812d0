use Rattle.delimitation.proofs.Led.{delimited}
use Rattle.delimitation.proofs.histories.histories_delimit.Goals as goal

pub returns : goal.returns
returns c = λ power h o l. delimited l
