use Rattle.worked_sums.proofs.Computed.{computed}
use Rattle.worked_sums.proofs.worked_sums.Goals as goal

pub returns : goal.returns
returns c = computed
