use Rattle.std.proofs.Common.{rules}
use Rattle.balance.specs.Runs.{begins_blank, sets, adds, checks}
use Rattle.worked_sums.proofs.run.drafted.Goals as goal

pub returns : goal.returns
returns c = (
  search rules,
  search rules,
  checks 30000 (adds (sets (begins_blank c.new-draft.ensures) c.in_ok-set_year.ensures) c.in_ok-add_plant.ensures) c.in_ok-check_fitness.ensures,
)
