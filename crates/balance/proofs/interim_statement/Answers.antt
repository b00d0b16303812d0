use Rattle.balance.specs.Runs.{states_interim}
use Rattle.balance.proofs.interim_statement.Goals as goal

pub returns : goal.returns
returns g c = record {
  fills = c.statement.ensures;
  balances = λ calendar calls l. (c.runs_balance.ensures calendar _ _ (states_interim c.args.statement.now l c.statement.ensures)).0;
}
