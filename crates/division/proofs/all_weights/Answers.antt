use Rattle.std.proofs.Common.{ap, ◌∙◌, arith}
use Rattle.division.proofs.Sums.{weights_more}
use Rattle.division.proofs.all_weights.Goals as goal

pub loop-row-preserved : goal.loop-row-preserved
loop-row-preserved g c =
    let weight = g.R.Weighted.weight in (
      (weights_more weight c.args.rows.now c.loop-row.row-index c.row-item.result _ _ c.loop-row-test.true c.loop-row.invariant.0 (c.weight.ensures ∙ ap weight c.row-item.is)).0,
      omega arith,
    )
